-- Which packages import a package, as each is added.
use Rattle.std.proofs.Common.{◌≡◌, ℕ, ◌+◌, ◌<◌, ◌≤◌, List, [], ◌∷◌, ◌++◌, Contains, inl, inr, refl, sym, ap, ◌∙◌, subst, length, arith, slice_set}
use Rattle.std.specs.Prelude.{replicate}
use Rattle.std.proofs.lemmas.Bool.{cases_lt, cases_eq}
use Rattle.std.proofs.lemmas.List.{length-set, length-replicate, get_or-set_same, get_or-set_other, get_or_past}
use Rattle.std.proofs.lemmas.List.Elements.{Contains-append_left, Contains-push}
use Rattle.board.specs.Ready.{row}
use Rattle.board.specs.Importers.{AddsImporter, AreImporters}
use Rattle.board.proofs.Lists.{none_in, in_rest}

pub adds_none : (importer : ℕ) (old : List (List ℕ)) → AddsImporter [] importer old old
adds_none importer old = record { as_many = refl; keeps = λ j p c. c; adds = λ j c low. absurd (none_in j c) }

module _ (j importer : ℕ) (old new : List (List ℕ)) (is : new ≡ slice_set old j (row old j ++ importer ∷ [])) where
  as_many : length new ≡ length old
  as_many = ap (λ (l : List (List ℕ)). length l) is ∙ length-set old j (row old j ++ importer ∷ [])

  here : j < length old → row new j ≡ row old j ++ importer ∷ []
  here low = ap (λ (l : List (List ℕ)). row l j) is ∙ get_or-set_same old j (row old j ++ importer ∷ []) [] low

  stays : (k p : ℕ) → Contains (row old k) p → Contains (row new k) p
  stays k p c =
      elim (cases_eq k j) [
        | inl same ↦ elim (cases_lt j (length old)) [
          | inl low ↦ (
              let P : List ℕ → Type 0 = λ l. Contains l p in
              let Q : ℕ → Type 0 = λ i. Contains (row new i) p in
              let R : ℕ → Type 0 = λ i. Contains (row old i) p in
              subst Q (sym same) (subst P (sym (here low)) (
              Contains-append_left (row old j) (importer ∷ []) p (subst R same c))))
          | inr past ↦ (
              let P : List ℕ → Type 0 = λ l. Contains l p in
              let R : ℕ → Type 0 = λ i. Contains (row old i) p in
              absurd (none_in p (subst P (get_or_past old j [] past) (subst R same c))))
        ]
        | inr apart ↦ (
            let P : List ℕ → Type 0 = λ l. Contains l p in
            subst P (sym (
            ap (λ (l : List (List ℕ)). row l k) is ∙ get_or-set_other old j k (row old j ++ importer ∷ []) [] apart)) c)
      ]

  pub adds_next : (rest : List ℕ) (end : List (List ℕ)) → AddsImporter rest importer new end
      → AddsImporter (j ∷ rest) importer old end
  adds_next rest end h = record {
    as_many = h.as_many ∙ as_many;
    keeps = λ k p c. h.keeps k p (stays k p c);
    adds = λ k c low.
        elim (cases_eq k j) [
          | inl same ↦ (
              let P : List ℕ → Type 0 = λ l. Contains l importer in
              let Q : ℕ → Type 0 = λ i. Contains (row end i) importer in
              let R : ℕ → Type 0 = λ i. i < length old in
              subst Q (sym same) (h.keeps j importer (
              subst P (sym (here (subst R same low))) (Contains-push (row old j) importer))))
          | inr apart ↦ h.adds k (in_rest j rest k apart c) (omega (arith, low, as_many))
        ];
  }

-- those that import a package, of the packages before a place
abbrev pub ImportersBefore : List (List ℕ) → ℕ → List (List ℕ) → Type 0
ImportersBefore rows place importers =
    (length importers ≡ length rows)
    × ((p j : ℕ) → p < place → Contains (row rows p) j → j < length rows → Contains (row importers j) p)

pub none_before : (rows importers : List (List ℕ)) → importers ≡ replicate (length rows) [] → ImportersBefore rows 0 importers
none_before rows importers is = (
  ap (λ (l : List (List ℕ)). length l) is ∙ length-replicate (length rows) [],
  λ p j low c bound. absurd (omega (arith, low)),
)

pub next_before : (rows old new : List (List ℕ)) (imports : List ℕ) (place : ℕ) → ImportersBefore rows place old
    → imports ≡ row rows place → AddsImporter imports place old new → ImportersBefore rows (place + 1) new
next_before rows old new imports place before is h = (
  h.as_many ∙ before.0,
  λ p j low c bound.
      elim (cases_lt p place) [
        | inl less ↦ h.keeps j p (before.1 p j less c bound)
        | inr past ↦ (
            let same : p ≡ place = omega (arith, low, past) in
            let P : List ℕ → Type 0 = λ l. Contains l j in
            let Q : ℕ → Type 0 = λ i. Contains (row rows i) j in
            let R : ℕ → Type 0 = λ i. Contains (row new j) i in
            subst R (sym same) (h.adds j (subst P (sym is) (subst Q same c)) (omega (arith, bound, before.0))))
      ],
)

pub all_before : (rows importers : List (List ℕ)) (place : ℕ) → length rows ≤ place → ImportersBefore rows place importers
    → AreImporters rows importers
all_before rows importers place all before p j c low =
    elim (cases_lt p (length rows)) [
      | inl less ↦ before.1 p j (omega (arith, less, all)) c low
      | inr past ↦ (
          let P : List ℕ → Type 0 = λ l. Contains l j in
          absurd (none_in j (subst P (get_or_past rows p [] past) c)))
    ]
