-- All packages are judged: those with a rank in the order of ranks, and then the others.
use Rattle.std.proofs.Common.{◌≡◌, ℕ, zero, suc, ◌+◌, ◌<◌, ◌≤◌, inl, inr, List, [], ◌∷◌, ◌++◌, length, Contains, Option, Some, refl, sym, ap, ◌∙◌, subst, arith}
use Rattle.std.specs.Prelude.{slice_get}
use Rattle.std.proofs.lemmas.Bool.{cases_lt}
use Rattle.std.proofs.lemmas.List.{append_assoc}
use Rattle.std.proofs.lemmas.List.Elements.{Contains-append_cases}
use Rattle.std.proofs.lemmas.Option.{same_Some, none-some, slice_get_within}
use Rattle.meaning.proofs.Membership.{contains_nil, contains_here, contains_there, contains_cases}
use Rattle.imports.specs.Ranks.{IsOrder}
use Rattle.imports.proofs.GivenImports.{imported_there}
use Rattle.whole_packages.specs.declared.loaded_package.LoadedPackage.{LoadedPackage as KeptPackage}
use Rattle.meaning_reports.specs.Loaded.{LoadedPackage, import_list}
use Rattle.meaning_reports.specs.PackageReports.{Rules}
use Rattle.one_package.specs.Certified.{CertificateRule}
use Rattle.all_packages.specs.Progress.{Slots, AreRight, WasJudged, IsReady, IsNext, AreRankedJudged, AreAllJudged}
use Rattle.given_packages.proofs.ImportedNames.{some_from}

-- Places in lists

at_seam : (xs ys : List ℕ) (y : ℕ) → slice_get (xs ++ y ∷ ys) (length xs) ≡ Some y
at_seam [] ys y = refl
at_seam (x ∷ xs) ys y = at_seam xs ys y

before_seam : (xs ys : List ℕ) (k : ℕ) (x : ℕ) → k < length xs → slice_get (xs ++ ys) k ≡ Some x → Contains xs x
before_seam [] ys k x l is = absurd (omega (arith, l))
before_seam (z ∷ xs) ys zero x l is = subst (Contains (z ∷ xs)) (same_Some z x is) (contains_here z xs)
before_seam (z ∷ xs) ys (suc k) x l is = contains_there z x xs (before_seam xs ys k x (omega (arith, l)) is)

is_member : (xs : List ℕ) (k x : ℕ) → slice_get xs k ≡ Some x → Contains xs x
is_member [] k x is = absurd (none-some x is)
is_member (z ∷ xs) zero x is = subst (Contains (z ∷ xs)) (same_Some z x is) (contains_here z xs)
is_member (z ∷ xs) (suc k) x is = contains_there z x xs (is_member xs k x is)

-- Packages with a rank

-- some of them were judged, and these are left
pub record GoOn
    (rules : Rules) (rule : CertificateRule) (ps : List LoadedPackage) (kept : List KeptPackage) (all left : List ℕ)
    (slots : Slots)
    : Type 0 where
  pub done : List ℕ
  pub split : all ≡ done ++ left
  pub are_right : AreRight rules rule ps kept slots
  pub were_judged : (i : ℕ) → Contains done i → WasJudged ps slots i

module _ (rules : Rules) (ps : List LoadedPackage) (kept : List KeptPackage) where
  pub begins : {rule : CertificateRule} (all : List ℕ) (slots : Slots) → AreRight rules rule ps kept slots
      → GoOn rules rule ps kept all all slots
  begins all slots right = record {
    done = [];
    split = refl;
    are_right = right;
    were_judged = λ i h. absurd (contains_nil i h);
  }

  pub all_done : {rule : CertificateRule} (all left : List ℕ) (slots : Slots) → left ≡ []
      → GoOn rules rule ps kept all left slots
      → AreRankedJudged rules rule ps kept all slots
  all_done all left slots none on = record {
    are_right = on.are_right;
    were_judged = λ i h. elim (Contains-append_cases on.done left i (subst (λ xs. Contains xs i) on.split h)) [
      | inl was ↦ on.were_judged i was
      | inr other ↦ absurd (contains_nil i (subst (λ xs. Contains xs i) none other))
    ];
  }

  module _ (rank : ℕ → Option ℕ) (all : List ℕ) (order : IsOrder (import_list ps) rank all) where
    pub ready : {rule : CertificateRule} (i : ℕ) (left left_before : List ℕ) (slots : Slots)
        → left_before ≡ i ∷ left
        → GoOn rules rule ps kept all left_before slots
        → IsReady ps slots i
    ready i left left_before slots is on j im rank_j =
        let split : all ≡ on.done ++ i ∷ left = on.split ∙ ap (λ xs. on.done ++ xs) is in
        let here : slice_get all (length on.done) ≡ Some i =
        ap (λ xs. slice_get xs (length on.done)) split ∙ at_seam on.done left i in
        let lower = order.imports_first i j (length on.done) im ((order.places i (length on.done)).1 here) in
        let there : slice_get (on.done ++ i ∷ left) lower.0 ≡ Some j =
        ap (λ xs. slice_get xs lower.0) (sym split) ∙ (order.places j lower.0).0 lower.1 in
        on.were_judged j (before_seam on.done (i ∷ left) lower.0 j lower.2 there)

    pub one_more : {rule : CertificateRule} (i : ℕ) (left left_before : List ℕ) (before after : Slots)
        → left_before ≡ i ∷ left
        → GoOn rules rule ps kept all left_before before
        → IsNext rules rule ps kept before after i
        → GoOn rules rule ps kept all left after
    one_more i left left_before before after is on now = record {
      done = on.done ++ i ∷ [];
      split = on.split ∙ (ap (λ xs. on.done ++ xs) is ∙ sym (append_assoc on.done (i ∷ []) left));
      are_right = now.are_right;
      were_judged = λ j h. elim (Contains-append_cases on.done (i ∷ []) j h) [
        | inl was ↦ λ p is_p. now.were_judged j (on.were_judged j was p is_p)
        | inr here ↦ elim (contains_cases i j [] here) [
          | inl same ↦ subst (WasJudged ps after) same now.is_judged
          | inr bad ↦ absurd (contains_nil j bad)
        ]
      ];
    }

    -- The others

    -- where those with a rank were judged, all are ready
    pub all_ready : (i : ℕ) (slots : Slots) → ((j : ℕ) → Contains all j → WasJudged ps slots j) → IsReady ps slots i
    all_ready i slots were j im rank_j =
        let given = (order.ranks j).1 (imported_there (import_list ps) i j im, rank_j) in
        let r = some_from (rank j) given in
        were j (is_member all r.0 j ((order.places j r.0).0 r.1))

-- so far all packages before that place were judged, and all with a rank
pub record GoThrough
    (rules : Rules) (rule : CertificateRule) (ps : List LoadedPackage) (kept : List KeptPackage) (ranked : List ℕ)
    (place : ℕ) (slots : Slots)
    : Type 0 where
  pub are_right : AreRight rules rule ps kept slots
  pub ranked_judged : (i : ℕ) → Contains ranked i → WasJudged ps slots i
  pub were_judged : (i : ℕ) → i < place → WasJudged ps slots i

module _ (rules : Rules) (ps : List LoadedPackage) (kept : List KeptPackage) (ranked : List ℕ) where
  pub through_none : {rule : CertificateRule} (slots : Slots) → AreRankedJudged rules rule ps kept ranked slots
      → GoThrough rules rule ps kept ranked 0 slots
  through_none slots are = record {
    are_right = are.are_right;
    ranked_judged = are.were_judged;
    were_judged = λ i l. absurd (omega (arith, l));
  }

  pub through_one : {rule : CertificateRule} (place : ℕ) (before after : Slots)
      → GoThrough rules rule ps kept ranked place before
      → IsNext rules rule ps kept before after place
      → GoThrough rules rule ps kept ranked (place + 1) after
  through_one place before after on now = record {
    are_right = now.are_right;
    ranked_judged = λ i h p is. now.were_judged i (on.ranked_judged i h p is);
    were_judged = λ i l. elim (cases_lt i place) [
      | inl below ↦ λ p is. now.were_judged i (on.were_judged i below p is)
      | inr past ↦
          let same : place ≡ i = omega (arith, l, past) in
          subst (WasJudged ps after) same now.is_judged
    ];
  }

  pub through_all : {rule : CertificateRule} (place : ℕ) (slots : Slots) → length ps ≤ place
      → GoThrough rules rule ps kept ranked place slots
      → AreAllJudged rules rule ps kept slots
  through_all place slots past on = record {
    are_right = on.are_right;
    were_judged = λ i p is.
        let l = slice_get_within ps i p is in on.were_judged i (omega (arith, l, past)) p is;
  }
