-- The certificates of a package's bodies stand in the order of their files, and in one file in that of the bodies.
use Rattle.std.proofs.Common.{◌≡◌, ◌⊎◌, inl, inr, ℕ, ◌+◌, ◌<◌, ◌≤◌, Bool, true, false, List, [], ◌∷◌, ◌++◌, map, Contains, refl, sym, ap, ◌∙◌, subst, arith}
use Rattle.std.specs.Prelude.{if◌then◌else◌, nat_le}
use Rattle.std.specs.List.Sorted.{IsStrictlySortedBy}
use Rattle.std.specs.declared.cmp.Ordering.TheVariants.{Less}
use Rattle.std.specs.Ordering.{nat_cmp, ordering_then}
use Rattle.std.proofs.lemmas.Bool.{leb-true, leb-false}
use Rattle.std.proofs.lemmas.List.Elements.{Contains-append_cases}
use Rattle.std.proofs.lemmas.List.{map-append}
use Rattle.tree.specs.Syntax.{SourceFile}
use Rattle.meaning.specs.Mentions.{BodyPlace, marks_by, file_marks}
use Rattle.meaning.specs.Tracked.{Known, some_keep, placed}
use Rattle.meaning.specs.Uses.{Callee, Seen}
use Rattle.meaning.specs.BodyEvents.{put_body, by_place as in_place, bodies_of, opened_in, seen_file}
use Rattle.meaning.proofs.Membership.{contains_nil, contains_here, contains_there, contains_cases}
use Rattle.meaning_packages.specs.CallsFlags.{FileWithCredits, calls_by}
use Rattle.meaning_packages.proofs.BodyPlaces.{placed_only}
use Rattle.meaning_reports.specs.Loaded.{LoadedPackage, Tables, imported_flags, keeping_in, known_in, seen_from, trees_of}
use Rattle.meaning_reports.specs.PackageTables.{AreCredited, no_file as none_credited, file_and as credited_and, IsTable, empty, full}
use Rattle.meaning_runs.specs.BodyOffsets.{BeginOnce}
use Rattle.meaning_runs.specs.Promise.{AreTreesOfTexts}
use Rattle.meaning_runs.proofs.BodyOffsets.{bodies_begin_once}
use Rattle.table_json.specs.Tables.{Rise}
use Rattle.certificate_json.specs.Certificates.{BodyEntry, by_place, place_of}
use Rattle.all_certificates.specs.CertifiedBodies.{AreOfBody, InTurn, no_item, item_and, AreOfFiles, no_file, file_and}
use Rattle.all_certificates.specs.CertifiedPackages.{AreOfPackage}
use Rattle.plain_tables.proofs.RisingLists.{is_less, is_same, all_below, rise_both}

-- Bodies whose places rise

abbrev pub Climb : List BodyPlace → Type 0
Climb [] = Unit {0}
Climb (b ∷ bs) = ((c : BodyPlace) → Contains bs c → b.at < c.at) × Climb bs

put_only : (b : BodyPlace) (cs : List BodyPlace) (x : BodyPlace) → Contains (put_body b cs) x → (b ≡ x) ⊎ Contains cs x
put_only b [] x h = contains_cases b x [] h
put_only b (c ∷ cs) x h = by (nat_le b.at c.at) h (put_only b cs x)
  where
    by : (t : Bool) → Contains (if t then b ∷ c ∷ cs else c ∷ put_body b cs) x
        → (Contains (put_body b cs) x → (b ≡ x) ⊎ Contains cs x)
        → (b ≡ x) ⊎ Contains (c ∷ cs) x
    by true k go = contains_cases b x (c ∷ cs) k
    by false k go = elim (contains_cases c x (put_body b cs) k) [
      | inl same ↦ inr (subst (λ y. Contains (c ∷ cs) y) same (contains_here c cs))
      | inr later ↦ elim (go later) [ inl own ↦ inl own | inr there ↦ inr (contains_there c x cs there) ]
    ]

put_climbs : (b : BodyPlace) (cs : List BodyPlace) → ((c : BodyPlace) → Contains cs c → b.at ≡ c.at → ⊥) → Climb cs
    → Climb (put_body b cs)
put_climbs b [] other h = (λ c none. absurd (contains_nil c none), tt)
put_climbs b (c ∷ cs) other h =
    by (nat_le b.at c.at) (leb-true b.at c.at) (leb-false b.at c.at) (other c (contains_here c cs))
    (put_climbs b cs (λ x there. other x (contains_there c x cs there)) h.1)
  where
    by : (t : Bool) → (t ≡ true → b.at ≤ c.at) → (t ≡ false → c.at < b.at) → (b.at ≡ c.at → ⊥)
        → Climb (put_body b cs)
        → Climb (if t then b ∷ c ∷ cs else c ∷ put_body b cs)
    by true low high apart rest = (
      λ x there. elim (contains_cases c x cs there) [
        | inl same ↦ subst (λ (y : BodyPlace). b.at < y.at) same (first (low refl) apart)
        | inr later ↦ let lower = first (low refl) apart in let next = h.0 x later in omega (arith, lower, next)
      ],
      h,
    )
      where
        first : b.at ≤ c.at → (b.at ≡ c.at → ⊥) → b.at < c.at
        first lower unlike = omega (arith, lower, unlike)
    by false low high apart rest = (
      λ x there. elim (put_only b cs x there) [
        | inl same ↦ subst (λ (y : BodyPlace). c.at < y.at) same (high refl)
        | inr later ↦ h.0 x later
      ],
      rest,
    )

in_place_climb : (bs : List BodyPlace) → BeginOnce bs → Climb (in_place bs)
in_place_climb [] h = tt
in_place_climb (b ∷ bs) h =
    put_climbs b (in_place bs) (λ c there. h.0 c (placed_only bs c there)) (in_place_climb bs h.1)

-- the bodies of the tree begin at different places, by the marks that are looked at
abbrev BeginsOnce : Known → SourceFile → Type 0
BeginsOnce known tree =
    BeginOnce (opened_in (placed [] (marks_by known.edition (some_keep known.fields) (file_marks tree))))

tree_climbs : (known : Known) (tree : SourceFile) → BeginsOnce known tree → Climb (bodies_of (seen_file known tree))
tree_climbs known tree once =
    in_place_climb (opened_in (placed [] (marks_by known.edition (some_keep known.fields) (file_marks tree)))) once

all_climb : (known : ℕ → Known) (n : ℕ) (trees : List SourceFile)
    → ((number : ℕ) (tree : SourceFile) → Contains trees tree → BeginsOnce (known number) tree)
    → (s : Seen)
    → Contains (seen_from known n trees) s
    → Climb (bodies_of s)
all_climb known n [] once s h = absurd (contains_nil s h)
all_climb known n (tree ∷ trees) once s h =
    elim (contains_cases (seen_file (known n) tree) s (seen_from known (n + 1) trees) h) [
      | inl same ↦ subst (λ x. Climb (bodies_of x)) same (tree_climbs (known n) tree (once n tree (contains_here tree trees)))
      | inr later ↦ all_climb known (n + 1) trees (λ m t there. once m t (contains_there tree t trees there)) s later
    ]

abbrev ClimbAll : List FileWithCredits → Type 0
ClimbAll [] = Unit {0}
ClimbAll (file ∷ files) = Climb (bodies_of file.seen) × ClimbAll files

credited_climb : {seens : List Seen} {files : List FileWithCredits} → AreCredited seens files
    → ((s : Seen) → Contains seens s → Climb (bodies_of s))
    → ClimbAll files
credited_climb none_credited h = tt
credited_climb (credited_and {seen = seen} {rest = rest} same credits more) h = (
  subst (λ s. Climb (bodies_of s)) (sym same) (h seen (contains_here seen rest)),
  credited_climb more λ s there. h s (contains_there seen s rest there),
)

-- The order of places

in_files : (p q : ℕ × ℕ) → p.0 < q.0 → by_place p q ≡ Less
in_files p q h = ap (λ o. ordering_then o (nat_cmp p.1 q.1)) (is_less p.0 q.0 h)

in_file : (p q : ℕ × ℕ) → p.0 ≡ q.0 → p.1 < q.1 → by_place p q ≡ Less
in_file p q same h =
    ap (λ n. ordering_then (nat_cmp p.0 n) (nat_cmp p.1 q.1)) (sym same)
    ∙ (ap (λ o. ordering_then o (nat_cmp p.1 q.1)) (is_same p.0) ∙ is_less p.1 q.1 h)

-- Entries of one file

-- they stand in the file of that number, at bodies
record StandIn (number : ℕ) (bodies : List BodyPlace) (entries : List BodyEntry) : Type 0 where
  inside : (p : ℕ × ℕ) → Contains (map place_of entries) p
      → (p.0 ≡ number) × ((b : BodyPlace) × Contains bodies b × (p.1 ≡ b.at))
  rise : Rise by_place place_of entries

module _ (calls : Callee → ℕ → Bool) (number : ℕ) (file : FileWithCredits) where
  abbrev Has : BodyPlace → List BodyEntry → Type 0
  Has = AreOfBody calls file.credits number file.seen

  one_and : (b : BodyPlace) (bodies : List BodyPlace) (own rest : List BodyEntry)
      → ((c : BodyPlace) → Contains bodies c → b.at < c.at)
      → Has b own
      → StandIn number bodies rest
      → StandIn number (b ∷ bodies) (own ++ rest)
  unfolding IsStrictlySortedBy
  one_and b bodies [] rest below has stand = record {
    inside = λ p among. let w = stand.inside p among in (w.0, (w.1.0, contains_there b w.1.0 bodies w.1.1, w.1.2));
    rise = stand.rise;
  }
  one_and b bodies (entry ∷ []) rest below has stand = record {
    inside = λ p among. elim (contains_cases (place_of entry) p (map place_of rest) among) [
      | inl same ↦ (
        sym (ap (λ (x : ℕ × ℕ). x.0) same) ∙ has.is_file,
        (b, contains_here b bodies, sym (ap (λ (x : ℕ × ℕ). x.1) same) ∙ has.is_place),
      )
      | inr later ↦ let w = stand.inside p later in (w.0, (w.1.0, contains_there b w.1.0 bodies w.1.1, w.1.2))
    ];
    rise = (
      all_below by_place (place_of entry) (map place_of rest) λ p among.
          let w = stand.inside p among in
          let here = has.is_place in
          let there = w.1.2 in
          let lower = below w.1.0 w.1.1 in
          in_file (place_of entry) p (has.is_file ∙ sym w.0) (omega (arith, here, there, lower)),
      stand.rise,
    );
  }
  one_and b bodies (entry ∷ other ∷ entries) rest below has stand = absurd has

  stand_in : {bodies : List BodyPlace} {entries : List BodyEntry} → InTurn Has bodies entries → Climb bodies
      → StandIn number bodies entries
  unfolding IsStrictlySortedBy
  stand_in no_item h = record { inside = λ p none. absurd (contains_nil p none); rise = tt }
  stand_in (item_and {a = b} {others = bodies} {own = own} {rest = rest} has more) h =
      one_and b bodies own rest h.0 has (stand_in more h.1)

-- Entries of files

record StandFrom (number : ℕ) (entries : List BodyEntry) : Type 0 where
  behind : (p : ℕ × ℕ) → Contains (map place_of entries) p → number ≤ p.0
  rise : Rise by_place place_of entries

both_stand : (number : ℕ) (bodies : List BodyPlace) (own rest : List BodyEntry) → StandIn number bodies own
    → StandFrom (number + 1) rest
    → StandFrom number (own ++ rest)
both_stand number bodies own rest one others = record {
  behind = λ p among.
      elim (Contains-append_cases (map place_of own) (map place_of rest) p (subst (λ ps. Contains ps p) both among)) [
        | inl first ↦ let same = (one.inside p first).0 in omega (arith, same)
        | inr second ↦ let far = others.behind p second in omega (arith, far)
      ];
  rise =
      subst (IsStrictlySortedBy by_place) (sym both)
      (rise_both by_place (map place_of own) (map place_of rest) one.rise others.rise λ p q first second.
      let same = (one.inside p first).0 in
      let far = others.behind q second in
      in_files p q (omega (arith, same, far)));
}
  where
    both : map place_of (own ++ rest) ≡ map place_of own ++ map place_of rest
    both = map-append place_of own rest

module _ (calls : Callee → ℕ → Bool) where
  stand_from : {number : ℕ} {files : List FileWithCredits} {entries : List BodyEntry}
      → AreOfFiles calls number files entries
      → ClimbAll files
      → StandFrom number entries
  unfolding IsStrictlySortedBy
  stand_from no_file h = record { behind = λ p none. absurd (contains_nil p none); rise = tt }
  stand_from (file_and {number = number} {file = file} {own = own} {rest = rest} has more) h =
      both_stand number (bodies_of file.seen) own rest (stand_in calls number file has h.0) (stand_from more h.1)

none_rise : (entries : List BodyEntry) → entries ≡ [] → Rise by_place place_of entries
unfolding IsStrictlySortedBy
none_rise entries none = subst (Rise by_place place_of) (sym none) tt

-- of a package whose trees are those of texts
pub bodies_in_order : (ps : List LoadedPackage) (tables : Tables) (i : ℕ) (p : LoadedPackage)
    (entries : List BodyEntry) → IsTable ps tables i p (tables p.path)
    → AreTreesOfTexts p
    → AreOfPackage ps tables i p entries
    → Rise by_place place_of entries
bodies_in_order ps tables i p entries is texts are = by is
  where
    once : (number : ℕ) (tree : SourceFile) → Contains (trees_of p) tree → BeginsOnce (known_in ps tables p number) tree
    once number tree there =
        let text = texts tree there in
        bodies_begin_once p.edition (some_keep (keeping_in ps tables p)) text.0 tree text.1

    by : IsTable ps tables i p (tables p.path) → Rise by_place place_of entries
    by (empty x whole none) = none_rise entries (are.are_none x whole)
    by (full flags none its same calls told) =
        let of = are.of_bodies none in
        (stand_from (calls_by (tables p.path).calls (imported_flags p tables)) of.are_of
        (credited_climb of.are_files (all_climb (known_in ps tables p) 0 (trees_of p) once))).rise
