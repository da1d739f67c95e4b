-- Of what is kept of a table that table is made again, where it is sound.
use Rattle.std.proofs.Common.{◌≡◌, ◌⊎◌, inl, inr, ℕ, Bool, true, false, List, [], ◌∷◌, ◌++◌, map, Contains, Option, Some, None, is_some, option_map, refl, sym, ap, ◌∙◌, subst, bytes_eq}
use Rattle.std.specs.Prelude.{if◌then◌else◌, flat_map}
use Rattle.std.specs.List.{AllByRecursion, list_all, list_any}
use Rattle.std.specs.List.Sorted.{IsStrictlySortedBy}
use Rattle.std.proofs.lemmas.Bool.{and_from, and_parts, false≢true, or_cases, or_left, or_right}
use Rattle.std.proofs.lemmas.Option.{none-some}
use Rattle.std.proofs.lemmas.Slice.Eq.{bytes_eq-Decides}
use Rattle.meaning.proofs.Membership.{contains_nil, contains_cases}
use Rattle.meaning.specs.FunctionFacts.{cancel, FunctionFacts}
use Rattle.meaning.specs.Uses.{facts_take}
use Rattle.meaning_reports.specs.Loaded.{PackageTable}
use Rattle.meaning_reports.specs.PackageTables.{tells}
use Rattle.table_json.specs.Tables.{HasOrder, by_bytes}
use Rattle.plain_tables.proofs.FactOrder.{AreRisingIf, has_order}
use Rattle.plain_tables.proofs.RisingLists.{IsThinned, rise_left}
use Rattle.vetx_json.specs.KeptUnits.{FunctionEntry, facts_of, name_of}
use Rattle.vetx_tables.specs.KeptLaws.{AreKept}
use Rattle.vetx_tables.specs.KeptTables.{calls_at, facts_again, facts_fit, fit_if_known, function_fits, function_in, function_kept, kept_for, kept_if, table_again, tells_something}
use Rattle.vetx_tables.proofs.KeptFunctions.{called_again, called_there, facts_same, parameters_fit, told_if_tracked, tracked_if_told}

-- the table is one that a package is judged by: positions rise, what is called is a cancel parameter, and it tells of
-- something where a parameter or a result is tracked
pub record IsSound (table : PackageTable) : Type 0 where
  pub rising : (name : List ℕ) → AreRisingIf (table.signatures name)
  pub calls_taken : (name : List ℕ) (k : ℕ) → table.calls name k ≡ true
      → facts_take cancel k (table.signatures name) ≡ true
  pub told_if : (name : List ℕ) → tells (table.signatures name) ≡ true → table.is_told ≡ true
  pub some_told : table.is_told ≡ true → (name : List ℕ) × (tells (table.signatures name) ≡ true)

same_truth : (a b : Bool) → (a ≡ true → b ≡ true) → (b ≡ true → a ≡ true) → a ≡ b
same_truth true b h k = sym (h refl)
same_truth false true h k = k refl
same_truth false false h k = refl

all_at : {A : Type 0} (test : A → Bool) (xs : List A) (x : A) → list_all test xs ≡ true → Contains xs x → test x ≡ true
all_at test [] x e h = absurd (contains_nil x h)
all_at test (y ∷ ys) x e h =
    let parts = and_parts (test y) (list_all test ys) e in
    elim (contains_cases y x ys h) [
      | inl same ↦ ap test (sym same) ∙ parts.0
      | inr later ↦ all_at test ys x parts.1 later
    ]

same_facts : {A : Type 0} (o : Option A) (a b : A) → o ≡ Some a → o ≡ Some b → a ≡ b
same_facts o a b e f = cc

some_tells : (o : Option FunctionFacts) → tells o ≡ true → (f : FunctionFacts) × (o ≡ Some f) × (tells (Some f) ≡ true)
some_tells None e = absurd (false≢true e)
some_tells (Some f) e = (f, refl, e)

some_takes : (k : ℕ) (o : Option FunctionFacts) → facts_take cancel k o ≡ true
    → (f : FunctionFacts) × (o ≡ Some f) × (facts_take cancel k (Some f) ≡ true)
some_takes k None e = absurd (false≢true e)
some_takes k (Some f) e = (f, refl, e)

module _ (table : PackageTable) where
  abbrev pub kept : List ℕ → FunctionFacts → FunctionEntry
  kept name facts = function_kept (table.calls name) name facts

  abbrev pub all_kept : List (List ℕ) → List FunctionEntry
  all_kept names = flat_map (kept_for table) names

  -- The function of a name

  module _ (name : List ℕ) where
    none_in : (names : List (List ℕ)) → table.signatures name ≡ None → function_in (all_kept names) name ≡ None
    none_in [] none = refl
    none_in (n ∷ names) none = by (table.signatures n) refl (none_in names none)
      where
        by : (o : Option FunctionFacts) → table.signatures n ≡ o → function_in (all_kept names) name ≡ None
            → function_in (kept_if (table.calls n) n o ++ all_kept names) name ≡ None
        by None is rest = rest
        by (Some facts) is rest = by_name (bytes_eq n name) refl
          where
            by_name : (b : Bool) → bytes_eq n name ≡ b
                → (if b then Some (kept n facts) else function_in (all_kept names) name) ≡ None
            by_name true same =
                absurd (none-some facts (sym none ∙ ap table.signatures (sym ((bytes_eq-Decides n name).0 same)) ∙ is))
            by_name false other = rest

    found_in : (names : List (List ℕ)) (facts : FunctionFacts) → table.signatures name ≡ Some facts
        → Contains names name
        → function_in (all_kept names) name ≡ Some (kept name facts)
    found_in [] facts is there = absurd (contains_nil name there)
    found_in (n ∷ names) facts is there =
        by (table.signatures n) refl (contains_cases n name names there) (found_in names facts is)
      where
        by : (o : Option FunctionFacts) → table.signatures n ≡ o
            → ((n ≡ name) ⊎ Contains names name)
            → (Contains names name → function_in (all_kept names) name ≡ Some (kept name facts))
            → function_in (kept_if (table.calls n) n o ++ all_kept names) name ≡ Some (kept name facts)
        by None its (inl same) rest =
            absurd (none-some facts (sym its ∙ ap table.signatures same ∙ is))
        by None its (inr later) rest = rest later
        by (Some found) its place rest = by_name (bytes_eq n name) refl place
          where
            by_name : (b : Bool) → bytes_eq n name ≡ b → ((n ≡ name) ⊎ Contains names name)
                → (if b then Some (kept n found) else function_in (all_kept names) name) ≡ Some (kept name facts)
            by_name true same h =
                let is_name = (bytes_eq-Decides n name).0 same in
                let are = same_facts (table.signatures name) found facts (ap table.signatures (sym is_name) ∙ its) is in
                λ i. Some (kept (is_name i) (are i))
            by_name false other (inl same) =
                absurd (false≢true (sym other ∙ (bytes_eq-Decides n name).1 same))
            by_name false other (inr later) = rest later

  -- Some function

  module _ (test : FunctionEntry → Bool) where
    pub record PassesKept : Type 0 where
      pub name : List ℕ
      pub facts : FunctionFacts
      pub are_facts : table.signatures name ≡ Some facts
      pub passes : test (kept name facts) ≡ true

    some_known : (names : List (List ℕ)) → list_any test (all_kept names) ≡ true → PassesKept
    some_known [] e = absurd (false≢true e)
    some_known (n ∷ names) e = by (table.signatures n) refl e (some_known names)
      where
        by : (o : Option FunctionFacts) → table.signatures n ≡ o
            → list_any test (kept_if (table.calls n) n o ++ all_kept names) ≡ true
            → (list_any test (all_kept names) ≡ true → PassesKept)
            → PassesKept
        by None is h rest = rest h
        by (Some facts) is h rest = elim (or_cases (test (kept n facts)) (list_any test (all_kept names)) h) [
          | inl here ↦ record { name = n; facts = facts; are_facts = is; passes = here }
          | inr later ↦ rest later
        ]

    known_passes : (names : List (List ℕ)) (name : List ℕ) (facts : FunctionFacts) → Contains names name
        → table.signatures name ≡ Some facts
        → test (kept name facts) ≡ true
        → list_any test (all_kept names) ≡ true
    known_passes [] name facts there is e = absurd (contains_nil name there)
    known_passes (n ∷ names) name facts there is e =
        by (table.signatures n) refl (contains_cases n name names there) (λ later. known_passes names name facts later is e)
      where
        by : (o : Option FunctionFacts) → table.signatures n ≡ o → ((n ≡ name) ⊎ Contains names name)
            → (Contains names name → list_any test (all_kept names) ≡ true)
            → list_any test (kept_if (table.calls n) n o ++ all_kept names) ≡ true
        by None its (inl same) rest = absurd (none-some facts (sym its ∙ ap table.signatures same ∙ is))
        by None its (inr later) rest = rest later
        by (Some found) its (inl same) rest =
            let are = same_facts (table.signatures name) found facts (ap table.signatures (sym same) ∙ its) is in
            or_left (test (kept n found)) (list_any test (all_kept names)) ((λ i. test (kept (same i) (are i))) ∙ e)
        by (Some found) its (inr later) rest =
            or_right (test (kept n found)) (list_any test (all_kept names)) (rest later)

  -- The order of names

  abbrev same_name : List ℕ → List ℕ
  same_name name = name

  kept_left : (name : List ℕ) → IsThinned by_bytes same_name name_of name (kept_for table name)
  kept_left name = by (table.signatures name)
    where
      by : (o : Option FunctionFacts) → IsThinned by_bytes same_name name_of name (kept_if (table.calls name) name o)
      by None = inl refl
      by (Some facts) = inr (kept name facts, refl, refl)

  same_names : (names : List (List ℕ)) → map same_name names ≡ names
  same_names [] = refl
  same_names (name ∷ names) = λ i. name ∷ same_names names i

  each_kept : ((name : List ℕ) → AreRisingIf (table.signatures name)) → (names : List (List ℕ))
      → AllByRecursion (λ f. HasOrder (facts_of f)) (all_kept names)
  each_kept rising [] = tt
  each_kept rising (n ∷ names) = by (table.signatures n) (rising n) (each_kept rising names)
    where
      by : (o : Option FunctionFacts) → AreRisingIf o → AllByRecursion (λ f. HasOrder (facts_of f)) (all_kept names)
          → AllByRecursion (λ f. HasOrder (facts_of f)) (kept_if (table.calls n) n o ++ all_kept names)
      by None rise rest = rest
      by (Some facts) rise rest = (has_order (table.calls n) n facts rise, rest)

  -- The table

  module _ (names : List (List ℕ)) (sound : IsSound table)
      (are_all : (name : List ℕ) → is_some (table.signatures name) ≡ true → Contains names name)
      (fit : list_all (function_fits table) names ≡ true) where
    there : (name : List ℕ) (facts : FunctionFacts) → table.signatures name ≡ Some facts → Contains names name
    there name facts is = are_all name (ap is_some is)

    fits_of : (name : List ℕ) (facts : FunctionFacts) → table.signatures name ≡ Some facts → facts_fit facts ≡ true
    fits_of name facts is =
        ap fit_if_known (sym is) ∙ all_at (function_fits table) names name fit (there name facts is)

    signature_again : (name : List ℕ) → (table_again (all_kept names)).signatures name ≡ table.signatures name
    signature_again name = by (table.signatures name) refl
      where
        by : (o : Option FunctionFacts) → table.signatures name ≡ o
            → option_map facts_again (function_in (all_kept names) name) ≡ o
        by None is = ap (option_map facts_again) (none_in name names is)
        by (Some facts) is =
            ap (option_map facts_again) (found_in name names facts is (there name facts is))
            ∙ ap Some (facts_same (table.calls name) name facts (fits_of name facts is)
            (subst AreRisingIf is (sound.rising name)))

    known_again : (name : List ℕ) (k : ℕ) → list_any (calls_at name k) (all_kept names) ≡ true
        → table.calls name k ≡ true
    known_again name k e =
        let one = some_known (calls_at name k) names e in
        let parts = and_parts (bytes_eq name one.name) _ one.passes in
        ap (λ n. table.calls n k) ((bytes_eq-Decides name one.name).0 parts.0)
        ∙ called_again (table.calls one.name) k one.facts.parameters
        (parameters_fit one.facts (fits_of one.name one.facts one.are_facts)) parts.1

    known_there : (name : List ℕ) (k : ℕ) → table.calls name k ≡ true
        → list_any (calls_at name k) (all_kept names) ≡ true
    known_there name k e =
        let taken = some_takes k (table.signatures name) (sound.calls_taken name k e) in
        known_passes (calls_at name k) names name taken.0 (there name taken.0 taken.1) taken.1
        (and_from (bytes_eq name name) _ ((bytes_eq-Decides name name).1 refl)
        (called_there (table.calls name) k taken.0.parameters
        (parameters_fit taken.0 (fits_of name taken.0 taken.1)) e taken.2))

    told_again : list_any tells_something (all_kept names) ≡ true → table.is_told ≡ true
    told_again e =
        let one = some_known tells_something names e in
        sound.told_if one.name
        (ap tells one.are_facts ∙ tracked_if_told (table.calls one.name) one.name one.facts one.passes)

    told_there : table.is_told ≡ true → list_any tells_something (all_kept names) ≡ true
    told_there e =
        let some = sound.some_told e in
        let known = some_tells (table.signatures some.0) some.1 in
        known_passes tells_something names some.0 known.0 (there some.0 known.0 known.1) known.1
        (told_if_tracked (table.calls some.0) some.0 known.0 (fits_of some.0 known.0 known.1) known.2)

    pub is_again : table_again (all_kept names) ≡ table
    is_again i = record {
      signatures = λ name. signature_again name i;
      calls = λ name k.
          same_truth (list_any (calls_at name k) (all_kept names)) (table.calls name k) (known_again name k)
          (known_there name k) i;
      is_told = same_truth (list_any tells_something (all_kept names)) table.is_told told_again told_there i;
    }

    pub are_kept : IsStrictlySortedBy by_bytes names → AreKept table (all_kept names)
    are_kept rise = record {
      names_rise =
          rise_left by_bytes same_name name_of (kept_for table) kept_left names
          (subst (IsStrictlySortedBy by_bytes) (sym (same_names names)) rise);
      each_in_order = each_kept sound.rising names;
      is_again = is_again;
    }
