-- A table that a package is judged by is sound, and what is kept of the names that the package declares is all of it.
use Rattle.std.proofs.Common.{◌≡◌, inl, inr, ℕ, ◌+◌, Bool, true, false, ◌&&◌, List, [], ◌∷◌, ◌++◌, map, Contains, Option, Some, None, is_some, refl, sym, ap, ◌∙◌, subst, bytes_eq}
use Rattle.std.specs.Prelude.{if◌then◌else◌}
use Rattle.std.specs.List.{AllByRecursion, list_all, list_any}
use Rattle.std.proofs.lemmas.Bool.{false≢true, or_cases, or_left, or_right}
use Rattle.std.proofs.lemmas.List.Elements.{Contains-append_left, Contains-append_right}
use Rattle.std.proofs.lemmas.Slice.Eq.{bytes_eq-Decides}
use Rattle.meaning.proofs.Membership.{contains_nil, contains_here, contains_there, contains_cases}
use Rattle.meaning.specs.FunctionFacts.{cancel, Meanings, FunctionFacts, function_facts, facts_in, facts_from}
use Rattle.meaning.specs.OuterBlocks.{can_be_meant, or_else}
use Rattle.meaning.specs.Tracked.{Known}
use Rattle.meaning.specs.TwoFunctions.{FunctionName, function_names_from, function_names_in}
use Rattle.meaning.specs.Uses.{Seen, facts_take}
use Rattle.meaning_packages.specs.CallsFlags.{FileWithCredits}
use Rattle.meaning_reports.specs.Loaded.{LoadedPackage, PackageTable, Tables, known_in, means_in, seen_from, signatures_of, trees_of}
use Rattle.meaning_reports.specs.PackageTables.{tells, AreCredited, no_file, file_and, IsTable, empty, full}
use Rattle.tree.specs.declared.edition.Edition.{Edition}
use Rattle.tree.specs.Syntax.{SourceFile, TopLevelDeclaration, function_declaration, general_declaration}
use Rattle.tree.specs.View.{file_syntax}
use Rattle.whole_packages.specs.declared.loaded_package.LoadedPackage.{LoadedPackage as KeptPackage}
use Rattle.whole_packages.specs.LoadedViews.{TellsPackage}
use Rattle.plain_tables.specs.Tables.{declared_names, AreInOrder}
use Rattle.plain_tables.proofs.FactOrder.{table_rises}
use Rattle.plain_tables.proofs.PlainTables.{known_names}
use Rattle.vetx_json.specs.KeptUnits.{FunctionEntry}
use Rattle.vetx_tables.specs.KeptLaws.{AreKept}
use Rattle.vetx_tables.specs.KeptTables.{function_fits}
use Rattle.vetx_tables.proofs.KeptTables.{all_kept, are_kept, IsSound}

-- A function of which something is known is among those that can be meant

known_so : (o : Option FunctionFacts) → tells o ≡ true → is_some o ≡ true
known_so None e = absurd (false≢true e)
known_so (Some f) e = refl

module _ (edition : Edition) (name : List ℕ) where
  -- one of these functions has the name
  abbrev IsAmong : List FunctionName → Type 0
  IsAmong fs = (f : FunctionName) × Contains fs f × (f.name.text ≡ name)

  later : (f : FunctionName) (fs : List FunctionName) → IsAmong fs → IsAmong (f ∷ fs)
  later f fs h = (h.0, contains_there f h.0 fs h.1, h.2)

  named_in : (means : Meanings) (file : ℕ) (ds : List TopLevelDeclaration)
      → is_some (facts_in edition means name ds) ≡ true
      → IsAmong (function_names_in file ds)
  named_in means file [] e = absurd (false≢true e)
  named_in means file (general_declaration d ∷ ds) e = named_in means file ds e
  named_in means file (function_declaration f ∷ ds) e = by (can_be_meant f) e (named_in means file ds)
    where
      its : FunctionName
      its = record { file = file; name = f.name }

      by : (b : Bool)
          → is_some (if b && bytes_eq f.name.text name then Some (function_facts edition means f) else facts_in edition means name ds) ≡ true
          → (is_some (facts_in edition means name ds) ≡ true → IsAmong (function_names_in file ds))
          → IsAmong (if b then its ∷ function_names_in file ds else function_names_in file ds)
      by false h rest = rest h
      by true h rest = by_name (bytes_eq f.name.text name) refl h
        where
          by_name : (c : Bool) → bytes_eq f.name.text name ≡ c
              → is_some (if c then Some (function_facts edition means f) else facts_in edition means name ds) ≡ true
              → IsAmong (its ∷ function_names_in file ds)
          by_name true same h =
              (its, contains_here its (function_names_in file ds), (bytes_eq-Decides f.name.text name).0 same)
          by_name false other h = later its (function_names_in file ds) (rest h)

  named_from : (means : ℕ → Meanings) (n : ℕ) (fs : List SourceFile)
      → is_some (facts_from edition means name n fs) ≡ true
      → IsAmong (function_names_from n fs)
  named_from means n [] e = absurd (false≢true e)
  named_from means n (f ∷ fs) e =
      by (facts_in edition (means n) name f.declarations) refl e (named_from means (n + 1) fs)
    where
      own : List FunctionName
      own = function_names_in n f.declarations

      others : List FunctionName
      others = function_names_from (n + 1) fs

      by : (o : Option FunctionFacts) → facts_in edition (means n) name f.declarations ≡ o
          → is_some (or_else o (facts_from edition means name (n + 1) fs)) ≡ true
          → (is_some (facts_from edition means name (n + 1) fs) ≡ true → IsAmong others)
          → IsAmong (own ++ others)
      by None is h behind =
          let rest = behind h in
          (rest.0, Contains-append_right own others rest.0 rest.1, rest.2)
      by (Some facts) is h behind =
          let here = named_in (means n) n f.declarations (ap is_some is) in
          (here.0, Contains-append_left own others here.0 here.1, here.2)

-- Tests that some element passes

any_passes : {A : Type 0} (test : A → Bool) (xs : List A) (x : A) → Contains xs x → test x ≡ true
    → list_any test xs ≡ true
any_passes test [] x h e = absurd (contains_nil x h)
any_passes test (y ∷ ys) x h e =
    elim (contains_cases y x ys h) [
      | inl same ↦ or_left (test y) (list_any test ys) (ap test same ∙ e)
      | inr more ↦ or_right (test y) (list_any test ys) (any_passes test ys x more e)
    ]

some_passes : {A : Type 0} (test : A → Bool) (xs : List A) → list_any test xs ≡ true → (x : A) × (test x ≡ true)
some_passes test [] e = absurd (false≢true e)
some_passes test (x ∷ xs) e =
    elim (or_cases (test x) (list_any test xs) e) [ inl here ↦ (x, here) | inr more ↦ some_passes test xs more ]

-- What is known of functions in the files of a package

abbrev Knows : (List ℕ → Option FunctionFacts) → Seen → Type 0
Knows functions seen = seen.known.functions ≡ functions

knows_all : (functions : List ℕ → Option FunctionFacts) (known : ℕ → Known)
    → ((n : ℕ) → (known n).functions ≡ functions)
    → (n : ℕ) (trees : List SourceFile)
    → AllByRecursion (Knows functions) (seen_from known n trees)
knows_all functions known same n [] = tt
knows_all functions known same n (t ∷ ts) = (same n, knows_all functions known same (n + 1) ts)

knows_file : (functions : List ℕ → Option FunctionFacts) {seens : List Seen} {files : List FileWithCredits}
    → AreCredited seens files
    → AllByRecursion (Knows functions) seens
    → (file : FileWithCredits)
    → Contains files file
    → Knows functions file.seen
knows_file functions no_file all file h = absurd (contains_nil file h)
knows_file functions (file_and {seen} {rest} {file = one} {files = files} same credits more) all file h =
    elim (contains_cases one file files h) [
      | inl is ↦ ap (λ (f : FileWithCredits). f.seen.known.functions) (sym is) ∙ (ap (λ (s : Seen). s.known.functions) same ∙ all.0)
      | inr behind ↦ knows_file functions more all.1 file behind
    ]

-- The table

module _ (ps : List LoadedPackage) (tables : Tables) (i : ℕ) (p : LoadedPackage) (table : PackageTable)
    (is : IsTable ps tables i p table) where
  calls_taken : (name : List ℕ) (k : ℕ) → table.calls name k ≡ true
      → facts_take cancel k (table.signatures name) ≡ true
  calls_taken name k known = by is
    where
      by : IsTable ps tables i p table → facts_take cancel k (table.signatures name) ≡ true
      by (empty x fault none) = absurd (false≢true (sym (none.no_flag name k) ∙ known))
      by (full flags none its signatures calls told) =
          let judged = its.is_judged in
          let kept = judged.are_flags.are_consistent.each name k (sym (calls name k) ∙ known) in
          let functions =
          knows_file (signatures_of ps p) judged.are_files
          (knows_all (signatures_of ps p) (known_in ps tables p) (λ n. refl) 0 (trees_of p)) kept.file kept.is_of_package in
          ap (facts_take cancel k) (signatures name)
          ∙ (ap (λ (f : List ℕ → Option FunctionFacts). facts_take cancel k (f name)) (sym functions)
          ∙ kept.is_claim.is_cancel_parameter)

  told_if : (name : List ℕ) → tells (table.signatures name) ≡ true → table.is_told ≡ true
  told_if name e = by is
    where
      by : IsTable ps tables i p table → table.is_told ≡ true
      by (empty x fault none) = absurd (false≢true (ap tells (sym (none.no_signature name)) ∙ e))
      by (full flags none its signatures calls told) =
          let tells_own : tells (signatures_of ps p name) ≡ true = ap tells (sym (signatures name)) ∙ e in
          let named =
          named_from p.edition name (means_in ps p) 0 (trees_of p) (known_so (signatures_of ps p name) tells_own) in
          told
          ∙ any_passes (λ (f : FunctionName). tells (signatures_of ps p f.name.text)) (function_names_from 0 (trees_of p))
          named.0 named.1 (ap (λ n. tells (signatures_of ps p n)) named.2 ∙ tells_own)

  some_told : table.is_told ≡ true → (name : List ℕ) × (tells (table.signatures name) ≡ true)
  some_told e = by is
    where
      by : IsTable ps tables i p table → (name : List ℕ) × (tells (table.signatures name) ≡ true)
      by (empty x fault none) = absurd (false≢true (sym none.not_told ∙ e))
      by (full flags none its signatures calls told) =
          let one =
          some_passes (λ (f : FunctionName). tells (signatures_of ps p f.name.text)) (function_names_from 0 (trees_of p))
          (sym told ∙ e) in
          (one.0.name.text, ap tells (signatures one.0.name.text) ∙ one.1)

  is_sound : IsSound table
  is_sound = record {
    rising = table_rises ps tables i p table is;
    calls_taken = calls_taken;
    told_if = told_if;
    some_told = some_told;
  }

  pub kept_so : (k : KeptPackage) (names : List (List ℕ)) (functions : List FunctionEntry) → TellsPackage p k
      → AreInOrder (declared_names (map file_syntax k.trees.items)) names
      → functions ≡ all_kept table names
      → list_all (function_fits table) names ≡ true
      → AreKept table functions
  kept_so k names functions tells_of in_order are fit =
      subst (AreKept table) (sym are)
      (are_kept table names is_sound
      (λ name known.
      in_order.are_there name
      (subst (λ trees. Contains (declared_names trees) name) tells_of.are_trees
      (known_names ps tables i p table is name known)))
      fit in_order.rise)
