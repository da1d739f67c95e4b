-- Of the packages of which a report says nothing, the tables of the report know what holds: none of them has a fault of
-- the whole package. And what one of them uses is yes too, since an import that is used and isn't yes would be said. So
-- these packages have what the promise asks for.
use Rattle.std.proofs.Common.{◌≡◌, ◌==◌, ℕ, zero, suc, ◌<◌, Bool, true, false, if◌then◌else◌, List, [], ◌∷◌, length, Option, Some, None, Contains, refl, sym, ap, ◌∙◌, subst, arith}
use Rattle.std.proofs.lemmas.Bool.{false≢true}
use Rattle.std.proofs.lemmas.Bool.Decides.{Decides-eqb}
use Rattle.std.proofs.lemmas.List.{nil_from_length}
use Rattle.std.proofs.lemmas.Slice.Eq.{bytes_eq-Decides}
use Rattle.std.specs.Prelude.{slice_get}
use Rattle.std.specs.Str.{bytes_eq}
use Rattle.tree.specs.declared.edition.Edition.TheVariants.{First}
use Rattle.std.proofs.lemmas.Option.{same_Some, none-some, slice_get_within}
use Rattle.meaning.specs.Uses.{Seen}
use Rattle.meaning.proofs.Membership.{contains_here, contains_nil}
use Rattle.meaning_packages.specs.CallsFlags.{FileWithCredits}
use Rattle.imports.specs.Ranks.{Imports, Chain, ends, goes_on}
use Rattle.report.specs.Entries.{Entry}
use Rattle.meaning_reports.specs.Loaded.{LoadedPackage, Tables, counts, counts_as_given, import_list, package_at, seen_files, signatures_of}
use Rattle.meaning_reports.specs.WholeFaults.{HasNoWholeFault, IsWholeFault}
use Rattle.meaning_reports.specs.PackageTables.{AreCredited, no_file, file_and, FlagsRule, IsTableBy, empty, full, AreTablesBy}
use Rattle.meaning_reports.specs.PackageReports.{Said, Rules, of_whole, of_import, of_files, IsYesBy, IsReportBy, by_paths}
use Rattle.meaning_reports.specs.UsedImports.{IsNeeded, in_first, is_used}
use Rattle.meaning_reports.proofs.CountedPackages.{first_counts, passed_over, well}
use Rattle.meaning_reports.proofs.ImportsOf.{given_in_lists, import_there, is_named}
use Rattle.meaning_runs.specs.Bodies.{Program, IsRun}
use Rattle.meaning_runs.specs.Promise as promise
use Rattle.meaning_runs.specs.Promise.{AreFairlyCredited, AreTreesOfTexts, AreWellKnown, IsWithoutFinding, HaveNoFindings}
use Rattle.meaning_runs.specs.PackageYes.{IsYesIn, AreOfTexts, declared_beside, if_not_given, YesOfAPackageIsQuietBy, YesOfAPackageIsQuiet}
use Rattle.meaning_runs.specs.YesBesideOthers.{says_nothing, program_beside, YesIsQuietBesideOthersBy, YesIsQuietBesideOthers}
use Rattle.meaning_runs.specs.YesBelow.{YesIsOfAllBelowBy, YesIsOfAllBelow}
use Rattle.meaning_runs.proofs.QuietPromise.{yes_is_quiet, yes_is_quiet_in_all}

-- what is declared of a path of no given package
declared_so : (path : List ℕ) (ps : List LoadedPackage) (declared : Tables)
    → ((i : ℕ) (q : LoadedPackage) → slice_get ps i ≡ Some q → q.path ≡ path → ⊥)
    → declared_beside ps declared path ≡ declared path
declared_so path ps declared none = ap (λ o. if_not_given o (declared path)) (none_at ps none)
  where
    none_at : (qs : List LoadedPackage) → ((i : ℕ) (q : LoadedPackage) → slice_get qs i ≡ Some q → q.path ≡ path → ⊥)
        → package_at path qs ≡ None
    none_at [] away = refl
    none_at (q ∷ qs) away = by (bytes_eq q.path path) refl (none_at qs (λ k r there same. away (suc k) r there same))
      where
        by : (b : Bool) → bytes_eq q.path path ≡ b → package_at path qs ≡ None
            → (if b then Some q else package_at path qs) ≡ None
        by true e rest = absurd (away 0 q refl ((bytes_eq-Decides q.path path).0 e))
        by false e rest = rest

-- a package with a fault as a whole has no flags
its_flags : (are_flags : FlagsRule) (ps : List LoadedPackage) (tables : Tables) (i : ℕ) (q : LoadedPackage)
    → IsTableBy are_flags ps tables i q (tables q.path)
    → (x : Entry) → IsWholeFault ps i x
    → (name : List ℕ) (k : ℕ) → (tables q.path).calls name k ≡ false
its_flags are_flags ps tables i q (empty y again nothing) x fault name k = nothing.no_flag name k
its_flags are_flags ps tables i q (full flags none its signatures calls told) x fault name k = absurd (none x fault)

-- By any rules

-- Of a package of texts with such a table that has no fault of the whole package, and of whose files nothing is said,
-- what is known holds, and nothing is to be said of its files.
abbrev pub AreKnownWell : Rules → Type 0
AreKnownWell rules = (ps : List LoadedPackage) (tables : Tables) (i : ℕ) (q : LoadedPackage)
    → slice_get ps i ≡ Some q
    → HasNoWholeFault ps i
    → rules.are_flags ps tables i q (tables q.path).calls
    → ((name : List ℕ) → (tables q.path).signatures name ≡ signatures_of ps q name)
    → ((x : Entry) → rules.says ps tables i x → ⊥)
    → AreTreesOfTexts q
    → IsWithoutFinding ps tables i q

module _ (rules : Rules) (each : AreKnownWell rules) where
  module _ (ps : List LoadedPackage) (tables : Tables) (are : AreTablesBy rules.are_flags rules.declared ps tables) where
    no_whole_fault : (i : ℕ) → IsYesBy rules ps tables i → HasNoWholeFault ps i
    no_whole_fault i said_none x h = said_none x (of_whole h)

    -- What a package imports and needs is yes where the package is.
    yes_of_import : (i j : ℕ) (q : LoadedPackage) → slice_get ps j ≡ Some q → Imports (import_list ps) i j
        → IsNeeded ps tables i j q.path
        → IsYesBy rules ps tables i
        → IsYesBy rules ps tables j
    yes_of_import i j q is im needed said_none x h =
        let importer = given_in_lists ps i im.importer im.is_importer in
        let w = is_named ps i importer.0 importer.1 j im in
        let there = import_there ps i importer.0 importer.1 w.tree w.spec j w.is_tree w.is_spec w.first in
        let same : q.path ≡ w.spec.path =
        ap (λ (p : LoadedPackage). p.path) (same_Some q there.imported (sym is ∙ there.is_imported)) ∙ sym there.is_path in
        said_none _ (of_import j w.tree.file w.spec x (no_whole_fault i said_none) there
        (subst (IsNeeded ps tables i j) same needed) h)

    -- In the first edition each import is needed.
    yes_below : ((k : ℕ) (q : LoadedPackage) → slice_get ps k ≡ Some q → q.edition ≡ First)
        → (i j : ℕ) → Chain (import_list ps) i j → IsYesBy rules ps tables i
        → IsYesBy rules ps tables j
    yes_below first i j ends said_none = said_none
    yes_below first i k (goes_on {j = j} im rest) said_none =
        let importer = given_in_lists ps i im.importer im.is_importer in
        let imported = given_in_lists ps j im.imported im.is_imported in
        yes_below first j k rest
        (yes_of_import i j imported.0 imported.1 im (in_first importer.1 (first i importer.0 importer.1)) said_none)

    is_known : (i : ℕ) (q : LoadedPackage) → slice_get ps i ≡ Some q → IsYesBy rules ps tables i → AreTreesOfTexts q
        → IsWithoutFinding ps tables i q
    is_known i q is said_none texts = by (are.of_package i q is)
      where
        by : IsTableBy rules.are_flags ps tables i q (tables q.path) → IsWithoutFinding ps tables i q
        by (empty x fault nothing) = absurd (said_none x (of_whole fault))
        by (full flags none its signatures calls told) =
            let same : flags ≡ (tables q.path).calls = λ j name k. sym (calls name k) j in
            each ps tables i q is none (subst (rules.are_flags ps tables i q) same its) signatures
            (λ x said. said_none x (of_files none said)) texts

  is_yes : (ps : List LoadedPackage) (report : List Said) (i : ℕ) (is_report : IsReportBy rules ps report) → IsYesIn ps report i → IsYesBy rules ps is_report.tables i
  is_yes ps report i is_report said_none x h =
      let w = is_report.of_package i said_none.loaded said_none.said said_none.is_package said_none.is_said in
      contains_nil x (subst (λ xs. Contains xs x) said_none.is_yes ((w.are_findings.each x).1 h))

  module _ (ps : List LoadedPackage) (report : List Said) (is : IsReportBy rules ps report) where
    abbrev YesAt : ℕ → Type 0
    YesAt j = IsYesBy rules ps is.tables j

    -- of the packages that run nothing is to be said
    run_is_yes : (j : ℕ) → says_nothing (slice_get report j) ≡ true → (q : LoadedPackage) → slice_get ps j ≡ Some q
        → YesAt j
    run_is_yes j e q there = by (slice_get report j) refl e
      where
        by : (o : Option Said) → slice_get report j ≡ o → says_nothing o ≡ true → YesAt j
        by None at h = absurd (false≢true h)
        by (Some said) at h =
            is_yes ps report j is
            record {
              loaded = q;
              said = said;
              is_package = there;
              is_said = at;
              is_yes = nil_from_length said.entries ((Decides-eqb (length said.entries) 0).0 h);
            }

    -- so they count as given
    run_is_counted : (j : ℕ) → says_nothing (slice_get report j) ≡ true → (q : LoadedPackage) → slice_get ps j ≡ Some q
        → counts_as_given q ≡ true
    run_is_counted j e q there = well ps j q there (no_whole_fault ps is.tables is.are_tables j (run_is_yes j e q there))

    yes_is_run : (j : ℕ) (q : LoadedPackage) → slice_get ps j ≡ Some q → YesAt j
        → says_nothing (slice_get report j) ≡ true
    yes_is_run j q there said_none = by (slice_get report j) refl
      where
        none_at : (rs : List Said) (k : ℕ) → slice_get rs k ≡ None → k < length rs → ⊥
        none_at [] k e l = omega (arith, l)
        none_at (r ∷ rs) zero e l = none-some r (sym e)
        none_at (r ∷ rs) (suc k) e l = none_at rs k e (omega (arith, l))

        none_in : (es : List Entry) → ((x : Entry) → Contains es x → ⊥) → (length es == 0) ≡ true
        none_in [] h = refl
        none_in (x ∷ xs) h = absurd (h x (contains_here x xs))

        by : (o : Option Said) → slice_get report j ≡ o → says_nothing o ≡ true
        by None at =
            let within : j < length ps = slice_get_within ps j q there in
            let same : length report ≡ length ps = is.is_as_long in
            absurd (none_at report j at (omega (arith, within, same)))
        by (Some said) at =
            none_in said.entries (λ x h. said_none x (((is.of_package j q said there at).are_findings.each x).0 h))

  module _ (ps : List LoadedPackage) (report : List Said) (is : IsReportBy rules ps report) (i : ℕ)
      (texts : AreOfTexts (program_beside ps report is.tables rules.declared i)) where
    abbrev its_program : Program
    its_program = program_beside ps report is.tables rules.declared i

    are_well_known : AreWellKnown its_program
    are_well_known = record {
      are_closed = λ j k run uses.
          let importer = given_in_lists ps j uses.imports.importer uses.imports.is_importer in
          yes_is_run ps report is k uses.imported uses.is_imported
          (yes_of_import ps is.tables is.are_tables j k uses.imported uses.is_imported uses.imports
          (is_used (ap counts uses.is_imported ∙ uses.is_counted) uses.is_used) (run_is_yes ps report is j run importer.0 importer.1));
      of_package = λ j q run at. (is_known ps is.tables is.are_tables j q at (run_is_yes ps report is j run q at) (texts j q run at)).known;
      of_texts = texts;
      of_others = λ path none. is.are_tables.of_others path none ∙ sym (declared_so path ps rules.declared none);
      of_passed_over = λ j q at passed name k.
          let w = passed_over ps j q at passed in
          its_flags rules.are_flags ps is.tables j q (is.are_tables.of_package j q at) w.0 w.1 name k;
    }

    have_no_findings : HaveNoFindings its_program (IsRun its_program)
    have_no_findings = record {
      of_package = λ j q run at. is_known ps is.tables is.are_tables j q at (run_is_yes ps report is j run q at) (texts j q run at);
    }

  pub yes_of_a_package_is_quiet_by : YesOfAPackageIsQuietBy rules
  yes_of_a_package_is_quiet_by ps report i is said_none distinct texts =
      let its : AreOfTexts (program_beside ps report is.tables rules.declared i) =
      λ j q run at. texts j q (ap counts at ∙ run_is_counted ps report is j run q at) at in
      yes_is_quiet_in_all (program_beside ps report is.tables rules.declared i) distinct
      (are_well_known ps report is i its) (have_no_findings ps report is i its)
      (yes_is_run ps report is i said_none.loaded said_none.is_package (is_yes ps report i is said_none))

  pub yes_is_quiet_beside_others_by : YesIsQuietBesideOthersBy rules
  yes_is_quiet_beside_others_by ps report i is said_none texts =
      yes_is_quiet (program_beside ps report is.tables rules.declared i) (are_well_known ps report is i texts)
      (have_no_findings ps report is i texts)

  pub yes_is_of_all_below_by : YesIsOfAllBelowBy rules
  yes_is_of_all_below_by ps report i is said_none first texts = record {
    of_package = λ j q below at.
        is_known ps is.tables is.are_tables j q at
        (yes_below ps is.tables is.are_tables first i j below (is_yes ps report i is said_none)) (texts j q (ap counts at ∙ first_counts q (first j q at)) at);
  }

-- By paths

-- full credits are fair
are_fair : (seens : List Seen) (files : List FileWithCredits) → AreCredited seens files → AreFairlyCredited seens files
are_fair seens files no_file = promise.no_file
are_fair seens files (file_and {rest = rest} {files = others} same credits more) =
    promise.file_and same (record { each = λ literal number h. (credits.each literal number).0 h }) (are_fair rest others more)

known_by_paths : (declared : Tables) → AreKnownWell (by_paths declared)
known_by_paths declared ps tables i q is none its signatures said_none texts =
    let files = its.files in
    let here = its.is_judged in
    record {
      known = record {
        has_no_whole_fault = none;
        files = files;
        are_files = are_fair (seen_files ps tables q) files here.are_files;
        are_flags = here.are_flags.are_consistent;
        are_signatures = signatures;
      };
      none = λ number file x there finding. said_none x (record {
        flags = (tables q.path).calls;
        number = number;
        file = file;
        is_of = record { loaded = q; files = files; is_judged = here; is_file = there };
        is_finding = finding;
      });
    }

pub yes_of_a_package_is_quiet : YesOfAPackageIsQuiet
yes_of_a_package_is_quiet declared = yes_of_a_package_is_quiet_by (by_paths declared) (known_by_paths declared)

pub yes_is_quiet_beside_others : YesIsQuietBesideOthers
yes_is_quiet_beside_others declared = yes_is_quiet_beside_others_by (by_paths declared) (known_by_paths declared)

pub yes_is_of_all_below : YesIsOfAllBelow
yes_is_of_all_below declared = yes_is_of_all_below_by (by_paths declared) (known_by_paths declared)
