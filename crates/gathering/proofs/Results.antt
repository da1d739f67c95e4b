-- What follows from results of a package's imports is a result: tables that are right below the package are right below
-- each import too, so that the import has the table of its result by them.
use Rattle.std.proofs.Common.{◌≡◌, ℕ, false, List, [], ◌∷◌, Contains, Option, Some, None, option_map, refl, sym, subst}
use Rattle.std.specs.Prelude.{slice_get, ◌↔◌, not}
use Rattle.std.proofs.lemmas.Bool.{false≢true}
use Rattle.std.proofs.lemmas.Option.{none-some, same_Some}
use Rattle.meaning.proofs.Membership.{contains_nil, contains_here}
use Rattle.meaning.specs.OuterBlocks.{has_any}
use Rattle.imports.specs.Ranks.{Imports, HasRank, ends, goes_on}
use Rattle.report.specs.Entries.{Entry}
use Rattle.meaning_reports.specs.Loaded.{LoadedPackage, PackageTable, Tables, import_list, no_table}
use Rattle.meaning_reports.specs.PackageTables.{IsTableBy, AreTablesBy, empty, full}
use Rattle.meaning_reports.specs.PackageReports.{Rules, Said, AreFindingsBy, IsYesBy, by_paths}
use Rattle.meaning_reports.specs.OneReport.{AreDetermined}
use Rattle.meaning_reports.proofs.ImportsOf.{cannot_be_unranked}
use Rattle.meaning_reports.proofs.OneReport.{nothing_known, one_table, flags_by_paths}
use Rattle.gathering.specs.Results.{StandsBelow, AreRightBelow, IsResult, Results, AreResults, Told, told_of, Tellings, tellings_of, HasFinding, IsToldBy, HaveTold, HaveResults}
use Rattle.gathering.specs.ResultLaws.{WhatFollowsIsAResultBy, WhatFollowsIsAResult, ResultsTellYesBy, ResultsTellYes}

-- What stands below

module _ (ps : List LoadedPackage) where
  pub stands_below : (i j : ℕ) → Imports (import_list ps) i j → StandsBelow ps i j
  stands_below i j im = record { first = j; imports = im; chain = ends }

  -- what stands below an import stands below the package
  below_too : (i j k : ℕ) → Imports (import_list ps) i j → StandsBelow ps j k → StandsBelow ps i k
  below_too i j k im below = record { first = j; imports = im; chain = goes_on below.imports below.chain }

module _ (rules : Rules) (ps : List LoadedPackage) (tables : Tables) where
  below_import : (i j : ℕ) → Imports (import_list ps) i j → AreRightBelow rules ps tables i → AreRightBelow rules ps tables j
  below_import i j im right = record {
    of_below = λ k q is below. right.of_below k q is (below_too ps i j k im below);
    of_others = right.of_others;
  }

  -- the tables of all packages are right below each
  pub below_each : AreTablesBy rules.are_flags rules.declared ps tables → (i : ℕ) → AreRightBelow rules ps tables i
  below_each are i = record { of_below = λ j q is below. are.of_package j q is; of_others = are.of_others }

  -- a package without a rank has a fault of the whole package, so that nothing is known of its functions
  unranked_table : (i : ℕ) (p : LoadedPackage) (table : PackageTable) → slice_get ps i ≡ Some p
      → (HasRank (import_list ps) i → ⊥)
      → IsTableBy rules.are_flags ps tables i p table
      → table ≡ no_table
  unranked_table i p table is none (empty x fault h) = nothing_known table h
  unranked_table i p table is none (full flags no_fault its signatures calls told) = absurd (cannot_be_unranked ps i p is no_fault none)

-- A yes

module _ (rules : Rules) (ps : List LoadedPackage) (tables : Tables) (i : ℕ) where
  says_nothing : (entries : List Entry) → AreFindingsBy rules ps tables i entries → (entries ≡ []) ↔ IsYesBy rules ps tables i
  says_nothing [] are = (λ e x found. contains_nil x ((are.each x).1 found), λ yes. refl)
  says_nothing (x ∷ xs) are = (λ e. absurd (some_is x xs e), λ yes. absurd (yes x ((are.each x).0 (contains_here x xs))))
    where
      some_is : (y : Entry) (ys : List Entry) → y ∷ ys ≡ [] → ⊥
      some_is y ys e = contains_nil y (subst (λ (es : List Entry). Contains es y) e (contains_here y ys))

  -- what is not told to be yes has a finding
  no_is_told : (entries : List Entry) → AreFindingsBy rules ps tables i entries
      → (not (has_any entries) ≡ false) ↔ HasFinding rules ps tables i
  no_is_told [] are = (λ e. absurd (false≢true (sym e)), λ h. absurd (contains_nil h.entry ((are.each h.entry).1 h.is_finding)))
  no_is_told (x ∷ xs) are =
      (λ e. record { entry = x; is_finding = (are.each x).0 (contains_here x xs) }, λ h. refl)

-- a result of the package tells this
pub record IsToldByResult (rules : Rules) (ps : List LoadedPackage) (j : ℕ) (q : LoadedPackage) (one : Told) : Type 0 where
  pub said : Said
  pub is_result : IsResult rules ps j q said
  pub tells : told_of said ≡ one

-- By what is told of its imports

module _ (rules : Rules) (determined : AreDetermined rules.are_flags) where
  -- there is one table of a package by the same tables
  pub same_table : (ps : List LoadedPackage) (tables : Tables) (i : ℕ) (p : LoadedPackage) (t u : PackageTable)
      → slice_get ps i ≡ Some p
      → IsTableBy rules.are_flags ps tables i p t
      → IsTableBy rules.are_flags ps tables i p u
      → t ≡ u
  same_table ps tables i p t u is its too = one_table rules.are_flags determined ps tables tables i p is (λ none. refl) t u its too

  -- tables that are right below the package have what is told of its imports, where results tell it
  pub have_told : (ps : List LoadedPackage) (tables : Tables) (i : ℕ) (told : Tellings)
      → AreRightBelow rules ps tables i
      → ((j : ℕ) (q : LoadedPackage) (one : Told) → Imports (import_list ps) i j → slice_get ps j ≡ Some q
      → told j ≡ Some one
      → IsToldByResult rules ps j q one)
      → HaveTold rules ps tables i told
  have_told ps tables i told right are = record {
    of_told = λ j q one im is found.
        let w = are j q one im is found in
        let its = w.is_result tables (below_import rules ps tables i j im right) in
        let given = right.of_below j q is (stands_below ps i j im) in
        subst (IsToldBy rules ps tables j q) w.tells (record {
          is_table = same_table ps tables j q (tables q.path) w.said.table is given its.is_table;
          is_verdict = no_is_told rules ps tables j w.said.entries its.are_findings;
        });
    of_unranked = λ j q im is none.
        unranked_table rules ps tables j q (tables q.path) is none (right.of_below j q is (stands_below ps i j im));
    of_others = right.of_others;
  }

  -- so they have what results of its imports tell
  pub have_results : (ps : List LoadedPackage) (tables : Tables) (i : ℕ) (results : Results)
      → AreRightBelow rules ps tables i
      → AreResults rules ps results
      → HaveResults rules ps tables i results
  have_results ps tables i results right are =
      have_told ps tables i (tellings_of results) right (λ j q one im is found. by j q one is (results j) refl found)
    where
      by : (j : ℕ) (q : LoadedPackage) (one : Told) → slice_get ps j ≡ Some q → (o : Option Said) → results j ≡ o
          → option_map told_of o ≡ Some one
          → IsToldByResult rules ps j q one
      by j q one is None e found = absurd (none-some one found)
      by j q one is (Some said) e found =
          record { said = said; is_result = are j q said is e; tells = same_Some (told_of said) one found }

  pub what_follows_is_a_result_by : WhatFollowsIsAResultBy rules
  what_follows_is_a_result_by ps i p results said is are follows tables right =
      follows tables (have_results ps tables i results right are)

pub what_follows_is_a_result : WhatFollowsIsAResult
what_follows_is_a_result declared = what_follows_is_a_result_by (by_paths declared) flags_by_paths

pub results_tell_yes_by : (rules : Rules) → ResultsTellYesBy rules
results_tell_yes_by rules ps tables i p said right is =
    says_nothing rules ps tables i said.entries (is tables right).are_findings

pub results_tell_yes : ResultsTellYes
results_tell_yes declared = results_tell_yes_by (by_paths declared)
