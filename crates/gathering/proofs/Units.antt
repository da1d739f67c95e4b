-- What units say are results: this goes by the times at which they were run. So they are the report.
use Rattle.std.proofs.Common.{◌≡◌, ℕ, zero, suc, ◌<◌, inl, inr, ◌≤◌, List, map, Option, Some, None, option_map, refl, sym, ap, ◌∙◌, subst, arith}
use Rattle.std.specs.Prelude.{slice_get}
use Rattle.std.proofs.lemmas.List.{length-map}
use Rattle.std.proofs.lemmas.Option.{none-some, same_Some, slice_get-map, slice_get_cases, slice_get_within}
use Rattle.imports.specs.Ranks.{Package, Imports, Chain, HasRank, ends, goes_on}
use Rattle.meaning_reports.specs.Loaded.{LoadedPackage, import_list}
use Rattle.meaning_reports.proofs.ImportsOf.{given_in_lists}
use Rattle.meaning_reports.specs.PackageReports.{Rules, Said, by_paths}
use Rattle.meaning_reports.specs.OneReport.{AreDetermined}
use Rattle.meaning_reports.proofs.OneReport.{flags_by_paths}
use Rattle.gathering.specs.Results.{IsResult, AreResults, Told, told_of}
use Rattle.gathering.specs.Units.{Unit, AreUnits, UnitsAreTheReportBy, UnitsAreTheReport}
use Rattle.gathering.proofs.Results.{IsToldByResult, have_told}
use Rattle.gathering.proofs.Gathered.{results_are_the_report_by}

abbrev said_by : Unit → Said
said_by unit = unit.said

module _ (rules : Rules) (determined : AreDetermined rules.are_flags) (ps : List LoadedPackage) (units : List Unit)
    (are : AreUnits rules ps units) where
  -- each package has its unit
  unit_of : (j : ℕ) (q : LoadedPackage) → slice_get ps j ≡ Some q → (unit : Unit) × (slice_get units j ≡ Some unit)
  unit_of j q is = elim (slice_get_cases units j).1 [
    | inl w ↦ (w.0, w.2)
    | inr past ↦
        let low = slice_get_within ps j q is in
        let long = are.are_all in
        let out = past.0 in
        absurd (omega (arith, low, long, out))
  ]

  -- A chain of imports goes back in time, so that it leads back to no package.

  there : (j : ℕ) (item : Package) → slice_get (import_list ps) j ≡ Some item → (unit : Unit) × (slice_get units j ≡ Some unit)
  there j item is = let q = given_in_lists ps j item is in unit_of j q.0 q.1

  back_in_time : (j k : ℕ) (unit last : Unit) → slice_get units j ≡ Some unit → slice_get units k ≡ Some last
      → Chain (import_list ps) j k
      → last.time ≤ unit.time
  back_in_time j k unit last its is_last ends =
      let same : last.time ≡ unit.time = ap (λ (u : Unit). u.time) (same_Some last unit (sym is_last ∙ its)) in omega (arith, same)
  back_in_time j k unit last its is_last (goes_on {j = m} im chain) =
      let next = there m im.imported im.is_imported in
      let before = are.are_in_time j m unit next.0 im its next.1 in
      let later = back_in_time m k next.0 last next.1 is_last chain in
      omega (arith, before, later)

  is_ranked : (i : ℕ) → HasRank (import_list ps) i
  is_ranked i j k chain im back =
      let unit = there j im.importer im.is_importer in
      let next = there k im.imported im.is_imported in
      let before = are.are_in_time j k unit.0 next.0 im unit.1 next.1 in
      let after = back_in_time k j next.0 unit.0 next.1 unit.1 back in
      omega (arith, before, after)

  -- the unit of an import tells what was told of it
  told_there : (i : ℕ) (unit : Unit) → slice_get units i ≡ Some unit
      → ((j : ℕ) (q : LoadedPackage) (imported : Unit) → slice_get ps j ≡ Some q → slice_get units j ≡ Some imported
      → imported.time < unit.time
      → IsResult rules ps j q imported.said)
      → (j : ℕ) (q : LoadedPackage) (one : Told) → Imports (import_list ps) i j → slice_get ps j ≡ Some q
      → unit.told j ≡ Some one
      → IsToldByResult rules ps j q one
  told_there i unit its before j q one im is_q found =
      let w = unit_of j q is_q in
      record {
        said = w.0.said;
        is_result = before j q w.0 is_q w.1 (are.are_in_time i j unit w.0 im its w.1);
        tells = same_Some (told_of w.0.said) one (sym (are.are_told i j unit w.0 im its w.1) ∙ found);
      }

  unit_result : (n i : ℕ) (p : LoadedPackage) (unit : Unit) → slice_get ps i ≡ Some p → slice_get units i ≡ Some unit
      → unit.time < n
      → IsResult rules ps i p unit.said
  unit_result zero i p unit is its low = absurd (omega (arith, low))
  unit_result (suc n) i p unit is its low =
      let there = told_there i unit its
      (λ j q imported is_q there before. unit_result n j q imported is_q there (omega (arith, before, low))) in
      λ tables right. are.follow i p unit is its (is_ranked i) tables
      (have_told rules determined ps tables i unit.told right there)

  unit_results : AreResults rules ps (slice_get (map said_by units))
  unit_results i p said is found = by (slice_get units i) refl (sym (slice_get-map said_by units i) ∙ found)
    where
      by : (o : Option Unit) → slice_get units i ≡ o → option_map said_by o ≡ Some said → IsResult rules ps i p said
      by None its bad = absurd (none-some said bad)
      by (Some unit) its same =
          subst (IsResult rules ps i p) (same_Some unit.said said same) (unit_result (suc unit.time) i p unit is its (omega arith))

module _ (rules : Rules) (determined : AreDetermined rules.are_flags) where
  pub units_are_the_report_by : UnitsAreTheReportBy rules
  units_are_the_report_by ps units distinct are =
      results_are_the_report_by rules determined ps (map said_by units) distinct (length-map units said_by ∙ are.are_all)
      (unit_results rules determined ps units are)

pub units_are_the_report : UnitsAreTheReport
units_are_the_report declared = units_are_the_report_by (by_paths declared) flags_by_paths
