-- Where nothing is said of a unit, its package is quiet by the tables of the report of all.
use Rattle.std.proofs.Common.{◌≡◌, ℕ, inl, inr, List, map, Option, None, Some, refl, sym, ap, ◌∙◌, subst, arith}
use Rattle.std.specs.Prelude.{option_map, slice_get}
use Rattle.std.proofs.lemmas.List.{length-map}
use Rattle.std.proofs.lemmas.Option.{none-some, same_Some, slice_get-map, slice_get_cases, slice_get_within}
use Rattle.declared_json.specs.DeclaredPackages.{PackageEntry}
use Rattle.declared_tables.specs.DeclaredTables.{declared_tables}
use Rattle.one_package.proofs.NothingSaid.{no_entry}
use Rattle.unit_reports.proofs.UnitLaws.{keep_in_order, unit_runs_are_the_report}
use Rattle.unit_reports.specs.UnitLaws.{AreOfTexts, AreUnitRuns, GivenRun, QuietGivenUnits, QuietUnits, UnitRun, YesUnitsAreQuiet, as_unit_run, meant_by, said_by}
use Rattle.meaning_reports.proofs.OneReport.{one_report}
use Rattle.meaning_reports.specs.Loaded.{LoadedPackage}
use Rattle.meaning_runs.proofs.PackageYes.{yes_of_a_package_is_quiet}
use Rattle.meaning_runs.specs.Promise.{AreTreesOfTexts}
use Rattle.whole_packages.specs.LoadedViews.{TellsPackage}

pub yes_units_are_quiet : YesUnitsAreQuiet
yes_units_are_quiet outside ps runs i p run is_report distinct texts is its is_yes =
    yes_of_a_package_is_quiet (declared_tables outside) ps (map said_by runs) i is_report record {
      loaded = p;
      said = said_by run;
      is_package = is;
      is_said = slice_get-map said_by runs i ∙ ap (option_map said_by) its;
      is_yes = no_entry run.is_report.judged.report.diagnostics.items (sym run.is_report.verdict ∙ is_yes);
    } distinct (λ j q on there. texts j q there)

-- the package of a run
package_of : (outside : List PackageEntry) (ps : List LoadedPackage) (runs : List (UnitRun outside)) → AreUnitRuns outside ps runs
    → (i : ℕ) (run : UnitRun outside)
    → slice_get runs i ≡ Some run
    → (p : LoadedPackage) × (slice_get ps i ≡ Some p)
package_of outside ps runs are i run its = elim (slice_get_cases ps i).1 [
  | inl w ↦ (w.0, w.2)
  | inr past ↦
      let low = slice_get_within runs i run its in
      let long = are.are_all in
      let out = past.0 in
      absurd (omega (arith, low, long, out))
]

pub quiet_units : QuietUnits
quiet_units outside ps runs distinct texts are =
    let is_report = unit_runs_are_the_report outside ps runs distinct texts are in
    record {
      is_report = is_report;
      is_only = λ said of_all. one_report (declared_tables outside) ps said (map said_by runs) of_all is_report;
      each_yes_is_quiet = λ i run its is_yes.
          let p = package_of outside ps runs are i run its in
          yes_units_are_quiet outside ps runs i p.0 run is_report distinct texts p.1 its is_yes;
      each_keeps_in_order = λ i run its.
          let p = package_of outside ps runs are i run its in
          keep_in_order outside ps runs distinct texts are i p.0 run p.1 its;
    }

-- the run at a place of what is made of all of them
run_there : (outside : List PackageEntry) {A : Type 0} (f : GivenRun outside → A) (runs : List (GivenRun outside)) (i : ℕ) (a : A)
    → slice_get (map f runs) i ≡ Some a
    → (run : GivenRun outside) × (slice_get runs i ≡ Some run) × (f run ≡ a)
run_there outside {A = A} f runs i a is = by (slice_get runs i) refl (sym (slice_get-map f runs i) ∙ is)
  where
    by : (o : Option (GivenRun outside)) → slice_get runs i ≡ o → option_map f o ≡ Some a
        → (run : GivenRun outside) × (slice_get runs i ≡ Some run) × (f run ≡ a)
    by None its bad = absurd (none-some a bad)
    by (Some run) its same = (run, its, same_Some (f run) a same)

pub quiet_given_units : QuietGivenUnits
quiet_given_units outside runs distinct told =
    quiet_units outside (map meant_by runs) (map as_unit_run runs) distinct texts record {
      are_all = length-map runs as_unit_run ∙ sym (length-map runs meant_by);
      are_of = are_of;
      in_order = told;
    }
  where
    texts : AreOfTexts (map meant_by runs)
    texts i p is =
        let w = run_there outside meant_by runs i p is in subst AreTreesOfTexts w.2 w.0.is_report.is_loaded.of_texts

    are_of : (i : ℕ) (p : LoadedPackage) (run : UnitRun outside) → slice_get (map meant_by runs) i ≡ Some p
        → slice_get (map as_unit_run runs) i ≡ Some run
        → TellsPackage p run.loaded
    are_of i p run is its =
        let w = run_there outside meant_by runs i p is in
        let v = run_there outside as_unit_run runs i run its in
        let same = same_Some w.0 v.0 (sym w.1 ∙ v.1) in
        subst (λ (u : UnitRun outside). TellsPackage p u.loaded) v.2
        (subst (λ (g : GivenRun outside). TellsPackage p g.is_report.kept) same
        (subst (λ q. TellsPackage q w.0.is_report.kept) w.2 w.0.is_report.is_loaded.is_loaded.tells))
