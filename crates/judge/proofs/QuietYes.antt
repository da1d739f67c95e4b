-- What a yes says of runs holds of a report on packages whose trees are those of texts.
use Rattle.std.proofs.Common.{◌≡◌, ℕ, List, map, Some, ap, ◌∙◌}
use Rattle.std.specs.Prelude.{slice_get, option_map}
use Rattle.std.proofs.lemmas.Option.{slice_get-map}
use Rattle.meaning_reports.specs.Loaded.{HaveDistinctPaths, LoadedPackage}
use Rattle.meaning_reports.specs.PackageReports.{Rules, IsReportBy}
use Rattle.one_package.specs.declared.judged.Judged.{Judged}
use Rattle.one_package.specs.Judgments.{said_view}
use Rattle.one_package.proofs.NothingSaid.{no_entry}
use Rattle.meaning_runs.specs.Promise.{AreTreesOfTexts}
use Rattle.meaning_runs.specs.PackageYes.{YesOfAPackageIsQuietBy}
use Rattle.judge.specs.QuietYes.{YesAreQuiet}

pub yes_are_quiet : (rules : Rules) → YesOfAPackageIsQuietBy rules → (ps : List LoadedPackage) (said : List Judged)
    (is_report : IsReportBy rules ps (map said_view said)) → HaveDistinctPaths ps
    → ((i : ℕ) (p : LoadedPackage) → slice_get ps i ≡ Some p → AreTreesOfTexts p)
    → YesAreQuiet rules.declared ps is_report.tables said
yes_are_quiet rules are_quiet ps said is_report distinct texts i told =
    are_quiet ps (map said_view said) i is_report record {
      loaded = told.loaded;
      said = said_view told.judged;
      is_package = told.is_package;
      is_said = slice_get-map said_view said i ∙ ap (option_map said_view) told.is_said;
      is_yes = no_entry told.judged.report.diagnostics.items told.is_yes;
    } distinct (λ j q run is. texts j q is)
