-- By what the diagnostics of a package are explained: the ways to the faults of its paths, if one of them tells of such
-- a fault, and the reasons of their uses.
use Rattle.std.specs.Prelude.{ℕ, ◌≡◌, true, List, map}
use Rattle.explanations.specs.Found.{any_of_path}
use Rattle.explanations.specs.KeptUses.{uses_view, HaveReasons}
use Rattle.explanations.specs.ToldViews.{ways_view}
use Rattle.explanations.specs.Ways.{ArePackageWays}
use Rattle.explanations.specs.declared.notes.Reasons.{Reasons}
use Rattle.meaning_reports.specs.Loaded.{LoadedPackage, Tables}
use Rattle.report.specs.declared.diagnostics.Diagnostic.{Diagnostic}

pub record ArePackageReasons
    (ps : List LoadedPackage) (tables : Tables) (i : ℕ) (p : LoadedPackage) (ds : List Diagnostic) (reasons : Reasons)
    : Type 0 where
  pub ways : any_of_path ds ≡ true → ArePackageWays ps tables i (ways_view reasons.ways.items)
  pub uses : HaveReasons ps tables p ds (map uses_view reasons.uses.items)
