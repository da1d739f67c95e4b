use Rattle.std.proofs.Common.{ℕ, List, Option, drop}
use Rattle.imports.specs.Ranks.{IsOrder}
use Rattle.whole_packages.specs.LoadedViews.{HaveDistinctPaths}
use Rattle.meaning_reports.specs.Loaded.{LoadedPackage, Tables, import_list}
use Rattle.all_packages.specs.Progress.{slots_in, AreRight}
use Rattle.given_packages.specs.Given.{TellsGiven}
use Rattle.all_packages.proofs.AllPackages.{GoOn}
use Rattle.all_packages.proofs.packages.judge_ranked.Given as goal

-- those before are judged, and these are left
abbrev pub invariant-loop-place : goal.invariant-loop-place
invariant-loop-place g l =
    (declared : Tables) (ps : List LoadedPackage) → TellsGiven declared ps l.given → HaveDistinctPaths ps
    → (rank : ℕ → Option ℕ) → IsOrder (import_list ps) rank l.ranked
    → AreRight (g.R.FileRules.rules l.by.rules.now declared) (g.R.FileRules.certificates l.by.rules.now) ps l.given.packages.now
    (slots_in l.initial.progress)
    → GoOn (g.R.FileRules.rules l.by.rules.now declared) (g.R.FileRules.certificates l.by.rules.now) ps l.given.packages.now l.ranked
    (drop l.place-index l.ranked) (slots_in l.progress)
