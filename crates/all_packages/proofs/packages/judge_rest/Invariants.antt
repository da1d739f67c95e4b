use Rattle.std.proofs.Common.{ℕ, List, Option}
use Rattle.imports.specs.Ranks.{IsOrder}
use Rattle.whole_packages.specs.LoadedViews.{HaveDistinctPaths}
use Rattle.meaning_reports.specs.Loaded.{LoadedPackage, Tables, import_list}
use Rattle.all_packages.specs.Progress.{slots_in, AreRankedJudged}
use Rattle.given_packages.specs.Given.{TellsGiven}
use Rattle.all_packages.proofs.AllPackages.{GoThrough}
use Rattle.all_packages.proofs.packages.judge_rest.Given as goal

-- all before that place are judged, and all with a rank
abbrev pub invariant-loop-place : goal.invariant-loop-place
invariant-loop-place g l =
    (declared : Tables) (ps : List LoadedPackage) → TellsGiven declared ps l.given → HaveDistinctPaths ps
    → (rank : ℕ → Option ℕ) (ranked : List ℕ) → IsOrder (import_list ps) rank ranked
    → AreRankedJudged (g.R.FileRules.rules l.by.rules.now declared) (g.R.FileRules.certificates l.by.rules.now) ps l.given.packages.now
    ranked (slots_in l.initial.progress)
    → GoThrough (g.R.FileRules.rules l.by.rules.now declared) (g.R.FileRules.certificates l.by.rules.now) ps l.given.packages.now ranked
    l.place (slots_in l.progress)
