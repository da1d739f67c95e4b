use Rattle.std.proofs.Common.{List, length, map}
use Rattle.facts.specs.FactViews.{facts_by_name}
use Rattle.meaning_packages.specs.CallsFlags.{FileWithCredits}
use Rattle.calls_flags.specs.Claims.{claim_view, HaveFacts}
use Rattle.called_parameters.specs.Called.{flags_by_path}
use Rattle.calls_flags.specs.FilesBodies.{TellAll}
use Rattle.calls_flags.proofs.GreatestFlags.{AreEnough}
use Rattle.calls_flags.proofs.rounds.find_called.Given as goal

-- what consistent flags keep is claimed
abbrev pub invariant-loop-claims : goal.invariant-loop-claims
invariant-loop-claims l =
    (fs : List FileWithCredits) → TellAll fs l.files → HaveFacts (facts_by_name l.table) fs
    → AreEnough fs (flags_by_path l.imported) (map claim_view l.claims.items)

abbrev pub decreases-loop-claims : goal.decreases-loop-claims
decreases-loop-claims l = length l.claims.items
