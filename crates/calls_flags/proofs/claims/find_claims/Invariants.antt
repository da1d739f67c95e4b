use Rattle.std.proofs.Common.{◌≡◌, ◌++◌, List, map, drop}
use Rattle.facts.specs.FactViews.{facts_by_name}
use Rattle.calls_flags.specs.Claims.{claim_view, file_claims, all_claims}
use Rattle.calls_flags.specs.FilesBodies.{TellAll}
use Rattle.meaning_packages.specs.CallsFlags.{FileWithCredits}
use Rattle.path_faults.specs.FoundFaults.{each_from}
use Rattle.calls_flags.proofs.claims.find_claims.Given as goal

-- what was added, with what is left, is the whole
abbrev pub invariant-loop-file : goal.invariant-loop-file
invariant-loop-file l =
    (fs : List FileWithCredits) → TellAll fs l.files
    → map claim_view l.claims.items
    ++ each_from (file_claims (facts_by_name l.table)) l.file-index (drop l.file-index fs)
    ≡ all_claims (facts_by_name l.table) fs
