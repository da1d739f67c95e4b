use Rattle.std.proofs.Common.{◌≡◌, ◌++◌, drop, map}
use Rattle.explanations.specs.KeptUses.{asked_in, asked_view}
use Rattle.explanations.proofs.asked.asked_in.Given as goal

-- the uses that were found, with those of what is left, are all
abbrev pub invariant-loop-diagnostic : goal.invariant-loop-diagnostic
invariant-loop-diagnostic l =
    map asked_view l.asked.items ++ asked_in l.file (drop l.diagnostic-index l.diagnostics)
    ≡ asked_in l.file l.diagnostics
