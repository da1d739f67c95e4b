use Rattle.std.proofs.Common.{◌≡◌, ◌++◌, drop, map}
use Rattle.accepting.specs.ByLines.{all_directives, directives_from}
use Rattle.accepting.specs.Findings.{plain_finding}
use Rattle.accepting.specs.LinesKept.{is_used, unused}
use Rattle.accepting.proofs.stale.unused.Given as goal

-- what was added, with what is left, is the whole
abbrev pub invariant-loop-file : goal.invariant-loop-file
invariant-loop-file l =
    map plain_finding l.stale.items ++ unused (is_used l.used) (directives_from l.file (drop l.file l.sources))
    ≡ unused (is_used l.used) (all_directives l.sources)
