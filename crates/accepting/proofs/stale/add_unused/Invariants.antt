use Rattle.std.proofs.Common.{◌≡◌, ◌++◌, drop, map}
use Rattle.directives.specs.Directives.{directive_view}
use Rattle.accepting.specs.ByLines.{in_source}
use Rattle.accepting.specs.Findings.{plain_finding}
use Rattle.accepting.specs.LinesKept.{is_used, unused}
use Rattle.accepting.proofs.stale.add_unused.Given as goal

-- what was added, with what is left, is the whole
abbrev pub invariant-loop-directive : goal.invariant-loop-directive
invariant-loop-directive l =
    map plain_finding l.stale.items
    ++ unused (is_used l.used) (map (in_source l.file) (map directive_view (drop l.directive-index l.directives)))
    ≡ map plain_finding l.initial.stale.items
    ++ unused (is_used l.used) (map (in_source l.file) (map directive_view l.directives))
