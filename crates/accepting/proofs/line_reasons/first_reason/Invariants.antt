use Rattle.std.proofs.Common.{◌≡◌, ◌-◌}
use Rattle.accepting.specs.ByLines.{first_reason, lines_between}
use Rattle.accepting.specs.LinesKept.{lines_of}
use Rattle.accepting.proofs.line_reasons.first_reason.Given as goal

-- what those that are left give is what all give
abbrev pub invariant-each : goal.invariant-each
invariant-each l =
    first_reason (lines_of l.lines) l.file l.code (lines_between l.line l.last)
    ≡ first_reason (lines_of l.lines) l.file l.code (lines_between l.first l.last)

abbrev pub decreases-each : goal.decreases-each
decreases-each l = l.last - l.line
