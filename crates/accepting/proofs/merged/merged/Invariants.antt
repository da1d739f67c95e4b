use Rattle.std.proofs.Common.{◌≡◌, ◌≤◌, ◌++◌, drop, length, map}
use Rattle.report.specs.Cursors.{IsAt}
use Rattle.accepting.specs.ByLines.{accepted_by_line}
use Rattle.accepting.specs.Findings.{finding_view, plain_finding}
use Rattle.accepting.specs.LinesKept.{lines_of}
use Rattle.accepting.specs.Merged.{merged}
use Rattle.accepting.proofs.merged.merged.Given as goal

-- what was told, with what is left, is the whole
abbrev pub invariant-loop-finding : goal.invariant-loop-finding
invariant-loop-finding l = record {
  at : IsAt l.sources l.cursor;
  within : l.passed ≤ length l.stale;
  told : map finding_view l.told.items
      ++ merged (map (accepted_by_line (lines_of l.lines) l.sources) (map finding_view l.finding-iterator.rest.items))
      (map plain_finding (drop l.passed l.stale))
      ≡ merged (map (accepted_by_line (lines_of l.lines) l.sources) (map finding_view l.fn.findings.items))
      (map plain_finding l.stale);
}
