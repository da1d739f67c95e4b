use Rattle.std.proofs.Common.{◌≡◌, ◌||◌, ℕ, drop, map}
use Rattle.std.specs.List.{list_any}
use Rattle.report.specs.Cursors.{IsAt}
use Rattle.accepting.specs.ByLines.{accepts}
use Rattle.accepting.specs.Findings.{finding_view}
use Rattle.accepting.specs.LinesKept.{is_used, lines_of}
use Rattle.accepting.proofs.stale.used_lines.Given as goal

-- what was added, with what is left, is the whole
abbrev pub invariant-loop-finding : goal.invariant-loop-finding
invariant-loop-finding l = record {
  at : IsAt l.sources l.cursor;
  used : (file n : ℕ)
      → (is_used l.used file n
      || list_any (accepts (lines_of l.lines) l.sources file n) (map finding_view (drop l.finding-index l.findings)))
      ≡ list_any (accepts (lines_of l.lines) l.sources file n) (map finding_view l.findings);
}
