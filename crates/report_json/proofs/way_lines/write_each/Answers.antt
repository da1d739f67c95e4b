use Rattle.std.proofs.Common.{refl, slice_get, ◌∙◌, rules}
use Rattle.std.proofs.lemmas.Result.{err_from_is_err_and}
use Rattle.report.specs.ReportText.{bytes_of}
use Rattle.format_parts.proofs.Steps.{begins, goes_on, ends, stops}
use Rattle.report_json.proofs.WayPieces.{next_line, no_line}
use Rattle.report_json.proofs.way_lines.write_each.Goals as goal

pub loop-offset-init : goal.loop-offset-init
loop-offset-init g c = (begins _ _, refl, search rules)

pub loop-offset-preserved : goal.loop-offset-preserved
loop-offset-preserved g c =
    let l = c.loop-offset in
    let text = bytes_of (slice_get c.args.sources.now c.args.file) in
    let next = next_line text c.args.offsets.now l.offset-index l.last l.is_later _ _ _ c.loop-offset-test.true c.moved-cursor.ensures.line c.comes_later-is_later.ensures in
    (goes_on _ _ _ _ _ _ _ next l.invariant.0 c.in_ok-write_line.ensures.taken, c.in_ok-write_line.ensures.refusals ∙ l.invariant.1, c.moved-cursor.ensures.at)

pub returns-in_err-write_line-clause-taken : goal.returns-in_err-write_line-clause-taken
returns-in_err-write_line-clause-taken g c =
    let l = c.loop-offset in
    let p = err_from_is_err_and c.from_residual.result c.from_residual.ensures.1 in
    let text = bytes_of (slice_get c.args.sources.now c.args.file) in
    let next = next_line text c.args.offsets.now l.offset-index l.last l.is_later _ _ _ c.loop-offset-test.true c.moved-cursor.ensures.line refl in
    stops _ _ _ _ _ _ _ next l.invariant.0 c.in_err-write_line.ensures.taken _ p.0 p.1

pub returns-clause-taken : goal.returns-clause-taken
returns-clause-taken g c =
    ends _ _ _ _ (no_line (bytes_of (slice_get c.args.sources.now c.args.file)) c.args.offsets.now c.loop-offset.offset-index c.loop-offset.last c.loop-offset.is_later c.loop-offset-test.false) c.loop-offset.invariant.0
