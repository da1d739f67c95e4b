use Rattle.std.proofs.Common.{refl, slice_get}
use Rattle.std.proofs.lemmas.Result.{err_from_is_err_and}
use Rattle.report.specs.ReportText.{bytes_of}
use Rattle.format_parts.proofs.Steps.{nothing_put, begins, goes_on, stops, last_call}
use Rattle.report_json.proofs.WayPieces.{lines_are, no_lines}
use Rattle.report_json.proofs.way_lines.write_told.Goals as goal

pub returns-then-is_empty-clause-taken : goal.returns-then-is_empty-clause-taken
returns-then-is_empty-clause-taken g c =
    nothing_put _ _ (no_lines (bytes_of (slice_get c.args.sources.now c.args.file)) c.args.offsets.now c.if-is_empty.ensures)

pub returns-in_err-put_all-clause-taken : goal.returns-in_err-put_all-clause-taken
returns-in_err-put_all-clause-taken g c =
    let p = err_from_is_err_and c.from_residual.result c.from_residual.ensures.1 in
    let parts = lines_are (bytes_of (slice_get c.args.sources.now c.args.file)) c.args.offsets.now c.if-is_empty.ensures in
    stops _ _ _ _ _ _ _ parts (begins _ _) c.in_err-put_all.ensures.taken _ p.0 p.1

pub returns-in_err-write_each-clause-taken : goal.returns-in_err-write_each-clause-taken
returns-in_err-write_each-clause-taken g c =
    let p = err_from_is_err_and c.from_residual-in_err-write_each.result c.from_residual-in_err-write_each.ensures.1 in
    let parts = lines_are (bytes_of (slice_get c.args.sources.now c.args.file)) c.args.offsets.now c.if-is_empty.ensures in
    let after_open = goes_on _ _ _ _ _ _ _ parts (begins _ _) c.in_ok-put_all.ensures.taken in
    stops _ _ _ _ _ _ _ refl after_open c.in_err-write_each.ensures.taken _ p.0 p.1

pub returns-clause-taken : goal.returns-clause-taken
returns-clause-taken g c =
    let parts = lines_are (bytes_of (slice_get c.args.sources.now c.args.file)) c.args.offsets.now c.if-is_empty.ensures in
    let after_open = goes_on _ _ _ _ _ _ _ parts (begins _ _) c.in_ok-put_all.ensures.taken in
    last_call _ _ _ _ _ (goes_on _ _ _ _ _ _ _ refl after_open c.in_ok-write_each.ensures.taken) _ c.put_all-2.ensures.taken
