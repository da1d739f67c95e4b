use Rattle.std.proofs.Common.{refl}
use Rattle.std.proofs.lemmas.Result.{err_from_is_err_and}
use Rattle.format_parts.proofs.Steps.{begins, goes_on, stops, last_call}
use Rattle.report_formats.proofs.TextParts.{lines_parts}
use Rattle.report_formats.proofs.unit_text.write_lines.Goals as goal

pub returns-in_err-write_line-clause-taken : goal.returns-in_err-write_line-clause-taken
returns-in_err-write_line-clause-taken g c =
    let p = err_from_is_err_and c.from_residual.result c.from_residual.ensures.1 in
    stops _ _ _ _ _ _ _ refl (begins _ _) c.in_err-write_line.ensures.taken _ p.0 p.1

pub returns-in_err-write_around-clause-taken : goal.returns-in_err-write_around-clause-taken
returns-in_err-write_around-clause-taken g c =
    let p = err_from_is_err_and c.from_residual-in_err-write_around.result c.from_residual-in_err-write_around.ensures.1 in
    let parts = lines_parts c.args.style c.args.around c.args.sources.now c.args.finding.now _ _ _ c.bytes_of.ensures c.requires.line refl in
    let line = goes_on _ _ _ _ _ _ _ parts (begins _ _) c.in_ok-write_line.ensures.taken in
    stops _ _ _ _ _ _ _ refl line c.in_err-write_around.ensures.taken _ p.0 p.1

pub returns-clause-taken : goal.returns-clause-taken
returns-clause-taken g c =
    let parts = lines_parts c.args.style c.args.around c.args.sources.now c.args.finding.now _ _ _ c.bytes_of.ensures c.requires.line c.deref.ensures.value in
    let line = goes_on _ _ _ _ _ _ _ parts (begins _ _) c.in_ok-write_line.ensures.taken in
    last_call _ _ _ _ _ (goes_on _ _ _ _ _ _ _ refl line c.in_ok-write_around.ensures.taken) _ c.write_notes.ensures.taken
