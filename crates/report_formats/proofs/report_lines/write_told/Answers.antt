use Rattle.std.proofs.Common.{sym, ◌∙◌, refl}
use Rattle.std.proofs.lemmas.Result.{err_from_is_err_and}
use Rattle.format_parts.proofs.Steps.{begins, goes_on, stops, last_call}
use Rattle.report_formats.proofs.TextParts.{told_parts}
use Rattle.report_formats.proofs.report_lines.write_told.Goals as goal

pub returns-in_err-write_line-clause-taken : goal.returns-in_err-write_line-clause-taken
returns-in_err-write_line-clause-taken g c =
    let p = err_from_is_err_and c.from_residual.result c.from_residual.ensures.1 in
    let told = sym c.is_told.ensures ∙ c.if-not-is_told.false in
    let parts = told_parts c.args.style c.args.sources.now c.args.finding.now _ told refl in
    stops _ _ _ _ _ _ _ parts (begins _ _) c.in_err-write_line.ensures.taken _ p.0 p.1

pub returns-clause-taken : goal.returns-clause-taken
returns-clause-taken g c =
    let told = sym c.is_told.ensures ∙ c.if-not-is_told.false in
    let parts = told_parts c.args.style c.args.sources.now c.args.finding.now _ told c.deref.ensures.value in
    last_call _ _ _ _ _ (goes_on _ _ _ _ _ _ _ parts (begins _ _) c.in_ok-write_line.ensures.taken) _ c.write_notes.ensures.taken
