use Rattle.std.proofs.Common.{◌++◌, flat_map, ap, sym, ◌∙◌}
use Rattle.std.proofs.lemmas.List.{take_all}
use Rattle.std.proofs.lemmas.Result.{err_from_is_err_and}
use Rattle.report.proofs.Fronts.{fails_at}
use Rattle.report_formats.proofs.KeepingLines.{behind_comma, more_of}
use Rattle.report_formats.proofs.report_lines.write_more.Goals as goal

pub returns-in_err-put_pieces-clause-taken : goal.returns-in_err-put_pieces-clause-taken
returns-in_err-put_pieces-clause-taken g c =
    let p = err_from_is_err_and c.from_residual.result c.from_residual.ensures.1 in
    rw (more_of c.args.names.now)
    (fails_at behind_comma c.args.names.now c.loop-name.name-index _ c.loop-name-test.true _ _ _ c.loop-name.invariant.0
    c.in_err-put_pieces.ensures.taken _ p.0 p.1)

pub returns-clause-taken : goal.returns-clause-taken
returns-clause-taken g c =
    c.loop-name.invariant.0
    ∙ ap (λ t. g.S.Sink.taken c.args.sink.now ++ t)
    (ap (flat_map behind_comma) (take_all c.loop-name.name-index c.args.names.now c.loop-name-test.false)
    ∙ sym (more_of c.args.names.now))
