use Rattle.std.proofs.lemmas.Result.{err_from_is_err_and}
use Rattle.report.proofs.Fronts.{fails_at}
use Rattle.format_parts.specs.Pieces.{piece_text}
use Rattle.format_parts.proofs.pieces.put_each.Goals as goal

pub returns-in_err-put_one-clause-taken : goal.returns-in_err-put_one-clause-taken
returns-in_err-put_one-clause-taken g c =
    let p = err_from_is_err_and c.from_residual.result c.from_residual.ensures.1 in
    fails_at piece_text c.args.pieces.now c.loop-piece.piece-index _ c.loop-piece-test.true _ _ _ c.loop-piece.invariant.0 c.in_err-put_one.ensures.taken _ p.0 p.1
