use Rattle.std.proofs.Common.{ℕ, List, [], ◌∷◌, ◌++◌, ap, ◌∙◌, arith}
use Rattle.imports.proofs.WrittenRows.{row_written, row_read, row_kept}
use Rattle.imports.proofs.rows.push_at.Goals as goal

pub returns-in_ok-push-clause-ok : goal.returns-in_ok-push-clause-ok
returns-in_ok-push-clause-ok c =
    row_written c.args.rows.now.items c.args.place c.push.new.self _
    (c.in_ok-push.ensures.items
    ∙ ap (λ (row : List ℕ). row ++ c.args.item ∷ [])
    (row_read c.args.rows.now.items c.args.place c.index_mut.result.now (omega arith) c.index_mut.ensures.value))

pub returns-in_err-push-clause-err : goal.returns-in_err-push-clause-err
returns-in_err-push-clause-err c =
    row_kept c.from_residual.result c.args.rows.now.items c.args.place c.index_mut.result.now c.push.new.self
    c.index_mut.ensures.value c.in_err-push.ensures.items
