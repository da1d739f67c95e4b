use Rattle.std.proofs.Common.{sym, ◌∙◌}
use Rattle.keeping.proofs.RowValues.{valued, not_valued}
use Rattle.keeping.proofs.values.value_at.Goals as goal

pub returns-then-row-count : goal.returns-then-row-count
returns-then-row-count c =
    let found = c.get.ensures.lookup in
    valued c.args.row.values.now _ c.args.index _ (c.if-row-count.true ∙ c.count.ensures) found.1 found.3

pub returns-else-row-count : goal.returns-else-row-count
returns-else-row-count c = not_valued c.args.row.values.now _ c.args.index (λ same. c.if-row-count.false (same ∙ sym c.count.ensures))
