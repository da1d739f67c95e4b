use Rattle.std.proofs.Common.{length, nat_eq, sym, ap, ◌∙◌}
use Rattle.meaning.specs.Uses.{is_no_giving}
use Rattle.mentions.specs.MarkViews.{row_view}
use Rattle.tracked_rows.specs.RowViews.{known_view}
use Rattle.tracked_rows.proofs.ClearedAt.{got, clears-each, clears-none}
use Rattle.tracked_rows.proofs.makings.clears_at.Goals as goal

pub returns-then-row-count : goal.returns-then-row-count
returns-then-row-count c =
    let values = c.args.row.values.now in
    let found = c.get-then-row-count.ensures.lookup in
    c.is_no_giving-then-row-count.ensures
    ∙ (ap (is_no_giving (known_view c.args.known) (row_view c.args.row)) (got values c.args.index _ found.1 found.3)
    ∙ clears-each (known_view c.args.known) (row_view c.args.row) c.args.index values c.if-is_empty.ensures c.if-row-eq1.false
    (c.if-row-count.true ∙ c.count.ensures))

pub returns-else-row-count : goal.returns-else-row-count
returns-else-row-count c =
    let values = c.args.row.values.now in
    ap (nat_eq (length values)) c.count.ensures
    ∙ clears-none (known_view c.args.known) (row_view c.args.row) c.args.index values c.if-is_empty.ensures c.if-row-eq1.false
    (λ same. c.if-row-count.false (same ∙ sym c.count.ensures))
