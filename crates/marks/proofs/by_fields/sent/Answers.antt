use Rattle.tree.specs.View.{expression_syntax}
use Rattle.mentions.specs.MarkViews.{standing_view}
use Rattle.marks.proofs.FieldsTold.{all_told, none_told, is_sent}
use Rattle.marks.proofs.by_fields.sent.Goals as goal

pub returns-then-tells_fields : goal.returns-then-tells_fields
returns-then-tells_fields c = all_told _ _ c.sent.new.marks _ c.if-tells_fields.ensures c.sent.ensures

pub returns-else-tells_fields : goal.returns-else-tells_fields
returns-else-tells_fields c =
    none_told _ _ c.if-tells_fields.ensures
    (is_sent (standing_view c.args.standing) c.args.at (expression_syntax c.args.value.now))
