use Rattle.tree.specs.View.{expression_syntax}
use Rattle.mentions.specs.MarkViews.{place_view}
use Rattle.marks.proofs.FieldsTold.{all_told, none_told, receiver_is_given}
use Rattle.marks.proofs.by_fields.receiver_given.Goals as goal

pub returns-then-tells_fields : goal.returns-then-tells_fields
returns-then-tells_fields c = all_told _ _ c.receiver_given.new.marks _ c.if-tells_fields.ensures c.receiver_given.ensures

pub returns-else-tells_fields : goal.returns-else-tells_fields
returns-else-tells_fields c =
    none_told _ _ c.if-tells_fields.ensures
    (receiver_is_given (place_view c.args.place) c.args.site (expression_syntax c.args.callee.now))
