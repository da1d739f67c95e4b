use Rattle.tree.specs.View.{expression_syntax}
use Rattle.marks.proofs.FieldsTold.{all_told, none_told, called}
use Rattle.marks.proofs.by_fields.field_called.Goals as goal

pub returns-then-tells_fields : goal.returns-then-tells_fields
returns-then-tells_fields c = all_told _ _ c.field_called.new.marks _ c.if-tells_fields.ensures c.field_called.ensures

pub returns-else-tells_fields : goal.returns-else-tells_fields
returns-else-tells_fields c =
    none_told _ _ c.if-tells_fields.ensures
    (called c.args.site (expression_syntax c.args.callee.now))
