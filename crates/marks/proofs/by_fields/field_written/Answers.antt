use Rattle.std.proofs.Common.{option_map}
use Rattle.tree.specs.View.{expression_syntax}
use Rattle.mentions.specs.MarkViews.{assigned_view}
use Rattle.marks.proofs.FieldsTold.{all_told, none_told, gets_value}
use Rattle.marks.proofs.by_fields.field_written.Goals as goal

pub returns-then-tells_fields : goal.returns-then-tells_fields
returns-then-tells_fields c = all_told _ _ c.field_written.new.marks _ c.if-tells_fields.ensures c.field_written.ensures

pub returns-else-tells_fields : goal.returns-else-tells_fields
returns-else-tells_fields c =
    none_told _ _ c.if-tells_fields.ensures
    (gets_value c.args.site (option_map assigned_view c.args.assigned) (expression_syntax c.args.left.now))
