use Rattle.tree.specs.View.{expressions_syntax}
use Rattle.marks.proofs.FieldsTold.{all_told, none_told, rights}
use Rattle.marks.proofs.by_fields.rights_given.Goals as goal

pub returns-then-tells_fields : goal.returns-then-tells_fields
returns-then-tells_fields c = all_told _ _ c.rights_given.new.marks _ c.if-tells_fields.ensures c.rights_given.ensures

pub returns-else-tells_fields : goal.returns-else-tells_fields
returns-else-tells_fields c =
    none_told _ _ c.if-tells_fields.ensures
    (rights c.args.site _ (expressions_syntax c.args.lefts.now) (expressions_syntax c.args.rights.now))
