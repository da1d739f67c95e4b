use Rattle.tree.specs.View.{optional_statement_syntax}
use Rattle.marks.proofs.FieldsTold.{all_told, none_told, clause_gives}
use Rattle.marks.proofs.by_fields.communication_given.Goals as goal

pub returns-then-tells_fields : goal.returns-then-tells_fields
returns-then-tells_fields c = all_told _ _ c.communication_given.new.marks _ c.if-tells_fields.ensures c.communication_given.ensures

pub returns-else-tells_fields : goal.returns-else-tells_fields
returns-else-tells_fields c =
    none_told _ _ c.if-tells_fields.ensures
    (clause_gives c.args.clause (optional_statement_syntax c.args.communication.now))
