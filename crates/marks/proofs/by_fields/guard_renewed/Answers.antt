use Rattle.std.proofs.Common.{Bor, option_map}
use Rattle.tree.specs.declared.span.Identifier.{Identifier}
use Rattle.tree.specs.View.{identifier_syntax}
use Rattle.marks.proofs.FieldsTold.{all_told, none_told, guard_gives}
use Rattle.marks.proofs.by_fields.guard_renewed.Goals as goal

pub returns-then-tells_fields : goal.returns-then-tells_fields
returns-then-tells_fields c = all_told _ _ c.guard_renewed.new.marks _ c.if-tells_fields.ensures c.guard_renewed.ensures

pub returns-else-tells_fields : goal.returns-else-tells_fields
returns-else-tells_fields c =
    none_told _ _ c.if-tells_fields.ensures
    (guard_gives (option_map (λ (n : Bor Identifier). identifier_syntax n.now) c.args.guard) c.args.clause)
