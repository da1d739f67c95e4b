use Rattle.std.proofs.Common.{arith}
use Rattle.lexer.proofs.Lines.{column_of-le}
use Rattle.lexer.proofs.position.place_after.Goals as goal

pub overflow_add-column : goal.overflow_add-column
overflow_add-column c =
    omega (arith, c.loop-at.invariant.1, column_of-le c.args.bytes.now c.loop-at.at, c.loop-at-test.true, c.requires.order, c.type_inv.bytes)
