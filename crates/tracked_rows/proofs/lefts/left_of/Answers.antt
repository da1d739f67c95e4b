use Rattle.std.proofs.Common.{Some, ap, ◌∙◌}
use Rattle.tracked_rows.proofs.LeftSides.{left-there, left-past}
use Rattle.tracked_rows.proofs.lefts.left_of.Goals as goal

pub returns-in-Some : goal.returns-in-Some
returns-in-Some c =
    rw c.in-Assigns.is
    (ap Some c.left_of_expression.ensures
    ∙ left-there c.in-Assigns.left.now c.args.index c.in-Some.item.now c.in-Some.ensures.lookup.3.0 c.in-Some.ensures.lookup.1)

pub returns-in-None : goal.returns-in-None
returns-in-None c = rw c.in-Assigns.is (left-past c.in-Assigns.left.now c.args.index c.in-None.ensures.lookup.3)
