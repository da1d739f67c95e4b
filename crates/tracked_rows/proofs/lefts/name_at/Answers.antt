use Rattle.std.proofs.Common.{Some, ap, ◌∙◌}
use Rattle.tracked_rows.proofs.LeftSides.{name-there, name-past}
use Rattle.tracked_rows.proofs.lefts.name_at.Goals as goal

pub returns-in-Some : goal.returns-in-Some
returns-in-Some c =
    ap Some c.left_of_name.ensures
    ∙ name-there c.args.names.now c.args.index c.in-Some.name.now c.in-Some.ensures.lookup.3.0 c.in-Some.ensures.lookup.1

pub returns-in-None : goal.returns-in-None
returns-in-None c = name-past c.args.names.now c.args.index c.in-None.ensures.lookup.3
