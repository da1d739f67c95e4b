use Rattle.std.proofs.Common.{◌∙◌}
use Rattle.uses.proofs.LeftSides.{none_left}
use Rattle.uses.proofs.bindings.has_no_value.Goals as goal

pub returns : goal.returns
returns c = c.is_empty.ensures ∙ none_left c.args.row.values.now
