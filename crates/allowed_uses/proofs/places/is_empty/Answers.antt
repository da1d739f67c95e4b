use Rattle.std.proofs.Common.{◌∙◌}
use Rattle.allowed_uses.proofs.Forms.{empty_list}
use Rattle.allowed_uses.proofs.places.is_empty.Goals as goal

pub returns : goal.returns
returns c = c.is_empty.ensures ∙ empty_list c.args.values.now
