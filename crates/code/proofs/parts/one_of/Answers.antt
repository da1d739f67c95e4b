use Rattle.std.proofs.Common.{◌∙◌}
use Rattle.code.proofs.Codes.{code_view-Choice, chosen_backward}
use Rattle.code.proofs.parts.one_of.Goals as goal

pub returns : goal.returns
returns g c = code_view-Choice _ ∙ chosen_backward _ _ c.reverse.ensures.items
