use Rattle.std.proofs.Common.{◌∙◌}
use Rattle.code.proofs.Codes.{code_view-Sequence, kept_backward}
use Rattle.code.proofs.parts.in_sequence.Goals as goal

pub returns : goal.returns
returns g c = code_view-Sequence _ ∙ kept_backward _ _ c.reverse.ensures.items
