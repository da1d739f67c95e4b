use Rattle.marks.proofs.AddingBy.{then_adds}
use Rattle.marks.proofs.by_fields.behind_literal.Goals as goal

pub returns : goal.returns
returns c = then_adds _ _ _ _ _ _ c.in_ok-deferral.ensures c.literal_given_to.ensures
