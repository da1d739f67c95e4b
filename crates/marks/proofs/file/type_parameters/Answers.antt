use Rattle.marks.proofs.AddingBy.{elsewhere_kept, adds_kept, then_adds}
use Rattle.marks.proofs.file.type_parameters.Goals as goal

pub returns : goal.returns
returns c = then_adds _ _ _ _ _ _ (adds_kept _ _ _ (elsewhere_kept _ _) c.in_ok-declared_parameters.ensures) c.parameters.ensures
