use Rattle.objects.proofs.Literals.{composite_there, composite_other}
use Rattle.objects.proofs.addresses.is_composite.Goals as goal

pub returns-in-CompositeLit : goal.returns-in-CompositeLit
returns-in-CompositeLit c = composite_there _ _ _ _ c.in-CompositeLit.is

pub returns-in_default : goal.returns-in_default
returns-in_default c = composite_other _ _ c.in_default.not-CompositeLit
