use Rattle.objects.proofs.PointedTypes.{star_there, star_other}
use Rattle.objects.proofs.pointers.is_star.Goals as goal

pub returns-in-Star : goal.returns-in-Star
returns-in-Star c = star_there _ _ _ c.in-Star.is

pub returns-in_default : goal.returns-in_default
returns-in_default c = star_other _ _ c.in_default.not-Star
