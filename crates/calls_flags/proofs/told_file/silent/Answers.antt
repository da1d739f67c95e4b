use Rattle.std.proofs.Common.{refl, subst}
use Rattle.events.specs.ToldViews.{TellsNothing}
use Rattle.calls_flags.proofs.ToldInOrder.{silent_so}
use Rattle.calls_flags.proofs.told_file.silent.Goals as goal

pub returns : goal.returns
returns c = λ known same. silent_so known _ refl (subst (λ e. TellsNothing e c.new.result) same c.new.ensures)
