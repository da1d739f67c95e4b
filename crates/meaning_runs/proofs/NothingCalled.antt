-- A call of a variable that holds no function does nothing.
use Rattle.std.proofs.Common.{◌∷◌, ap, subst}
use Rattle.meaning_runs.specs.World.{Store, calling, with_stack}
use Rattle.meaning_runs.specs.Steps.{calls_one, at_code, Step, of_goroutine}
use Rattle.meaning_runs.specs.Laws.{CallsOfNothingDoNothing}

pub calls_of_nothing_do_nothing : CallsOfNothingDoNothing
calls_of_nothing_do_nothing p w g f others v rest at d none =
    subst (λ (s : Store). Step p w (with_stack w s g (at_code f rest ∷ others))) (ap (calling w.store) none)
    (of_goroutine g at (calls_one d))
