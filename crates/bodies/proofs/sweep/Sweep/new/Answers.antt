use Rattle.std.proofs.Common.{refl}
use Rattle.bodies.proofs.SweptColumns.{fresh}
use Rattle.bodies.proofs.sweep.Sweep.new.Goals as goal

pub returns : goal.returns
returns c =
    fresh c.args.nodes c.empty.result _ c.empty.ensures (c.in_ok-states.ensures.items_if_clones_equal (λ y e. e)) refl
