use Rattle.std.proofs.lemmas.List.{get_or_default}
use Rattle.scopes.proofs.Adding.{adds_next}
use Rattle.scopes.proofs.ReceiverNames.{declared_item}
use Rattle.scopes.proofs.declared.declare_bare_names.Goals as goal

pub loop-name-preserved : goal.loop-name-preserved
loop-name-preserved c =
    let names = c.args.names.now in
    let i = c.loop-name.name-index in
    adds_next _ _ _ _ _ _ c.loop-name.invariant
    (declared_item c.args.block names i _ c.loop-name-test.true (get_or_default names i _ _ c.loop-name-test.true))
    c.in_ok-declare_type_parameter.ensures
