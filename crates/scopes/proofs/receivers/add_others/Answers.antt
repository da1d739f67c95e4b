use Rattle.std.proofs.Common.{map}
use Rattle.std.proofs.lemmas.List.{get_or_default}
use Rattle.scopes.specs.Views.{bare_view}
use Rattle.scopes.proofs.Adding.{adds_next}
use Rattle.scopes.proofs.ReceiverNames.{others_item}
use Rattle.scopes.proofs.receivers.add_others.Goals as goal

pub loop-naming-preserved : goal.loop-naming-preserved
loop-naming-preserved c =
    let all = c.args.all.now in
    let i = c.loop-naming.naming-index in
    adds_next _ _ _ _ _ _ c.loop-naming.invariant
    (others_item (map bare_view c.args.named.now) all i _ c.loop-naming-test.true (get_or_default all i _ _ c.loop-naming-test.true))
    c.in_ok-add_other.ensures
