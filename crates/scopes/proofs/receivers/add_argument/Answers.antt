use Rattle.std.proofs.Common.{[], ◌∷◌, ap}
use Rattle.tree.proofs.Views.{expression_form-Name}
use Rattle.scopes.proofs.ReceiverNames.{identifier_at, bare_pushed, bare_same, bare_other}
use Rattle.scopes.proofs.receivers.add_argument.Goals as goal

pub returns-in_ok-push-in-Name : goal.returns-in_ok-push-in-Name
returns-in_ok-push-in-Name c =
    rw (c.in-Name.is, expression_form-Name)
    (bare_pushed _ _ _ _ (ap (λ text. identifier_at c.args.argument.now.span text ∷ []) c.as_str.ensures) c.in_ok-push-in-Name.ensures.items)

pub returns-in_default : goal.returns-in_default
returns-in_default c = bare_same _ _ (bare_other _ _ c.in_default.not-Name)
