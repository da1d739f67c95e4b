use Rattle.tree.proofs.Views.{expression_form-Paren, expression_form-Star, expression_form-Index, expression_form-Instance}
use Rattle.scopes.proofs.ReceiverNames.{bare_same, named_other}
use Rattle.scopes.proofs.receivers.+add_type.Goals as goal

pub returns-in-Paren : goal.returns-in-Paren
returns-in-Paren t c = rw (c.in-Paren.is, expression_form-Paren, ← c.deref.ensures) c.add_type.ensures

pub returns-in-Star : goal.returns-in-Star
returns-in-Star t c = rw (c.in-Star.is, expression_form-Star, ← c.deref-in-Star.ensures) c.add_type-in-Star.ensures

pub returns-in-Index : goal.returns-in-Index
returns-in-Index t c = rw (c.in-Index.is, expression_form-Index, ← c.deref-in-Index.ensures) c.add_argument.ensures

pub returns-in-Instance : goal.returns-in-Instance
returns-in-Instance t c =
    rw (c.in-Instance.is, expression_form-Instance, ← c.deref-in-Instance.ensures.value) c.add_arguments.ensures

pub returns-in_default : goal.returns-in_default
returns-in_default t c =
    bare_same _ _ (named_other _ _ c.in_default.not-Paren c.in_default.not-Star c.in_default.not-Index c.in_default.not-Instance)
