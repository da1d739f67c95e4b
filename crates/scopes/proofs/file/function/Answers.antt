use Rattle.std.proofs.Common.{◌++◌, map, ap, ◌∙◌}
use Rattle.meaning.specs.Scopes.{type_parameters_declared, behind_name, parameters_names, parameters_named}
use Rattle.scopes.specs.Views.{bare_view, names_but}
use Rattle.tree.specs.View.{parameters_syntax, function_syntax}
use Rattle.scopes.proofs.Adding.{adds_same, five_adds}
use Rattle.scopes.proofs.ReceiverNames.{receiver_but}
use Rattle.scopes.proofs.file.function.Goals as goal

pub returns : goal.returns
returns c =
    let f = function_syntax c.args.function.now in
    five_adds _ _ _ _ _ _ _ _ _ _ _ _
    (adds_same _ _ _ _ (ap (λ l. names_but l f.receiver) (ap (map bare_view) c.deref.ensures.value ∙ c.in_ok-named.ensures) ∙ receiver_but f.receiver)
    c.in_ok-receiver.ensures)
    (adds_same _ _ _ _
    (ap (λ l. type_parameters_declared (behind_name f.name f.span) (l ++ parameters_named f.type_parameters))
    (ap (map bare_view) c.deref-2.ensures.value ∙ c.in_ok-named.ensures))
    c.in_ok-type_parameters.ensures)
    (adds_same _ _ _ _ (ap (λ l. parameters_names (parameters_syntax l)) c.deref-3.ensures.value) c.in_ok-parameters.ensures)
    c.in_ok-signature.ensures c.body.ensures
