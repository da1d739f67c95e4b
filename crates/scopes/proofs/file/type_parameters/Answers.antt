use Rattle.std.proofs.Common.{map, ap}
use Rattle.meaning.specs.Scopes.{parameters_named}
use Rattle.scopes.specs.Views.{bare_view}
use Rattle.tree.specs.View.{parameters_syntax}
use Rattle.scopes.proofs.Adding.{same_adds, then_adds, type_parameters_joined}
use Rattle.scopes.proofs.file.type_parameters.Goals as goal

pub returns : goal.returns
returns c =
    same_adds _ _ _ _ _
    (type_parameters_joined c.behind_name-block.result _ (map bare_view c.args.named.now) _ _ c.behind_name-block.ensures
    (ap (λ l. parameters_named (parameters_syntax l)) c.deref.ensures.value))
    (then_adds _ _ _ _ _ _ c.in_ok-declare_bare_names.ensures c.declare_type_parameters.ensures)
