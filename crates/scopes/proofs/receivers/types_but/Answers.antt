use Rattle.std.proofs.Common.{◌++◌, map, ap, ◌∙◌}
use Rattle.std.specs.List.{filter}
use Rattle.meaning.specs.Scopes.{is_none_of, parameters_names}
use Rattle.scopes.specs.Views.{bare_view, namings_view}
use Rattle.tree.specs.View.{parameters_syntax}
use Rattle.scopes.proofs.Adding.{same_adds}
use Rattle.scopes.proofs.ReceiverNames.{all_used}
use Rattle.scopes.proofs.receivers.types_but.Goals as goal

pub returns-then-is_empty : goal.returns-then-is_empty
returns-then-is_empty c = same_adds _ _ _ _ _ (all_used c.args.named.now _ c.if-is_empty.ensures) c.parameters.ensures

pub returns : goal.returns
returns c =
    same_adds _ _ _ _ _
    (ap (filter (is_none_of (map bare_view c.args.named.now)))
    (ap namings_view c.deref.ensures.value ∙ c.in_ok-parameters.ensures
    ∙ ap (λ l. namings_view l ++ parameters_names (parameters_syntax c.args.params.now)) c.new-all.ensures.items))
    c.add_others.ensures
