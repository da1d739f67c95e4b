use Rattle.std.proofs.Common.{◌≤◌, length, map, sym, ap, ◌∙◌, subst}
use Rattle.std.specs.Prelude.{IfSome, is_some}
use Rattle.events.specs.VariableViews.{variable_view}
use Rattle.bodies.specs.States.{Fit}
use Rattle.bodies.specs.declared.state.StateVariables.{StateVariables}
use Rattle.checker.specs.Loaded.{AreLoaded}
use Rattle.checker.proofs.edges.image_of.Goals as goal

pub returns-in-Some : goal.returns-in-Some
returns-in-Some g c = λ laid.
    let views = map variable_view c.args.laid_out.now.variables.now in
    let kept : StateVariables = record {
      cancels = c.deref.result;
      groups = c.deref-2.result;
      pending = c.deref-3.result;
    } in
    let fits : Fit kept = record {
      cancels = subst (λ ns. length ns ≤ 48) (sym c.deref.ensures.value) c.requires.places.cancels;
      groups = subst (λ ns. length ns ≤ 12) (sym c.deref-2.ensures.value) c.requires.places.own_groups;
      pending = subst (λ ns. length ns ≤ 12) (sym c.deref-3.ensures.value) c.requires.places.groups;
    } in
    record {
      loaded = c.in-Some.state.words;
      are_loaded =
          subst (λ o. IfSome o (λ state. AreLoaded views c.args.masks.now (length views) state.words)) c.in-Some.is
          c.state_of.ensures.loaded;
      kept = kept;
      are_kept = record {
        cancels = c.deref.ensures.value;
        own_groups = c.deref-2.ensures.value;
        groups = c.deref-3.ensures.value;
        fit = fits;
      };
      is_changed = c.changed.ensures laid.nothing;
    }

pub returns-in-None : goal.returns-in-None
returns-in-None g c = λ laid. sym c.state_of.ensures.there ∙ ap is_some c.in-None.is
