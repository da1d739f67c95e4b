-- What nodes make of states is what their events make of them.
use Rattle.std.proofs.Common.{◌≡◌, ◌⊎◌, ℕ, List, [], refl, sym, subst, inl, inr}
use Rattle.std.specs.Borrow.{Bor}
use Rattle.bodies.specs.NodeEvents.{node_event_view}
use Rattle.bodies.specs.declared.node.NodeEvent.{NodeEvent}
use Rattle.bodies.specs.declared.node.NodeEvent.TheVariants.{Other, FallsOff, Does}
use Rattle.meaning.specs.Classes.{Promises}
use Rattle.meaning.specs.Uses.{Event, other, return_event}
use Rattle.bodies.specs.States.{Applies}
use Rattle.bodies.specs.declared.state.StateVariables.{StateVariables}
use Rattle.tracked_rows.specs.EventViews.{event_view}
use Rattle.tracked_rows.specs.declared.event.Event.{Event as KeptEvent}
use Rattle.checker.specs.LaidOutViews.{IsReturn}
use Rattle.checker.specs.NodeStates.{DoesSame, IsChanged}

module _ (p : Promises) (kept : StateVariables) (event : NodeEvent) (before after : List ℕ) where
  pub by_event : (e : Bor KeptEvent) → event ≡ Does e → Applies p (event_view e.now) kept before after
      → IsChanged p kept (node_event_view event) before after
  by_event e is applies =
      subst (λ n. IsChanged p kept (node_event_view n) before after) (sym is) record {
        done = event_view e.now;
        does_same = record { to_cancel = λ _ _. refl; to_group = λ _ _. refl };
        applies = applies;
      }

  -- a node that does nothing to variables leaves each class what it was, as a return does
  pub by_nothing : (nothing : KeptEvent) → (event ≡ Other) ⊎ (event ≡ FallsOff) → IsReturn nothing
      → Applies p (event_view nothing) kept before after → IsChanged p kept (node_event_view event) before after
  by_nothing nothing is returns applies =
      elim is [
        | inl same ↦
            subst (λ n. IsChanged p kept (node_event_view n) before after) (sym same)
            (as_return other (record { to_cancel = λ _ _. refl; to_group = λ _ _. refl }))
        | inr same ↦
            subst (λ n. IsChanged p kept (node_event_view n) before after) (sym same)
            (as_return (return_event []) (record { to_cancel = λ _ _. refl; to_group = λ _ _. refl }))
      ]
    where
      as_return : (e : Event) → DoesSame (return_event returns.0) e → IsChanged p kept e before after
      as_return e same = record {
        done = return_event returns.0;
        does_same = same;
        applies = subst (λ done. Applies p done kept before after) returns.1 applies;
      }
