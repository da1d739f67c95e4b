-- What the states at the nodes tell of the classes, where they have places for all variables.
use Rattle.std.proofs.Common.{◌≡◌, ℕ, ◌≤◌, Bool, List, [], length, take_all, Some, Contains, sym, ap, ◌∙◌, subst, arith}
use Rattle.std.specs.Prelude.{slice_get}
use Rattle.bodies.proofs.Answered.{classified, classified_nodes}
use Rattle.bodies.proofs.ClassNumbers.{cancel_inverse, group_inverse}
use Rattle.bodies.proofs.Columns.{finds_each}
use Rattle.bodies.proofs.FewVariables.{few_groups}
use Rattle.bodies.specs.AtNodes.{ClassifiesNodes}
use Rattle.bodies.specs.Bits.{cancel_bit, group_bit}
use Rattle.bodies.specs.Classified.{Classifies}
use Rattle.bodies.specs.Flags.{is_marked_flag}
use Rattle.bodies.specs.JoinedStates.{TellsColumns}
use Rattle.bodies.specs.NodeEvents.{IsGraphOf}
use Rattle.bodies.specs.OwnGroups.{literal_group, groups_of}
use Rattle.bodies.specs.Places.{ArePlaced, HavePlaces}
use Rattle.bodies.specs.Solutions.{packed_for, FindsEach}
use Rattle.bodies.specs.States.{Fit}
use Rattle.bodies.specs.declared.node.NodeEvent.{NodeEvent}
use Rattle.bodies.specs.declared.places.Places.{Places}
use Rattle.bodies.specs.declared.state.State.{State}
use Rattle.bodies.specs.declared.state.StateVariables.{StateVariables}
use Rattle.flow.specs.GraphOfCode.{nodes}
use Rattle.flow.specs.declared.graph.Graph.{Graph as KeptGraph}
use Rattle.meaning.specs.BodyEvents.{Variable, too_many_faults}
use Rattle.meaning.specs.Classes.{Promises}
use Rattle.meaning.specs.Code.{Occurrence, Code}
use Rattle.meaning.specs.Uses.{Event}

module _ (p : Promises) (g : KeptGraph NodeEvent) (vs : List Variable) (s : Places) (kept : StateVariables)
    (fits : Fit kept) (cancels : kept.cancels.now ≡ s.cancels.items) (groups : kept.groups.now ≡ s.groups.items)
    (pending : kept.pending.now ≡ s.groups.items) (states : List State)
    (told : TellsColumns p kept s.entry.words g states) (placed : ArePlaced vs (length s.firsts.items) s)
    (all : too_many_faults vs ≡ [] → length s.firsts.items ≡ length vs)
    (c : Code Event) (is_graph : IsGraphOf c g) (have : HavePlaces c vs) where
  abbrev found : ℕ → ℕ → ℕ → Bool
  found i = packed_for states (slice_get s.firsts.items i)

  are_all : ArePlaced vs (length vs) s
  are_all = subst (λ n. ArePlaced vs n s) (all have.are_few) placed

  own : s.groups.items ≡ groups_of vs
  own = are_all.are_groups ∙ ap groups_of (take_all (length vs) vs (omega arith))

  each : FindsEach p s.groups.items g vs found
  each =
      subst (λ gs. FindsEach p gs g vs found) pending
      (finds_each p g vs s kept fits cancels groups states told are_all)

  among : (n : ℕ) (o : Occurrence Event) (h : ℕ)
      → slice_get (nodes c) n ≡ Some o
      → literal_group o.event ≡ Some h
      → Contains s.groups.items h
  among n o h is begins = subst (λ gs. Contains gs h) (sym own) (have.own_groups n o h is begins)

  few : length s.groups.items ≤ 12
  few = let bound = few_groups vs have.are_few in let same = ap length own in omega (arith, bound, same)

  pub classes : Classifies c p vs
      (λ i n k. is_marked_flag (found i n) (cancel_bit s.groups.items k)) (λ i n k. found i n (group_bit k))
  classes =
      classified p s.groups.items g c is_graph among few (cancel_inverse s.groups.items) group_inverse vs found each

  pub classes_at_nodes : ClassifiesNodes c p vs
      (λ i n k. is_marked_flag (found i n) (cancel_bit s.groups.items k)) (λ i n k. found i n (group_bit k))
  classes_at_nodes =
      classified_nodes p s.groups.items g c is_graph among few (cancel_inverse s.groups.items) group_inverse vs found each
