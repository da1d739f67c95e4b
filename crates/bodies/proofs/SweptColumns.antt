-- What going over the nodes keeps of each variable.
use Rattle.std.proofs.Common.{◌≡◌, ℕ, suc, ◌+◌, ◌*◌, ◌%◌, ◌<◌, ◌≤◌, Bool, true, false, List, [], length, map, replicate, Option, Some, None, option_map, refl, sym, ap, ◌∙◌, subst, arith, inl, inr}
use Rattle.std.proofs.lemmas.Bool.{cases_lt}
use Rattle.std.proofs.lemmas.List.{length-map, length-replicate, get_or-map, get_or-replicate, get_or_past}
use Rattle.std.proofs.lemmas.Nat.Bits.{bit_at-zero}
use Rattle.std.proofs.lemmas.Option.{slice_get-map}
use Rattle.std.specs.Prelude.{◌==◌, slice_get}
use Rattle.bodies.proofs.Sweeps.{Sweeps, begins, passes, steps, tells}
use Rattle.bodies.specs.Carried.{IsReached, starts, goes}
use Rattle.bodies.specs.JoinedStates.{words_at, room_of, work, Joins, IsFresh, IsImageOf, Follows, IsColumn, TellsColumns}
use Rattle.bodies.specs.States.{has_bit}
use Rattle.bodies.specs.declared.node.NodeEvent.{NodeEvent}
use Rattle.bodies.specs.declared.state.State.{State}
use Rattle.bodies.specs.declared.state.StateVariables.{StateVariables}
use Rattle.bodies.specs.declared.sweep.Sweep.{Sweep}
use Rattle.code.specs.CodeViews.{occurrence_view}
use Rattle.flow.specs.GraphViews.{graph_view}
use Rattle.flow.specs.declared.graph.Graph.{Graph as KeptGraph}
use Rattle.flow.specs.declared.graph.Node.{Node}
use Rattle.meaning.specs.Classes.{Promises}

-- States without any bit

pub fresh : (nodes : ℕ) (empty : State) (s : Sweep)
    → ((bit : ℕ) → has_bit empty.words bit ≡ false)
    → s.states.items ≡ replicate nodes empty
    → s.left ≡ 0
    → IsFresh nodes s
fresh nodes empty s none are left = record {
  counted = ap length are ∙ length-replicate nodes empty;
  none = λ n bit. elim (cases_lt n nodes) [
    | inl l ↦
        ap (λ ws. has_bit ws bit)
        (ap (λ ss. words_at ss n) are
        ∙ get_or-map (λ (t : State). t.words) (replicate nodes empty) n empty []
        (subst (λ k. n < k) (sym (length-replicate nodes empty)) l)
        ∙ ap (λ (t : State). t.words) (get_or-replicate nodes n empty empty l))
        ∙ none bit
    | inr past ↦
        ap (λ ws. has_bit ws bit)
        (ap (λ ss. words_at ss n) are
        ∙ get_or_past (map (λ (t : State). t.words) (replicate nodes empty)) n []
        (subst (λ k. k ≤ n) (sym (length-map (replicate nodes empty) (λ (t : State). t.words) ∙ length-replicate nodes empty)) past))
        ∙ ap (λ b. b == 1) (bit_at-zero (bit % 64))
  ];
  left = left;
}

-- Nodes

node_there : (g : KeptGraph NodeEvent) (n : ℕ) (node : Node NodeEvent)
    → slice_get g.nodes.items n ≡ Some node
    → slice_get (graph_view g).nodes n ≡ Some (occurrence_view node.occurrence)
node_there g n node e = slice_get-map (λ (m : Node NodeEvent). occurrence_view m.occurrence) g.nodes.items n ∙ ap (option_map (λ (m : Node NodeEvent). occurrence_view m.occurrence)) e

links_there : (g : KeptGraph NodeEvent) (n : ℕ) (node : Node NodeEvent)
    → slice_get g.nodes.items n ≡ Some node
    → slice_get (graph_view g).next n ≡ Some node.next.items
links_there g n node e = slice_get-map (λ (m : Node NodeEvent). m.next.items) g.nodes.items n ∙ ap (option_map (λ (m : Node NodeEvent). m.next.items)) e

none_there : (g : KeptGraph NodeEvent) (n : ℕ) → slice_get g.nodes.items n ≡ None → slice_get (graph_view g).nodes n ≡ None
none_there g n e = slice_get-map (λ (m : Node NodeEvent). occurrence_view m.occurrence) g.nodes.items n ∙ ap (option_map (λ (m : Node NodeEvent). occurrence_view m.occurrence)) e

-- One column

module _ (p : Promises) (vs : StateVariables) (entry : List ℕ) (g : KeptGraph NodeEvent) where
  abbrev pub SweepsAll : Sweep → Type 0
  SweepsAll s =
      (first count : ℕ) (step : NodeEvent → ℕ → ℕ) (entries : List ℕ) (usual : ℕ → Bool)
      → IsColumn p vs entry first count step entries usual
      → Sweeps (graph_view g) step first count entries s

  -- what the loop keeps
  pub record SweptSoFar (s : Sweep) : Type 0 where
    pub counted : length s.states.items ≡ length g.nodes.items
    pub columns : SweepsAll s

  long : length (graph_view g).nodes ≡ length g.nodes.items
  long = length-map g.nodes.items (λ (m : Node NodeEvent). occurrence_view m.occurrence)

  pub begun : (nodes : ℕ) (first : List ℕ) (a s : Sweep)
      → nodes ≡ length g.nodes.items
      → first ≡ g.starts.items
      → IsFresh nodes a
      → Joins first entry a s
      → SweptSoFar s
  begun nodes all a s count is fresh joins = record {
    counted = joins.counted ∙ fresh.counted ∙ count;
    columns = λ first width step entries usual column.
        begins (graph_view g) step first width entries entry a s
        (fresh.counted ∙ count ∙ sym long) fresh.none column.is_entry
        (subst (λ (ns : List ℕ). Joins ns entry a s) is joins);
  }

  module _ (first count : ℕ) (step : NodeEvent → ℕ → ℕ) (entries : List ℕ) (usual : ℕ → Bool)
      (column : IsColumn p vs entry first count step entries usual) where
    usual_there : (n i : ℕ) → IsReached (graph_view g) step entries n i → usual i ≡ true
    usual_there n i (starts a b) = column.begins i b
    usual_there n i (goes {n = m} {k = j} {o = o} r a b c) = column.keeps o.event j (usual_there m j r)

    next : (s a b : Sweep) (node : Option (Node NodeEvent))
        → Sweeps (graph_view g) step first count entries s
        → a.states.items ≡ s.states.items
        → s.left ≡ suc a.left
        → slice_get g.nodes.items a.left ≡ node
        → Follows p vs node a b
        → Sweeps (graph_view g) step first count entries b
    next s a b None h same last is_node follows =
        subst (λ (t : Sweep). Sweeps (graph_view g) step first count entries t) (sym follows)
        (passes (graph_view g) step first count entries a b s a.left h same last refl (none_there g a.left is_node))
    next s a b (Some node) h same last is_node follows =
        steps (graph_view g) step first count entries a b s a.left h same last refl
        (occurrence_view node.occurrence) node.next.items follows.0 (node_there g a.left node is_node)
        (links_there g a.left node is_node)
        (column.images node.occurrence.event (words_at s.states.items a.left) follows.0
        (subst (λ ss. IsImageOf p vs node.occurrence.event (words_at ss a.left) follows.0) same follows.1)
        (λ bit l e. usual_there a.left bit (h.sound a.left bit l e)))
        follows.2 column.stays

  pub swept : (s a b : Sweep)
      → SweptSoFar s
      → a.states.items ≡ s.states.items
      → s.left ≡ suc a.left
      → length b.states.items ≡ length a.states.items
      → Follows p vs (slice_get g.nodes.items a.left) a b
      → SweptSoFar b
  swept s a b h same last count follows = record {
    counted = count ∙ ap length same ∙ h.counted;
    columns = λ first width step entries usual column.
        next first width step entries usual column s a b (slice_get g.nodes.items a.left)
        (h.columns first width step entries usual column) same last refl follows;
  }

  pub done : (s : Sweep) → SweptSoFar s → s.left ≡ 0 → TellsColumns p vs entry g s.states.items
  done s h ended first count step entries usual column =
      tells (graph_view g) step first count entries s (h.columns first count step entries usual column) ended
      column.stays column.small

  -- each turn follows a node, or a state grew

  one_less : (s a : Sweep) → a.states.items ≡ s.states.items → s.left ≡ suc a.left → work a + 1 ≡ work s
  one_less s a same last =
      let rooms : room_of a.states.items * (length a.states.items + 1) ≡ room_of s.states.items * (length s.states.items + 1) =
      ap (λ ss. room_of ss * (length ss + 1)) same in
      omega (arith, rooms, last)

  pub less : (s a b : Sweep) (node : Option (Node NodeEvent))
      → a.states.items ≡ s.states.items
      → s.left ≡ suc a.left
      → Follows p vs node a b
      → work b < work s
  less s a b None same last follows =
      let is : work b ≡ work a = ap work follows in let one = one_less s a same last in omega (arith, is, one)
  less s a b (Some node) same last follows =
      let no_more = follows.2.no_more in let one = one_less s a same last in omega (arith, no_more, one)

  pub counted_after : (a b : Sweep) (node : Option (Node NodeEvent)) → Follows p vs node a b → length b.states.items ≡ length a.states.items
  counted_after a b None follows = ap (λ (t : Sweep). length t.states.items) follows
  counted_after a b (Some node) follows = follows.2.counted
