-- The faults that the program finds are those of the definitions, where a table tells exactly the classes that arrive.
use Rattle.std.proofs.Common.{◌≡◌, ◌↔◌, ◌==◌, ℕ, Bool, true, false, not, ◌&&◌, ◌||◌, inl, inr, List, [], ◌∷◌, ◌++◌, Some, IsTrue, Contains, refl, sym, ap, ◌∙◌, subst, true≢false}
use Rattle.std.specs.Prelude.{slice_get, is_none}
use Rattle.std.proofs.lemmas.Bool.{false≢true, and_parts, and_from, or_cases, or_left, or_right, eqb-true, eq-eqb, not-true, not_from_false, false_from_ne_true}
use Rattle.std.proofs.lemmas.List.Elements.{Contains-append_left, Contains-append_right, Contains-append_cases}
use Rattle.std.proofs.lemmas.Option.{same_Some}
use Rattle.meaning.proofs.Membership.{contains_nil, contains_here, contains_cases}
use Rattle.meaning.specs.Code.{Occurrence}
use Rattle.meaning.specs.Lists.{Reaches}
use Rattle.meaning.specs.FunctionFacts.{VariableKind, cancel, group}
use Rattle.meaning.specs.Tracked.{live, idle}
use Rattle.meaning.specs.Uses.{VariableAt, Handed, Event, other, obtain, obtain_kept, renew, keep, call_kept, defer_kept, give, give_field, clear, call, defer_call, pass, defer_pass, lend, start, try, wait, defer_wait, make, defer_literal, go, return_event, is_cancel, is_group}
use Rattle.meaning.specs.BodyEvents.{Variable}
use Rattle.meaning.specs.Classes.{CancelClass, unset, opened, kept, safe, pending, GroupClass, unmade, in_state, awaited}
use Rattle.flow.specs.GraphOfCode.{nodes}
use Rattle.meaning_packages.specs.PathFaults.{PathCode, overwritten, not_called, group_is_live, group_overwritten, left_to_live_group, PathFault, Paths, makes_it, is_declared, is_lost, is_handed, is_handed_kept, cancel_class, group_class, BindsCancel, obtains, obtains_into, clears, ComesToReturn, OwesCall, LeavesLive, IsLeft, IsPathFault, loses_cancel, loses_group, returns_live, returns_open, returns_kept, returns_pending, KeepsCall}
use Rattle.meaning_packages.specs.Credits.{is_safe, is_live, is_settled, Settles}
use Rattle.bodies.specs.Classified.{Classifies}
use Rattle.path_faults.specs.FoundFaults as found
use Rattle.path_faults.specs.FoundFaults.{each_from, fault_if, Cancels, Groups, is_live_group, may_be_lost, binding_faults, making_faults, is_same_place, is_live_at, is_live_there, is_left_to, owes_call, open_faults, left_faults, live_faults, return_faults, event_faults, faults_of_nodes, is_return, is_uncalled, is_open_there, breaks_call, is_unsettled, breaks_settling}
use Rattle.path_faults.proofs.Places.{place_of, contains_at, any_witness, any_holds, passes_at, any_at, given_at, gives_at}

-- Small facts

pub same_number : (m n : ℕ) → (m == n) ≡ true → m ≡ n
same_number m n e = eqb-true m n e

pub is_same : (m n : ℕ) → m ≡ n → (m == n) ≡ true
is_same m n e = eq-eqb m n e

pub cancel_kind : (k : VariableKind) → is_cancel (Some k) ≡ true → k ≡ cancel
cancel_kind cancel e = refl
cancel_kind group e = absurd (false≢true e)

pub group_kind : (k : VariableKind) → is_group (Some k) ≡ true → k ≡ group
group_kind cancel e = absurd (false≢true e)
group_kind group e = refl

pub is_cancel_kind : (k : VariableKind) → k ≡ cancel → is_cancel (Some k) ≡ true
is_cancel_kind k e = ap (λ x. is_cancel (Some x)) e

pub is_group_kind : (k : VariableKind) → k ≡ group → is_group (Some k) ≡ true
is_group_kind k e = ap (λ x. is_group (Some x)) e

unhanded : (a b c d : Bool) → (a || c) ≡ false → (c ≡ false → d ≡ false) → ((a && b) || d) ≡ false
unhanded true b c d e rest = absurd (true≢false e)
unhanded false b c d e rest = rest e

-- what is not handed on where it is kept is not handed on
pub not_handed : (number : ℕ) (handed : List Handed) → is_handed_kept number handed ≡ false
    → is_handed number handed ≡ false
not_handed number [] e = refl
not_handed number (h ∷ hs) e =
    unhanded (h.number == number) (is_none h.object) (is_handed_kept number hs) (is_handed number hs) e
    (not_handed number hs)

pub in_fault_if : (t : Bool) (at : ℕ) (code : PathCode) (name : List ℕ) (f : PathFault)
    → Contains (fault_if t at code name) f → (t ≡ true) × (record { at = at; code = code; name = name } ≡ f)
in_fault_if true at code name f h =
    elim (contains_cases (record { at = at; code = code; name = name }) f [] h) [
      | inl same ↦ (refl, same)
      | inr later ↦ absurd (contains_nil f later)
    ]
in_fault_if false at code name f h = absurd (contains_nil f h)

pub fault_there : (t : Bool) (at : ℕ) (code : PathCode) (name : List ℕ) → t ≡ true
    → Contains (fault_if t at code name) (record { at = at; code = code; name = name })
fault_there true at code name e = contains_here (record { at = at; code = code; name = name }) []
fault_there false at code name e = absurd (false≢true e)

-- a variable gives the fault, where each gives one that passes a test
pub record FaultAt (vs : List Variable) (test : ℕ → Variable → Bool) (at : ℕ) (code : PathCode) (f : PathFault)
    : Type 0 where
  pub place : ℕ
  pub variable : Variable
  pub is_there : slice_get vs place ≡ Some variable
  pub passes : test place variable ≡ true
  pub is_it : record { at = at; code = code; name = variable.name } ≡ f

pub fault_at : (vs : List Variable) (test : ℕ → Variable → Bool) (at : ℕ) (code : PathCode) (f : PathFault)
    → Contains (each_from (λ i v. fault_if (test i v) at code v.name) 0 vs) f → FaultAt vs test at code f
fault_at vs test at code f h =
    let w = given_at (λ i v. fault_if (test i v) at code v.name) vs f h in
    let it = in_fault_if (test w.place w.element) at code w.element.name f w.gives in
    record { place = w.place; variable = w.element; is_there = w.is_there; passes = it.0; is_it = it.1 }

pub gives_fault : (vs : List Variable) (test : ℕ → Variable → Bool) (at : ℕ) (code : PathCode) (i : ℕ) (v : Variable)
    → slice_get vs i ≡ Some v → test i v ≡ true
    → Contains (each_from (λ i v. fault_if (test i v) at code v.name) 0 vs)
    (record { at = at; code = code; name = v.name })
gives_fault vs test at code i v there passes =
    gives_at (λ i v. fault_if (test i v) at code v.name) vs (record { at = at; code = code; name = v.name }) i v there
    (fault_there (test i v) at code v.name passes)

-- to a list that was empty
pub added_to_none : (before after adds : List PathFault) → before ≡ [] → after ≡ before ++ adds → after ≡ adds
added_to_none before after adds none is = is ∙ ap (λ l. l ++ adds) none

-- Classes

-- a class that is there
module _ (has : CancelClass → Bool) (vs : List Variable) (pending_groups : List ℕ) where
  pub lost_has : may_be_lost vs has pending_groups ≡ true → (k : CancelClass) × (has k ≡ true) × (is_lost vs k ≡ true)
  lost_has e =
      elim (or_cases (has opened) (has kept || found.is_left_outside vs has pending_groups) e) [
        | inl is ↦ (opened, is, refl)
        | inr more ↦
            elim (or_cases (has kept) (found.is_left_outside vs has pending_groups) more) [
              | inl is ↦ (kept, is, refl)
              | inr some ↦
                  let w = any_witness (λ g. has (pending g) && not (makes_it vs g)) pending_groups some in
                  let parts = and_parts (has (pending w.0)) (not (makes_it vs w.0)) w.2 in
                  (pending w.0, parts.0, parts.1)
            ]
      ]

  pub has_lost : ((g : ℕ) → has (pending g) ≡ true → Contains pending_groups g) → (k : CancelClass) → has k ≡ true
      → is_lost vs k ≡ true → may_be_lost vs has pending_groups ≡ true
  has_lost all unset h e = absurd (false≢true e)
  has_lost all opened h e = or_left (has opened) (has kept || found.is_left_outside vs has pending_groups) h
  has_lost all kept h e =
      or_right (has opened) (has kept || found.is_left_outside vs has pending_groups)
      (or_left (has kept) (found.is_left_outside vs has pending_groups) h)
  has_lost all safe h e = absurd (false≢true e)
  has_lost all (pending g) h e =
      or_right (has opened) (has kept || found.is_left_outside vs has pending_groups)
      (or_right (has kept) (found.is_left_outside vs has pending_groups)
      (any_holds (λ g. has (pending g) && not (makes_it vs g)) pending_groups g (all g h)
      (and_from (has (pending g)) (not (makes_it vs g)) h e)))

-- what may be unsettled
module _ (has : CancelClass → Bool) (has_group : GroupClass → Bool) (pending_groups : List ℕ) where
  pub settled_safe : ((g : ℕ) → has (pending g) ≡ true → Contains pending_groups g)
      → is_unsettled has has_group pending_groups cancel ≡ false → (k : CancelClass) → has k ≡ true → is_safe k ≡ true
  settled_safe all e unset h = absurd (true≢false (sym (or_left (has unset) _ h) ∙ e))
  settled_safe all e opened h =
      absurd (true≢false (sym (or_right (has unset) _ (or_left (has opened) _ h)) ∙ e))
  settled_safe all e kept h =
      absurd (true≢false (sym (or_right (has unset) _ (or_right (has opened) _ (or_left (has kept) _ h))) ∙ e))
  settled_safe all e safe h = refl
  settled_safe all e (pending g) h =
      absurd (true≢false (sym (or_right (has unset) _ (or_right (has opened) _ (or_right (has kept) _
      (any_holds (λ g. has (pending g)) pending_groups g (all g h) h)))) ∙ e))

  pub settled_at_rest : is_unsettled has has_group pending_groups group ≡ false → (k : GroupClass) → has_group k ≡ true
      → is_live k ≡ false
  settled_at_rest e unmade h = refl
  settled_at_rest e (in_state idle) h = refl
  settled_at_rest e (in_state live) h = absurd (true≢false (sym h ∙ e))
  settled_at_rest e awaited h = refl

  pub unsettled_class : is_unsettled has has_group pending_groups cancel ≡ true
      → (k : CancelClass) × (has k ≡ true) × (is_safe k ≡ false)
  unsettled_class e =
      elim (or_cases (has unset) _ e) [
        | inl h ↦ (unset, h, refl)
        | inr more ↦
            elim (or_cases (has opened) _ more) [
              | inl h ↦ (opened, h, refl)
              | inr rest ↦
                  elim (or_cases (has kept) _ rest) [
                    | inl h ↦ (kept, h, refl)
                    | inr some ↦ let w = any_witness (λ g. has (pending g)) pending_groups some in (pending w.0, w.2, refl)
                  ]
            ]
      ]

bound_by : {e : Event} {u : VariableAt} → BindsCancel e u → (vs : List Variable) (cancels : Cancels) (groups : Groups)
    (pgs : List ℕ) (lives : ℕ → Bool) (n at : ℕ) (f : PathFault) → Contains (binding_faults vs cancels pgs n u) f
    → Contains (event_faults vs cancels groups pgs lives n at e) f
bound_by (obtains) vs cancels groups pgs lives n at f c = c
bound_by (obtains_into) vs cancels groups pgs lives n at f c = c
bound_by (clears) vs cancels groups pgs lives n at f c = c

pub return_of : (e : Event) → is_return e ≡ true → (handed : List Handed) × (e ≡ return_event handed)
return_of (return_event handed) e = (handed, refl)
return_of other e = absurd (false≢true e)
return_of (obtain u f k d) e = absurd (false≢true e)
return_of (obtain_kept u f k x) e = absurd (false≢true e)
return_of (renew u x) e = absurd (false≢true e)
return_of (keep u x) e = absurd (false≢true e)
return_of (call_kept u x) e = absurd (false≢true e)
return_of (defer_kept u x) e = absurd (false≢true e)
return_of (give u x) e = absurd (false≢true e)
return_of (give_field u) e = absurd (false≢true e)
return_of (clear u) e = absurd (false≢true e)
return_of (call u) e = absurd (false≢true e)
return_of (defer_call u) e = absurd (false≢true e)
return_of (pass u f k) e = absurd (false≢true e)
return_of (defer_pass u f k) e = absurd (false≢true e)
return_of (lend g f k) e = absurd (false≢true e)
return_of (start g l) e = absurd (false≢true e)
return_of (try g literal) e = absurd (false≢true e)
return_of (wait g) e = absurd (false≢true e)
return_of (defer_wait g) e = absurd (false≢true e)
return_of (make u s) e = absurd (false≢true e)
return_of (defer_literal l) e = absurd (false≢true e)
return_of (go work) e = absurd (false≢true e)

module _ (b : Paths) (cancels : Cancels) (groups : Groups) (pending_groups : List ℕ)
    (tells : Classifies b.code b.promises b.variables cancels groups)
    (all : (i n g : ℕ) → cancels i n (pending g) ≡ true → Contains pending_groups g) where
  abbrev vs : List Variable
  vs = b.variables

  abbrev os : List (Occurrence Event)
  os = nodes b.code

  abbrev lives : ℕ → ℕ → ℕ → Bool
  lives = is_live_there vs groups os

  -- Groups that are live

  record LiveBefore (g : Variable) (o : Occurrence Event) : Type 0 where
    before : List (Occurrence Event)
    reaches : Reaches b.code before o
    leaves : LeavesLive b g before

  live_before : (n : ℕ) (o : Occurrence Event) → slice_get os n ≡ Some o → (i : ℕ) (g : Variable)
      → slice_get vs i ≡ Some g → is_live_group g (groups i n) ≡ true → LiveBefore g o
  live_before n o here i g there e =
      let parts = and_parts (is_group (Some g.kind)) (groups i n (in_state live)) e in
      let kind = group_kind g.kind parts.0 in
      let it = (tells.of_group i g there kind).found n o (in_state live) here parts.1 in
      record {
        before = it.before;
        reaches = it.reaches;
        leaves = record { is_of_body = contains_at vs i g there; is_group_variable = kind; is_live = it.is_class };
      }

  record LiveAtNode (g : Variable) (o : Occurrence Event) : Type 0 where
    node : ℕ
    place : ℕ
    is_node : slice_get os node ≡ Some o
    is_there : slice_get vs place ≡ Some g
    is_live : is_live_group g (groups place node) ≡ true

  live_at_node : (g : Variable) (t : List (Occurrence Event)) (o : Occurrence Event) → Reaches b.code t o
      → LeavesLive b g t → LiveAtNode g o
  live_at_node g t o reaches leaves =
      let at = place_of vs g leaves.is_of_body in
      let it = (tells.of_group at.0 g at.1 leaves.is_group_variable).kept t o reaches in
      record {
        node = it.node;
        place = at.0;
        is_node = it.is_node;
        is_there = at.1;
        is_live =
            and_from (is_group (Some g.kind)) (groups at.0 it.node (in_state live))
            (is_group_kind g.kind leaves.is_group_variable)
            (sym (ap (groups at.0 it.node) leaves.is_live) ∙ it.is_marked);
      }

  -- Left to a live group

  same_place_parts : (at order i other_at other_order j : ℕ) → is_same_place at order i other_at other_order j ≡ true
      → (at ≡ other_at) × (order ≡ other_order) × (i ≡ j)
  same_place_parts at order i other_at other_order j e =
      let parts = and_parts (at == other_at) ((order == other_order) && (i == j)) e in
      let inner = and_parts (order == other_order) (i == j) parts.1 in
      (same_number at other_at parts.0, same_number order other_order inner.0, same_number i j inner.1)

  same_place_from : (at order i other_at other_order j : ℕ) → at ≡ other_at → order ≡ other_order → i ≡ j
      → is_same_place at order i other_at other_order j ≡ true
  same_place_from at order i other_at other_order j p q r =
      and_from (at == other_at) ((order == other_order) && (i == j)) (is_same at other_at p)
      (and_from (order == other_order) (i == j) (is_same order other_order q) (is_same i j r))

  -- some node there, and the group of the place
  record LiveThere (at order : ℕ) (g : Variable) : Type 0 where
    there : Occurrence Event
    same_offset : there.at ≡ at
    same_order : there.order ≡ order
    is_live : LiveBefore g there

  live_there : (at order j : ℕ) (g : Variable) → slice_get vs j ≡ Some g → lives at order j ≡ true
      → LiveThere at order g
  live_there at order j g there e =
      let m = passes_at (λ n o. is_live_at vs groups n o.at o.order at order j) os e in
      let o = m.element in
      let w = passes_at
      (λ i h. is_live_group h (groups i m.place) && is_same_place o.at o.order i at order j) vs m.passes in
      let parts = and_parts (is_live_group w.element (groups w.place m.place))
      (is_same_place o.at o.order w.place at order j) w.passes in
      let same = same_place_parts o.at o.order w.place at order j parts.1 in
      let is_g : w.element ≡ g =
      same_Some w.element g (sym w.is_there ∙ ap (slice_get vs) same.2 ∙ there) in
      record {
        there = o;
        same_offset = same.0;
        same_order = same.1;
        is_live =
            subst (λ h. LiveBefore h o) is_g (live_before m.place o m.is_there w.place w.element w.is_there parts.0);
      }

  live_from : (g : Variable) (t : List (Occurrence Event)) (o : Occurrence Event) → Reaches b.code t o
      → LeavesLive b g t → (at order : ℕ) → o.at ≡ at → o.order ≡ order
      → (j : ℕ) × (slice_get vs j ≡ Some g) × (lives at order j ≡ true)
  live_from g t o reaches leaves at order same_at same_order =
      let it = live_at_node g t o reaches leaves in (
        it.place,
        it.is_there,
        any_at (λ n o. is_live_at vs groups n o.at o.order at order it.place) os it.node o it.is_node
            (any_at (λ i h. is_live_group h (groups i it.node) && is_same_place o.at o.order i at order it.place) vs it.place g
            it.is_there
            (and_from (is_live_group g (groups it.place it.node)) (is_same_place o.at o.order it.place at order it.place)
            it.is_live (same_place_from o.at o.order it.place at order it.place same_at same_order refl))),
      )

  -- the cancel variable is left to a live group after a list that comes there
  record LeftBefore (v : Variable) (o : Occurrence Event) : Type 0 where
    before : List (Occurrence Event)
    reaches : Reaches b.code before o
    is_left : IsLeft b v before o

  left_before : (n : ℕ) (o : Occurrence Event) → slice_get os n ≡ Some o → (i : ℕ) (v : Variable)
      → slice_get vs i ≡ Some v → v.kind ≡ cancel → is_left_to vs (cancels i n) (lives o.at o.order) ≡ true
      → LeftBefore v o
  left_before n o here i v there kind e =
      let w = passes_at
      (λ j g. is_group (Some g.kind) && (cancels i n (pending g.number) && lives o.at o.order j)) vs e in
      let g = w.element in
      let parts = and_parts (is_group (Some g.kind)) (cancels i n (pending g.number) && lives o.at o.order w.place)
      w.passes in
      let inner = and_parts (cancels i n (pending g.number)) (lives o.at o.order w.place) parts.1 in
      let it = (tells.of_cancel i v there kind).found n o (pending g.number) here inner.0 in
      let at = live_there o.at o.order w.place g w.is_there inner.1 in
      record {
        before = it.before;
        reaches = it.reaches;
        is_left = record {
          left_to = g;
          other_list = at.is_live.before;
          there = at.there;
          is_pending = it.is_class;
          reaches = at.is_live.reaches;
          same_offset = at.same_offset;
          same_order = at.same_order;
          is_live = at.is_live.leaves;
        };
      }

  left_at_node : (i : ℕ) (v : Variable) → slice_get vs i ≡ Some v → v.kind ≡ cancel → (t : List (Occurrence Event))
      (o : Occurrence Event) → Reaches b.code t o → IsLeft b v t o
      → (n : ℕ) × (slice_get os n ≡ Some o) × (is_left_to vs (cancels i n) (lives o.at o.order) ≡ true)
  left_at_node i v there kind t o reaches left =
      let it = (tells.of_cancel i v there kind).kept t o reaches in
      let g = left.left_to in
      let at = live_from g left.other_list left.there left.reaches left.is_live o.at o.order left.same_offset
      left.same_order in (
        it.node,
        it.is_node,
        any_at (λ j g. is_group (Some g.kind) && (cancels i it.node (pending g.number) && lives o.at o.order j)) vs at.0 g
            at.1
            (and_from (is_group (Some g.kind)) (cancels i it.node (pending g.number) && lives o.at o.order at.0)
            (is_group_kind g.kind left.is_live.is_group_variable)
            (and_from (cancels i it.node (pending g.number)) (lives o.at o.order at.0)
            (sym (ap (cancels i it.node) left.is_pending) ∙ it.is_marked) at.2)),
      )

  open_at_node : (i : ℕ) (v : Variable) → slice_get vs i ≡ Some v → v.kind ≡ cancel → (t : List (Occurrence Event))
      (o : Occurrence Event) → Reaches b.code t o → (k : CancelClass) → cancel_class b v t ≡ k
      → (n : ℕ) × (slice_get os n ≡ Some o) × (cancels i n k ≡ true)
  open_at_node i v there kind t o reaches k is =
      let it = (tells.of_cancel i v there kind).kept t o reaches in
      (it.node, it.is_node, sym (ap (cancels i it.node) is) ∙ it.is_marked)

  -- what the cancel variable holds is lost after a list that comes there
  record LostBefore (v : Variable) (o : Occurrence Event) : Type 0 where
    before : List (Occurrence Event)
    reaches : Reaches b.code before o
    is_lost : is_lost vs (cancel_class b v before) ≡ true

  lost_before : (n : ℕ) (o : Occurrence Event) → slice_get os n ≡ Some o → (i : ℕ) (v : Variable)
      → slice_get vs i ≡ Some v → v.kind ≡ cancel → may_be_lost vs (cancels i n) pending_groups ≡ true → LostBefore v o
  lost_before n o here i v there kind e =
      let class = lost_has (cancels i n) vs pending_groups e in by class.0 class.1 class.2
    where
      by : (k : CancelClass) → cancels i n k ≡ true → is_lost vs k ≡ true → LostBefore v o
      by k has lost =
          let it = (tells.of_cancel i v there kind).found n o k here has in
          record { before = it.before; reaches = it.reaches; is_lost = ap (is_lost vs) it.is_class ∙ lost }

  -- Found faults are faults

  binding_found : (n : ℕ) (o : Occurrence Event) → slice_get os n ≡ Some o → (u : VariableAt) → BindsCancel o.event u
      → (f : PathFault) → Contains (binding_faults vs cancels pending_groups n u) f → IsPathFault b f
  binding_found n o here u binds f h =
      let w = fault_at vs (found.loses_cancel vs cancels pending_groups n u.number) u.at overwritten f h in
      let v = w.variable in
      let parts = and_parts (is_cancel (Some v.kind))
      ((v.number == u.number) && may_be_lost vs (cancels w.place n) pending_groups) w.passes in
      let inner = and_parts (v.number == u.number) (may_be_lost vs (cancels w.place n) pending_groups) parts.1 in
      let kind = cancel_kind v.kind parts.0 in
      let it = lost_before n o here w.place v w.is_there kind inner.1 in
      subst (IsPathFault b) w.is_it
      (loses_cancel v u it.before o (contains_at vs w.place v w.is_there) kind it.reaches binds
      (sym (same_number v.number u.number inner.0)) it.is_lost)

  making_found : (n : ℕ) (o : Occurrence Event) → slice_get os n ≡ Some o → (u : VariableAt) (s : _)
      → o.event ≡ make u s → (f : PathFault) → Contains (making_faults vs groups n u) f → IsPathFault b f
  making_found n o here u s makes f h =
      let w = fault_at vs (found.loses_group groups n u.number) u.at group_overwritten f h in
      let g = w.variable in
      let parts = and_parts (g.number == u.number) (is_live_group g (groups w.place n)) w.passes in
      let it = live_before n o here w.place g w.is_there parts.1 in
      subst (IsPathFault b) w.is_it
      (loses_group g u s it.before o it.reaches makes (sym (same_number g.number u.number parts.0)) it.leaves)

  owed_parts : (v : Variable) (handed : List Handed) → Contains vs v → owes_call v handed ≡ true → OwesCall b v handed
  owed_parts v handed there e =
      let parts = and_parts (is_cancel (Some v.kind)) (is_declared v.role && not (is_handed v.number handed)) e in
      let inner = and_parts (is_declared v.role) (not (is_handed v.number handed)) parts.1 in
      record {
        is_of_body = there;
        is_cancel_variable = cancel_kind v.kind parts.0;
        is_declared_here = inner.0;
        is_kept = not-true (is_handed v.number handed) inner.1;
      }

  is_owed : (v : Variable) (handed : List Handed) → OwesCall b v handed → owes_call v handed ≡ true
  is_owed v handed o =
      and_from (is_cancel (Some v.kind)) (is_declared v.role && not (is_handed v.number handed))
      (is_cancel_kind v.kind o.is_cancel_variable)
      (and_from (is_declared v.role) (not (is_handed v.number handed)) o.is_declared_here
      (not_from_false (is_handed v.number handed) o.is_kept))

  abbrev kept_test : ℕ → ℕ → Variable → List Handed → Bool
  kept_test i n v handed = cancels i n kept && not (is_handed_kept v.number handed)

  open_found : (n : ℕ) (o : Occurrence Event) → slice_get os n ≡ Some o → (handed : List Handed)
      → o.event ≡ return_event handed → (f : PathFault) → Contains (open_faults vs cancels n o.at handed) f
      → IsPathFault b f
  open_found n o here handed returns f h =
      let w = fault_at vs (found.returns_open cancels n handed) o.at not_called f h in
      let v = w.variable in
      let parts = and_parts (owes_call v handed) (is_open_there v.number handed (cancels w.place n)) w.passes in
      let owes = owed_parts v handed (contains_at vs w.place v w.is_there) parts.0 in
      subst (IsPathFault b) w.is_it
      (elim (or_cases (cancels w.place n opened) (kept_test w.place n v handed) parts.1) [
        | inl is ↦
            let it = (tells.of_cancel w.place v w.is_there owes.is_cancel_variable).found n o opened here is in
            returns_open v handed it.before o (record { reaches = it.reaches; is_return = returns }) owes it.is_class
        | inr held ↦
            let both = and_parts (cancels w.place n kept) (not (is_handed_kept v.number handed)) held in
            let it = (tells.of_cancel w.place v w.is_there owes.is_cancel_variable).found n o kept here both.0 in
            returns_kept v handed it.before o (record { reaches = it.reaches; is_return = returns }) owes it.is_class
            (not-true (is_handed_kept v.number handed) both.1)
      ])

  left_found : (n : ℕ) (o : Occurrence Event) → slice_get os n ≡ Some o → (handed : List Handed)
      → o.event ≡ return_event handed → (f : PathFault)
      → Contains (left_faults vs cancels (lives o.at o.order) n o.at handed) f → IsPathFault b f
  left_found n o here handed returns f h =
      let w = fault_at vs (found.returns_left vs cancels (lives o.at o.order) n handed) o.at left_to_live_group f h in
      let v = w.variable in
      let parts = and_parts (owes_call v handed) (is_left_to vs (cancels w.place n) (lives o.at o.order)) w.passes in
      let owes = owed_parts v handed (contains_at vs w.place v w.is_there) parts.0 in
      let it = left_before n o here w.place v w.is_there owes.is_cancel_variable parts.1 in
      subst (IsPathFault b) w.is_it
      (returns_pending v handed it.before o (record { reaches = it.reaches; is_return = returns }) owes it.is_left)

  live_found : (n : ℕ) (o : Occurrence Event) → slice_get os n ≡ Some o → (handed : List Handed)
      → o.event ≡ return_event handed → (f : PathFault) → Contains (live_faults vs groups n o.at) f → IsPathFault b f
  live_found n o here handed returns f h =
      let w = fault_at vs (found.returns_live groups n) o.at group_is_live f h in
      let g = w.variable in
      let parts = and_parts (is_declared g.role) (is_live_group g (groups w.place n)) w.passes in
      let it = live_before n o here w.place g w.is_there parts.1 in
      subst (IsPathFault b) w.is_it
      (returns_live g handed it.before o (record { reaches = it.reaches; is_return = returns }) parts.0 it.leaves)

  return_found : (n : ℕ) (o : Occurrence Event) → slice_get os n ≡ Some o → (handed : List Handed)
      → o.event ≡ return_event handed → (f : PathFault)
      → Contains (return_faults vs cancels groups (lives o.at o.order) n o.at handed) f → IsPathFault b f
  return_found n o here handed returns f h =
      elim (Contains-append_cases (open_faults vs cancels n o.at handed)
      (left_faults vs cancels (lives o.at o.order) n o.at handed ++ live_faults vs groups n o.at) f h) [
        | inl is ↦ open_found n o here handed returns f is
        | inr is ↦
            elim (Contains-append_cases (left_faults vs cancels (lives o.at o.order) n o.at handed)
            (live_faults vs groups n o.at) f is) [
              | inl left ↦ left_found n o here handed returns f left
              | inr its ↦ live_found n o here handed returns f its
            ]
      ]

  node_found : (n : ℕ) (o : Occurrence Event) → slice_get os n ≡ Some o → (f : PathFault) (e : Event) → o.event ≡ e
      → Contains (event_faults vs cancels groups pending_groups (lives o.at o.order) n o.at e) f → IsPathFault b f
  node_found n o here f (obtain u c k d) is h =
      binding_found n o here u (subst (λ x. BindsCancel x u) (sym is) (obtains)) f h
  node_found n o here f (obtain_kept u c k x) is h =
      binding_found n o here u (subst (λ x. BindsCancel x u) (sym is) (obtains_into)) f h
  node_found n o here f (clear u) is h =
      binding_found n o here u (subst (λ x. BindsCancel x u) (sym is) (clears)) f h
  node_found n o here f (make u s) is h = making_found n o here u s is f h
  node_found n o here f (return_event handed) is h = return_found n o here handed is f h
  node_found n o here f other is h = absurd (contains_nil f h)
  node_found n o here f (renew u x) is h = absurd (contains_nil f h)
  node_found n o here f (keep u x) is h = absurd (contains_nil f h)
  node_found n o here f (call_kept u x) is h = absurd (contains_nil f h)
  node_found n o here f (defer_kept u x) is h = absurd (contains_nil f h)
  node_found n o here f (give u x) is h = absurd (contains_nil f h)
  node_found n o here f (give_field u) is h = absurd (contains_nil f h)
  node_found n o here f (call u) is h = absurd (contains_nil f h)
  node_found n o here f (defer_call u) is h = absurd (contains_nil f h)
  node_found n o here f (pass u c k) is h = absurd (contains_nil f h)
  node_found n o here f (defer_pass u c k) is h = absurd (contains_nil f h)
  node_found n o here f (lend g c k) is h = absurd (contains_nil f h)
  node_found n o here f (start g l) is h = absurd (contains_nil f h)
  node_found n o here f (try g literal) is h = absurd (contains_nil f h)
  node_found n o here f (wait g) is h = absurd (contains_nil f h)
  node_found n o here f (defer_wait g) is h = absurd (contains_nil f h)
  node_found n o here f (defer_literal l) is h = absurd (contains_nil f h)
  node_found n o here f (go work) is h = absurd (contains_nil f h)

  abbrev all_faults : List PathFault
  all_faults = faults_of_nodes vs cancels groups pending_groups lives os

  pub found_is : (f : PathFault) → Contains all_faults f → IsPathFault b f
  found_is f h =
      let w = given_at
      (λ n o. event_faults vs cancels groups pending_groups (lives o.at o.order) n o.at o.event) os f h in
      node_found w.place w.element w.is_there f w.element.event refl w.gives

  -- Faults are found

  at_node : (n : ℕ) (o : Occurrence Event) → slice_get os n ≡ Some o → (f : PathFault)
      → Contains (event_faults vs cancels groups pending_groups (lives o.at o.order) n o.at o.event) f
      → Contains all_faults f
  at_node n o here f h =
      gives_at (λ n o. event_faults vs cancels groups pending_groups (lives o.at o.order) n o.at o.event) os f n o here h

  at_return : (n : ℕ) (o : Occurrence Event) → slice_get os n ≡ Some o → (handed : List Handed)
      → o.event ≡ return_event handed → (f : PathFault)
      → Contains (return_faults vs cancels groups (lives o.at o.order) n o.at handed) f → Contains all_faults f
  at_return n o here handed returns f h =
      at_node n o here f
      (subst (λ e. Contains (event_faults vs cancels groups pending_groups (lives o.at o.order) n o.at e) f) (sym returns)
      h)

  pub is_found : (f : PathFault) → IsPathFault b f → Contains all_faults f
  is_found _ (loses_cancel v u t o there kind reaches binds same lost) =
      let at = place_of vs v there in
      let it = (tells.of_cancel at.0 v at.1 kind).kept t o reaches in
      at_node it.node o it.is_node _
      (bound_by binds vs cancels groups pending_groups (lives o.at o.order) it.node o.at _
      (gives_fault vs (found.loses_cancel vs cancels pending_groups it.node u.number) u.at overwritten at.0 v at.1
      (and_from (is_cancel (Some v.kind))
      ((v.number == u.number) && may_be_lost vs (cancels at.0 it.node) pending_groups) (is_cancel_kind v.kind kind)
      (and_from (v.number == u.number) (may_be_lost vs (cancels at.0 it.node) pending_groups)
      (is_same v.number u.number (sym same))
      (has_lost (cancels at.0 it.node) vs pending_groups (all at.0 it.node) (cancel_class b v t) it.is_marked lost)))))
  is_found _ (loses_group g u s t o reaches makes same leaves) =
      let it = live_at_node g t o reaches leaves in
      at_node it.node o it.is_node _
      (subst
      (λ e. Contains (event_faults vs cancels groups pending_groups (lives o.at o.order) it.node o.at e)
      (record { at = u.at; code = group_overwritten; name = g.name })) (sym makes)
      (gives_fault vs (found.loses_group groups it.node u.number) u.at group_overwritten it.place g it.is_there
      (and_from (g.number == u.number) (is_live_group g (groups it.place it.node))
      (is_same g.number u.number (sym same)) it.is_live)))
  is_found _ (returns_live g handed t o comes declared leaves) =
      let it = live_at_node g t o comes.reaches leaves in
      at_return it.node o it.is_node handed comes.is_return _
      (Contains-append_right (open_faults vs cancels it.node o.at handed) _ _
      (Contains-append_right (left_faults vs cancels (lives o.at o.order) it.node o.at handed) _ _
      (gives_fault vs (found.returns_live groups it.node) o.at group_is_live it.place g it.is_there
      (and_from (is_declared g.role) (is_live_group g (groups it.place it.node)) declared it.is_live))))
  is_found _ (returns_open v handed t o comes owes is) =
      let at = place_of vs v owes.is_of_body in
      let it = open_at_node at.0 v at.1 owes.is_cancel_variable t o comes.reaches opened is in
      at_return it.0 o it.1 handed comes.is_return _
      (Contains-append_left (open_faults vs cancels it.0 o.at handed) _ _
      (gives_fault vs (found.returns_open cancels it.0 handed) o.at not_called at.0 v at.1
      (and_from (owes_call v handed) (is_open_there v.number handed (cancels at.0 it.0)) (is_owed v handed owes)
      (or_left (cancels at.0 it.0 opened) (kept_test at.0 it.0 v handed) it.2))))
  is_found _ (returns_kept v handed t o comes owes is not_handed) =
      let at = place_of vs v owes.is_of_body in
      let it = open_at_node at.0 v at.1 owes.is_cancel_variable t o comes.reaches kept is in
      at_return it.0 o it.1 handed comes.is_return _
      (Contains-append_left (open_faults vs cancels it.0 o.at handed) _ _
      (gives_fault vs (found.returns_open cancels it.0 handed) o.at not_called at.0 v at.1
      (and_from (owes_call v handed) (is_open_there v.number handed (cancels at.0 it.0)) (is_owed v handed owes)
      (or_right (cancels at.0 it.0 opened) (kept_test at.0 it.0 v handed)
      (and_from (cancels at.0 it.0 kept) (not (is_handed_kept v.number handed)) it.2
      (not_from_false (is_handed_kept v.number handed) not_handed))))))
  is_found _ (returns_pending v handed t o comes owes left) =
      let at = place_of vs v owes.is_of_body in
      let it = left_at_node at.0 v at.1 owes.is_cancel_variable t o comes.reaches left in
      at_return it.0 o it.1 handed comes.is_return _
      (Contains-append_right (open_faults vs cancels it.0 o.at handed) _ _
      (Contains-append_left (left_faults vs cancels (lives o.at o.order) it.0 o.at handed) _ _
      (gives_fault vs (found.returns_left vs cancels (lives o.at o.order) it.0 handed) o.at left_to_live_group at.0 v at.1
      (and_from (owes_call v handed) (is_left_to vs (cancels at.0 it.0) (lives o.at o.order)) (is_owed v handed owes)
      it.2))))

  -- Calls at returns

  abbrev kept_or_left : ℕ → ℕ → Occurrence Event → Bool
  kept_or_left i n o = cancels i n kept || is_left_to vs (cancels i n) (lives o.at o.order)

  pub keeps : (i : ℕ) (v : Variable) → slice_get vs i ≡ Some v → v.kind ≡ cancel
      → IsTrue (not (breaks_call vs cancels lives os i)) ↔ KeepsCall b v
  keeps i v there kind = (λ e. unbroken (not-true (breaks_call vs cancels lives os i) e), called)
    where
      breaks : (n : ℕ) (o : Occurrence Event) (handed : List Handed) → slice_get os n ≡ Some o
          → o.event ≡ return_event handed → is_uncalled vs (cancels i n) (lives o.at o.order) ≡ true
          → breaks_call vs cancels lives os i ≡ true
      breaks n o handed here returns e =
          any_at (λ n o. is_return o.event && is_uncalled vs (cancels i n) (lives o.at o.order)) os n o here
          (and_from (is_return o.event) (is_uncalled vs (cancels i n) (lives o.at o.order)) (ap is_return returns) e)

      unbroken : breaks_call vs cancels lives os i ≡ false → KeepsCall b v
      unbroken e = record {
        never_open = λ handed t o comes is.
            let it = open_at_node i v there kind t o comes.reaches opened is in
            true≢false (sym (breaks it.0 o handed it.1 comes.is_return
            (or_left (cancels i it.0 opened) (kept_or_left i it.0 o) it.2)) ∙ e);
        never_kept = λ handed t o comes is.
            let it = open_at_node i v there kind t o comes.reaches kept is in
            true≢false (sym (breaks it.0 o handed it.1 comes.is_return
            (or_right (cancels i it.0 opened) (kept_or_left i it.0 o)
            (or_left (cancels i it.0 kept) (is_left_to vs (cancels i it.0) (lives o.at o.order)) it.2))) ∙ e);
        never_left = λ handed t o comes left.
            let it = left_at_node i v there kind t o comes.reaches left in
            true≢false (sym (breaks it.0 o handed it.1 comes.is_return
            (or_right (cancels i it.0 opened) (kept_or_left i it.0 o)
            (or_right (cancels i it.0 kept) (is_left_to vs (cancels i it.0) (lives o.at o.order)) it.2))) ∙ e);
      }

      uncalled : KeepsCall b v → breaks_call vs cancels lives os i ≡ true → ⊥
      uncalled keeps e =
          let w = passes_at (λ n o. is_return o.event && is_uncalled vs (cancels i n) (lives o.at o.order)) os e in
          let o = w.element in
          let parts = and_parts (is_return o.event) (is_uncalled vs (cancels i w.place) (lives o.at o.order)) w.passes in
          let returns = return_of o.event parts.0 in
          elim (or_cases (cancels i w.place opened) (kept_or_left i w.place o) parts.1) [
            | inl is ↦
                let it = (tells.of_cancel i v there kind).found w.place o opened w.is_there is in
                keeps.never_open returns.0 it.before o (record { reaches = it.reaches; is_return = returns.1 }) it.is_class
            | inr more ↦
                elim (or_cases (cancels i w.place kept) (is_left_to vs (cancels i w.place) (lives o.at o.order)) more) [
                  | inl is ↦
                      let it = (tells.of_cancel i v there kind).found w.place o kept w.is_there is in
                      keeps.never_kept returns.0 it.before o (record { reaches = it.reaches; is_return = returns.1 })
                      it.is_class
                  | inr left ↦
                      let it = left_before w.place o w.is_there i v there kind left in
                      keeps.never_left returns.0 it.before o (record { reaches = it.reaches; is_return = returns.1 })
                      it.is_left
                ]
          ]

      called : KeepsCall b v → IsTrue (not (breaks_call vs cancels lives os i))
      called keeps =
          not_from_false (breaks_call vs cancels lives os i)
          (false_from_ne_true (breaks_call vs cancels lives os i) (uncalled keeps))

  -- Settled at returns

  pub settled : (i : ℕ) (v : Variable) → slice_get vs i ≡ Some v
      → IsTrue (not (breaks_settling cancels groups pending_groups os i v.kind)) ↔ Settles b v
  settled i v there = (λ e. settles (not-true (breaks_settling cancels groups pending_groups os i v.kind) e), not_broken)
    where
      breaks : (n : ℕ) (o : Occurrence Event) (handed : List Handed) → slice_get os n ≡ Some o
          → o.event ≡ return_event handed → is_unsettled (cancels i n) (groups i n) pending_groups v.kind ≡ true
          → breaks_settling cancels groups pending_groups os i v.kind ≡ true
      breaks n o handed here returns e =
          any_at (λ n o. is_return o.event && is_unsettled (cancels i n) (groups i n) pending_groups v.kind) os n o here
          (and_from (is_return o.event) (is_unsettled (cancels i n) (groups i n) pending_groups v.kind)
          (ap is_return returns) e)

      not_broken_at : (n : ℕ) (o : Occurrence Event) (handed : List Handed) → slice_get os n ≡ Some o
          → o.event ≡ return_event handed → breaks_settling cancels groups pending_groups os i v.kind ≡ false
          → is_unsettled (cancels i n) (groups i n) pending_groups v.kind ≡ false
      not_broken_at n o handed here returns e =
          false_from_ne_true (is_unsettled (cancels i n) (groups i n) pending_groups v.kind)
          (λ h. true≢false (sym (breaks n o handed here returns h) ∙ e))

      at_return_by : (t : List (Occurrence Event)) (o : Occurrence Event) (handed : List Handed)
          → ComesToReturn b t o handed → breaks_settling cancels groups pending_groups os i v.kind ≡ false
          → (k : VariableKind) → v.kind ≡ k → is_settled b v t k ≡ true
      at_return_by t o handed comes e cancel kind =
          let it = (tells.of_cancel i v there kind).kept t o comes.reaches in
          settled_safe (cancels i it.node) (groups i it.node) pending_groups (all i it.node)
          (sym (ap (λ k. is_unsettled (cancels i it.node) (groups i it.node) pending_groups k) kind)
          ∙ not_broken_at it.node o handed it.is_node comes.is_return e) (cancel_class b v t) it.is_marked
      at_return_by t o handed comes e group kind =
          let it = (tells.of_group i v there kind).kept t o comes.reaches in
          ap not (settled_at_rest (cancels i it.node) (groups i it.node) pending_groups
          (sym (ap (λ k. is_unsettled (cancels i it.node) (groups i it.node) pending_groups k) kind)
          ∙ not_broken_at it.node o handed it.is_node comes.is_return e) (group_class b v t) it.is_marked)

      settles : breaks_settling cancels groups pending_groups os i v.kind ≡ false → Settles b v
      settles e = record { at_returns = λ handed t o comes. at_return_by t o handed comes e v.kind refl }

      -- back

      broken_by : (n : ℕ) (o : Occurrence Event) (handed : List Handed) → slice_get os n ≡ Some o
          → o.event ≡ return_event handed → Settles b v → (k : VariableKind) → v.kind ≡ k
          → is_unsettled (cancels i n) (groups i n) pending_groups k ≡ true → ⊥
      broken_by n o handed here returns settles cancel kind e =
          let class = unsettled_class (cancels i n) (groups i n) pending_groups e in
          let it = (tells.of_cancel i v there kind).found n o class.0 here class.1 in
          let safe_there : is_settled b v it.before cancel ≡ true =
          sym (ap (is_settled b v it.before) kind)
          ∙ settles.at_returns handed it.before o (record { reaches = it.reaches; is_return = returns }) in
          true≢false (sym safe_there ∙ ap is_safe it.is_class ∙ class.2)
      broken_by n o handed here returns settles group kind e =
          let it = (tells.of_group i v there kind).found n o (in_state live) here e in
          let rests : is_settled b v it.before group ≡ true =
          sym (ap (is_settled b v it.before) kind)
          ∙ settles.at_returns handed it.before o (record { reaches = it.reaches; is_return = returns }) in
          true≢false (sym rests ∙ ap (λ k. not (is_live k)) it.is_class)

      not_broken : Settles b v → IsTrue (not (breaks_settling cancels groups pending_groups os i v.kind))
      not_broken settles =
          not_from_false (breaks_settling cancels groups pending_groups os i v.kind)
          (false_from_ne_true (breaks_settling cancels groups pending_groups os i v.kind) λ e.
          let w = passes_at
          (λ n o. is_return o.event && is_unsettled (cancels i n) (groups i n) pending_groups v.kind) os e in
          let parts = and_parts (is_return w.element.event)
          (is_unsettled (cancels i w.place) (groups i w.place) pending_groups v.kind) w.passes in
          let returns = return_of w.element.event parts.0 in
          broken_by w.place w.element returns.0 w.is_there returns.1 settles v.kind refl parts.1)

-- What the program keeps

-- the same nodes and variables, and a test that agrees with what the table tells of live groups
module _ (vs : List Variable) (cancels : Cancels) (groups : Groups) (pending_groups : List ℕ)
    (all : (i n g : ℕ) → cancels i n (pending g) ≡ true → Contains pending_groups g)
    (os : List (Occurrence Event)) where
  abbrev AgreesOnLive : (ℕ → ℕ → ℕ → Bool) → Type 0
  AgreesOnLive lives = (at order j : ℕ) → lives at order j ≡ is_live_there vs groups os at order j

  pub faults_are : (lives : ℕ → ℕ → ℕ → Bool) → AgreesOnLive lives → (faults : List PathFault)
      → faults ≡ faults_of_nodes vs cancels groups pending_groups lives os
      → (b : Paths) → os ≡ nodes b.code → b.variables ≡ vs → Classifies b.code b.promises b.variables cancels groups
      → (f : PathFault) → Contains faults f ↔ IsPathFault b f
  faults_are lives agrees faults is b same_nodes same_variables tells f = (
    λ h. found_is b cancels groups pending_groups tells all f (subst (λ l. Contains l f) same h),
    λ h. subst (λ l. Contains l f) (sym same) (is_found b cancels groups pending_groups tells all f h),
  )
    where
      same : faults
          ≡ faults_of_nodes b.variables cancels groups pending_groups (is_live_there b.variables groups (nodes b.code))
          (nodes b.code)
      same =
          is
          ∙ (λ i. faults_of_nodes vs cancels groups pending_groups (λ at order j. agrees at order j i) os)
          ∙ ap (λ xs. faults_of_nodes xs cancels groups pending_groups (is_live_there xs groups os) os)
          (sym same_variables)
          ∙ ap (λ ns. faults_of_nodes b.variables cancels groups pending_groups (is_live_there b.variables groups ns) ns)
          same_nodes

  pub keeps_are : (lives : ℕ → ℕ → ℕ → Bool) → AgreesOnLive lives → (i : ℕ) (breaks : Bool)
      → breaks ≡ breaks_call vs cancels lives os i
      → (b : Paths) → os ≡ nodes b.code → b.variables ≡ vs → Classifies b.code b.promises b.variables cancels groups
      → (v : Variable) → slice_get b.variables i ≡ Some v → v.kind ≡ cancel → IsTrue (not breaks) ↔ KeepsCall b v
  keeps_are lives agrees i breaks is b same_nodes same_variables tells v there kind =
      subst (λ t. IsTrue (not t) ↔ KeepsCall b v) (sym same) (keeps b cancels groups pending_groups tells all i v there kind)
    where
      same : breaks
          ≡ breaks_call b.variables cancels (is_live_there b.variables groups (nodes b.code)) (nodes b.code) i
      same =
          is
          ∙ (λ k. breaks_call vs cancels (λ at order j. agrees at order j k) os i)
          ∙ ap (λ xs. breaks_call xs cancels (is_live_there xs groups os) os i) (sym same_variables)
          ∙ ap (λ ns. breaks_call b.variables cancels (is_live_there b.variables groups ns) ns i) same_nodes

  pub settles_are : (i : ℕ) (breaks : Bool) (kind : VariableKind)
      → breaks ≡ breaks_settling cancels groups pending_groups os i kind
      → (b : Paths) → os ≡ nodes b.code → Classifies b.code b.promises b.variables cancels groups
      → (v : Variable) → slice_get b.variables i ≡ Some v → v.kind ≡ kind → IsTrue (not breaks) ↔ Settles b v
  settles_are i breaks kind is b same_nodes tells v there same_kind =
      subst (λ t. IsTrue (not t) ↔ Settles b v) (sym same) (settled b cancels groups pending_groups tells all i v there)
    where
      same : breaks ≡ breaks_settling cancels groups pending_groups (nodes b.code) i v.kind
      same =
          is ∙ ap (λ k. breaks_settling cancels groups pending_groups os i k) (sym same_kind)
          ∙ ap (λ ns. breaks_settling cancels groups pending_groups ns i v.kind) same_nodes
