-- The test of a class at an occurrence is that what a list leaves of the variable is the fault there.
use Rattle.std.proofs.Common.{◌≡◌, ◌==◌, ℕ, Bool, true, not, ◌&&◌, List, Option, Some, Contains, refl, sym, ap, ◌∙◌, subst}
use Rattle.std.proofs.lemmas.Bool.{false≢true, and_parts, and_from, not-true}
use Rattle.std.proofs.lemmas.Slice.Eq.{bytes_eq-Decides}
use Rattle.std.specs.Prelude.{slice_get, option_and_then}
use Rattle.std.specs.Str.{bytes_eq}
use Rattle.bodies.specs.Bits.{cancel_class as class_of_cancel, group_class as class_of_group}
use Rattle.flow.specs.GraphOfCode.{nodes}
use Rattle.flow.specs.declared.order.NodePlace.{NodePlace}
use Rattle.meaning.specs.BodyEvents.{Variable}
use Rattle.meaning.specs.Classes.{CancelClass, unset, opened, kept, safe, pending, GroupClass, unmade, in_state, awaited}
use Rattle.meaning.specs.Code.{Occurrence}
use Rattle.meaning.specs.FunctionFacts.{VariableKind, cancel, group}
use Rattle.meaning.specs.Tracked.{GroupState, live, idle}
use Rattle.meaning.specs.Uses.{VariableAt, Handed, Event, other, obtain, obtain_kept, renew, keep, call_kept, defer_kept, give, give_field, clear, call, defer_call, pass, defer_pass, lend, start, try, wait, defer_wait, make, defer_literal, go, return_event, is_cancel, is_group}
use Rattle.meaning_packages.specs.Credits.{is_live}
use Rattle.meaning_packages.specs.PathFaults.{PathCode, overwritten, not_called, group_is_live, group_overwritten, left_to_live_group, passed_on, PathFault, Paths, is_declared, is_lost, is_handed, is_handed_kept, cancel_class, group_class, BindsCancel, obtains, obtains_into, clears, OwesCall, LeavesLive, IsLeft}
use Rattle.path_faults.proofs.Kept.{same_number, is_same, is_cancel_kind, is_group_kind}
use Rattle.path_faults.proofs.Places.{place_of, passes_at, any_at}
use Rattle.path_faults.specs.FoundFaults.{binds, makes, returns, deed_of, owes_call}
use Rattle.ways.specs.Asked.{TellsLives}
use Rattle.ways.specs.Ends.{is_left, is_open, is_binding_fault, is_return_fault, cancel_ends_at, is_making_fault, is_living_fault, group_ends_at, cancel_ends, group_ends, ends_by, end_of, is_end}
use Rattle.ways.specs.Ways.{IsFaultAfter, rebinds, remakes, leaves_live, leaves_open, leaves_kept, leaves_pending, pending_in, group_told}

-- Codes

binding_code : (code : PathCode) → is_binding_fault code ≡ true → overwritten ≡ code
binding_code overwritten e = refl
binding_code not_called e = absurd (false≢true e)
binding_code group_is_live e = absurd (false≢true e)
binding_code group_overwritten e = absurd (false≢true e)
binding_code left_to_live_group e = absurd (false≢true e)
binding_code passed_on e = absurd (false≢true e)

making_code : (code : PathCode) → is_making_fault code ≡ true → group_overwritten ≡ code
making_code overwritten e = absurd (false≢true e)
making_code not_called e = absurd (false≢true e)
making_code group_is_live e = absurd (false≢true e)
making_code group_overwritten e = refl
making_code left_to_live_group e = absurd (false≢true e)
making_code passed_on e = absurd (false≢true e)

living_code : (code : PathCode) → is_living_fault code ≡ true → group_is_live ≡ code
living_code overwritten e = absurd (false≢true e)
living_code not_called e = absurd (false≢true e)
living_code group_is_live e = refl
living_code group_overwritten e = absurd (false≢true e)
living_code left_to_live_group e = absurd (false≢true e)
living_code passed_on e = absurd (false≢true e)

live_class : (k : GroupClass) → is_live k ≡ true → k ≡ in_state live
live_class unmade e = absurd (false≢true e)
live_class (in_state idle) e = absurd (false≢true e)
live_class (in_state live) e = refl
live_class awaited e = absurd (false≢true e)

binds_deed : {e : Event} {u : VariableAt} → BindsCancel e u → deed_of e ≡ binds u
binds_deed (obtains) = refl
binds_deed (obtains_into) = refl
binds_deed (clears) = refl

abbrev fault : ℕ → PathCode → List ℕ → PathFault
fault at code name = record { at = at; code = code; name = name }

same_fault : (at : ℕ) (code : PathCode) (name : List ℕ) (f : PathFault)
    → at ≡ f.at
    → code ≡ f.code
    → name ≡ f.name
    → fault at code name ≡ f
same_fault at code name f p q r = λ i. fault (p i) (q i) (r i)

-- the group of whose work is told, by a class that is the variable's
pub fault_group : (b : Paths) (v : Variable) (t : List (Occurrence Event)) (o : Occurrence Event) (class : Option CancelClass)
    → (v.kind ≡ cancel → class ≡ Some (cancel_class b v t))
    → (f : PathFault)
    → IsFaultAfter b v t o f
    → group_told f.code v.number (option_and_then pending_in class)
    ≡ group_told f.code v.number (pending_in (cancel_class b v t))
fault_group b v t o class same f (rebinds u here kind is number lost) = refl
fault_group b v t o class same f (remakes u s is number live_one) = refl
fault_group b v t o class same f (leaves_live handed is declared live_one) = refl
fault_group b v t o class same f (leaves_open handed is owes class_is) = refl
fault_group b v t o class same f (leaves_kept handed is owes held not_handed) = refl
fault_group b v t o class same f (leaves_pending handed is owes left) =
    ap (option_and_then pending_in) (same owes.is_cancel_variable)

module _ (b : Paths) (lives_at : NodePlace → ℕ → Bool) (tells : TellsLives b lives_at)
    (v : Variable) (of_body : Contains b.variables v)
    (t : List (Occurrence Event)) (o : Occurrence Event)
    (n : ℕ) (is_node : slice_get (nodes b.code) n ≡ Some o) where
  abbrev vs : List Variable
  vs = b.variables

  abbrev lives : ℕ → Bool
  lives = lives_at record { at = o.at; order = o.order; node = n }

  abbrev Is : PathFault → Type 0
  Is = IsFaultAfter b v t o

  -- Left to a group

  abbrev left_test : ℕ → ℕ → Variable → Bool
  left_test h j g = is_group (Some g.kind) && ((g.number == h) && lives j)

  left_is : (k : CancelClass) → cancel_class b v t ≡ k → is_left vs lives k ≡ true → IsLeft b v t o
  left_is unset is e = absurd (false≢true e)
  left_is opened is e = absurd (false≢true e)
  left_is kept is e = absurd (false≢true e)
  left_is safe is e = absurd (false≢true e)
  left_is (pending h) is e =
      let w = passes_at (left_test h) vs e in
      let g = w.element in
      let parts = and_parts (is_group (Some g.kind)) ((g.number == h) && lives w.place) w.passes in
      let inner = and_parts (g.number == h) (lives w.place) parts.1 in
      let m = (tells n w.place o g is_node w.is_there).0 inner.1 in
      record {
        left_to = g;
        other_list = m.list;
        there = m.there;
        is_pending = is ∙ ap pending (sym (same_number g.number h inner.0));
        reaches = m.reaches;
        same_offset = m.same_offset;
        same_order = m.same_order;
        is_live = m.is_live;
      }

  left_from : IsLeft b v t o → is_left vs lives (cancel_class b v t) ≡ true
  left_from l =
      let g = l.left_to in
      let at = place_of vs g l.is_live.is_of_body in
      let lives_there = (tells n at.0 o g is_node at.1).1 record {
        list = l.other_list;
        there = l.there;
        reaches = l.reaches;
        same_offset = l.same_offset;
        same_order = l.same_order;
        is_live = l.is_live;
      } in
      subst (λ k. is_left vs lives k ≡ true) (sym l.is_pending)
      (any_at (left_test g.number) vs at.0 g at.1
      (and_from (is_group (Some g.kind)) ((g.number == g.number) && lives at.0)
      (is_group_kind g.kind l.is_live.is_group_variable)
      (and_from (g.number == g.number) (lives at.0) (is_same g.number g.number refl) lives_there)))

  -- Cancel variables

  module _ (f : PathFault) (same_name : v.name ≡ f.name) where
    module _ (k : CancelClass) (class : cancel_class b v t ≡ k) (kind : v.kind ≡ cancel) where
      bound : (u : VariableAt) → BindsCancel o.event u → cancel_ends_at vs lives v f o.at k (binds u) ≡ true → Is f
      bound u is e =
          let parts = and_parts (is_binding_fault f.code) ((u.number == v.number) && ((u.at == f.at) && is_lost vs k)) e in
          let inner = and_parts (u.number == v.number) ((u.at == f.at) && is_lost vs k) parts.1 in
          let last = and_parts (u.at == f.at) (is_lost vs k) inner.1 in
          subst Is
          (same_fault u.at overwritten v.name f (same_number u.at f.at last.0) (binding_code f.code parts.0) same_name)
          (rebinds u of_body kind is (same_number u.number v.number inner.0)
          (subst (λ c. is_lost vs c ≡ true) (sym class) last.1))

      open_is : (handed : List Handed) → o.event ≡ return_event handed → OwesCall b v handed → (c : CancelClass)
          → cancel_class b v t ≡ c
          → is_open v.number handed c ≡ true
          → Is (fault o.at not_called v.name)
      open_is handed is owes unset same e = absurd (false≢true e)
      open_is handed is owes opened same e = leaves_open handed is owes same
      open_is handed is owes kept same e =
          leaves_kept handed is owes same (not-true (is_handed_kept v.number handed) e)
      open_is handed is owes safe same e = absurd (false≢true e)
      open_is handed is owes (pending g) same e = absurd (false≢true e)

      returned : (handed : List Handed) → o.event ≡ return_event handed → OwesCall b v handed → (code : PathCode)
          → is_return_fault vs lives v.number handed code k ≡ true
          → Is (fault o.at code v.name)
      returned handed is owes overwritten e = absurd (false≢true e)
      returned handed is owes not_called e = open_is handed is owes k class e
      returned handed is owes group_is_live e = absurd (false≢true e)
      returned handed is owes group_overwritten e = absurd (false≢true e)
      returned handed is owes left_to_live_group e = leaves_pending handed is owes (left_is k class e)
      returned handed is owes passed_on e = absurd (false≢true e)

      at_return : (handed : List Handed) → o.event ≡ return_event handed
          → cancel_ends_at vs lives v f o.at k (returns handed) ≡ true
          → Is f
      at_return handed is e =
          let parts = and_parts (o.at == f.at) (owes_call v handed && is_return_fault vs lives v.number handed f.code k) e in
          let inner = and_parts (owes_call v handed) (is_return_fault vs lives v.number handed f.code k) parts.1 in
          let owes = and_parts (is_cancel (Some v.kind)) (is_declared v.role && not (is_handed v.number handed)) inner.0 in
          let kept = and_parts (is_declared v.role) (not (is_handed v.number handed)) owes.1 in
          subst Is (same_fault o.at f.code v.name f (same_number o.at f.at parts.0) refl same_name)
          (returned handed is
          record {
            is_of_body = of_body;
            is_cancel_variable = kind;
            is_declared_here = kept.0;
            is_kept = not-true (is_handed v.number handed) kept.1;
          }
          f.code inner.1)

      cancel_told : (e : Event) → o.event ≡ e → cancel_ends_at vs lives v f o.at k (deed_of e) ≡ true → Is f
      cancel_told (obtain u g m d) is h = bound u (subst (λ x. BindsCancel x u) (sym is) (obtains)) h
      cancel_told (obtain_kept u g m x) is h = bound u (subst (λ y. BindsCancel y u) (sym is) (obtains_into)) h
      cancel_told (clear u) is h = bound u (subst (λ x. BindsCancel x u) (sym is) (clears)) h
      cancel_told (return_event handed) is h = at_return handed is h
      cancel_told (make u s) is h = absurd (false≢true h)
      cancel_told other is h = absurd (false≢true h)
      cancel_told (renew u x) is h = absurd (false≢true h)
      cancel_told (keep u x) is h = absurd (false≢true h)
      cancel_told (call_kept u x) is h = absurd (false≢true h)
      cancel_told (defer_kept u x) is h = absurd (false≢true h)
      cancel_told (give u x) is h = absurd (false≢true h)
      cancel_told (give_field u) is h = absurd (false≢true h)
      cancel_told (call u) is h = absurd (false≢true h)
      cancel_told (defer_call u) is h = absurd (false≢true h)
      cancel_told (pass u g m) is h = absurd (false≢true h)
      cancel_told (defer_pass u g m) is h = absurd (false≢true h)
      cancel_told (lend g m l) is h = absurd (false≢true h)
      cancel_told (start g l) is h = absurd (false≢true h)
      cancel_told (try g l) is h = absurd (false≢true h)
      cancel_told (wait g) is h = absurd (false≢true h)
      cancel_told (defer_wait g) is h = absurd (false≢true h)
      cancel_told (defer_literal l) is h = absurd (false≢true h)
      cancel_told (go work) is h = absurd (false≢true h)

    -- Groups

    module _ (k : GroupClass) (class : group_class b v t ≡ k) (kind : v.kind ≡ group) where
      leaves : is_live k ≡ true → LeavesLive b v t
      leaves e = record { is_of_body = of_body; is_group_variable = kind; is_live = class ∙ live_class k e }

      made : (u : VariableAt) (s : GroupState) → o.event ≡ make u s
          → group_ends_at v f o.at k (makes u) ≡ true
          → Is f
      made u s is e =
          let parts = and_parts (is_making_fault f.code) ((u.number == v.number) && ((u.at == f.at) && is_live k)) e in
          let inner = and_parts (u.number == v.number) ((u.at == f.at) && is_live k) parts.1 in
          let last = and_parts (u.at == f.at) (is_live k) inner.1 in
          subst Is
          (same_fault u.at group_overwritten v.name f (same_number u.at f.at last.0) (making_code f.code parts.0) same_name)
          (remakes u s is (same_number u.number v.number inner.0) (leaves last.1))

      group_returned : (handed : List Handed) → o.event ≡ return_event handed
          → group_ends_at v f o.at k (returns handed) ≡ true
          → Is f
      group_returned handed is e =
          let parts = and_parts (is_living_fault f.code) ((o.at == f.at) && (is_declared v.role && is_live k)) e in
          let inner = and_parts (o.at == f.at) (is_declared v.role && is_live k) parts.1 in
          let last = and_parts (is_declared v.role) (is_live k) inner.1 in
          subst Is
          (same_fault o.at group_is_live v.name f (same_number o.at f.at inner.0) (living_code f.code parts.0) same_name)
          (leaves_live handed is last.0 (leaves last.1))

      group_fault : (e : Event) → o.event ≡ e → group_ends_at v f o.at k (deed_of e) ≡ true → Is f
      group_fault (make u s) is h = made u s is h
      group_fault (return_event handed) is h = group_returned handed is h
      group_fault (obtain u g m d) is h = absurd (false≢true h)
      group_fault (obtain_kept u g m x) is h = absurd (false≢true h)
      group_fault (clear u) is h = absurd (false≢true h)
      group_fault other is h = absurd (false≢true h)
      group_fault (renew u x) is h = absurd (false≢true h)
      group_fault (keep u x) is h = absurd (false≢true h)
      group_fault (call_kept u x) is h = absurd (false≢true h)
      group_fault (defer_kept u x) is h = absurd (false≢true h)
      group_fault (give u x) is h = absurd (false≢true h)
      group_fault (give_field u) is h = absurd (false≢true h)
      group_fault (call u) is h = absurd (false≢true h)
      group_fault (defer_call u) is h = absurd (false≢true h)
      group_fault (pass u g m) is h = absurd (false≢true h)
      group_fault (defer_pass u g m) is h = absurd (false≢true h)
      group_fault (lend g m l) is h = absurd (false≢true h)
      group_fault (start g l) is h = absurd (false≢true h)
      group_fault (try g l) is h = absurd (false≢true h)
      group_fault (wait g) is h = absurd (false≢true h)
      group_fault (defer_wait g) is h = absurd (false≢true h)
      group_fault (defer_literal l) is h = absurd (false≢true h)
      group_fault (go work) is h = absurd (false≢true h)

  -- By numbers of classes

  module _ (groups : List ℕ) (m : ℕ)
      (cancel_is : v.kind ≡ cancel → class_of_cancel groups m ≡ Some (cancel_class b v t))
      (group_is : v.kind ≡ group → class_of_group m ≡ Some (group_class b v t)) where
    told_by : (f : PathFault) → v.name ≡ f.name → (kind : VariableKind) → v.kind ≡ kind
        → ends_by kind vs groups lives v f o.at m (deed_of o.event) ≡ true
        → Is f
    told_by f name cancel kind e =
        cancel_told f name (cancel_class b v t) refl kind o.event refl
        (subst (λ c. cancel_ends vs lives v f o.at c (deed_of o.event) ≡ true) (cancel_is kind) e)
    told_by f name group kind e =
        group_fault f name (group_class b v t) refl kind o.event refl
        (subst (λ c. group_ends v f o.at c (deed_of o.event) ≡ true) (group_is kind) e)

    pub told : (f : PathFault) → is_end vs groups lives v f o m ≡ true → Is f
    told f e =
        let parts = and_parts (bytes_eq v.name f.name) (end_of vs groups lives v f o.at m (deed_of o.event)) e in
        told_by f ((bytes_eq-Decides v.name f.name).0 parts.0) v.kind refl parts.1

    cancel_end : (f : PathFault) → v.name ≡ f.name → v.kind ≡ cancel
        → cancel_ends_at vs lives v f o.at (cancel_class b v t) (deed_of o.event) ≡ true
        → is_end vs groups lives v f o m ≡ true
    cancel_end f name kind e =
        and_from (bytes_eq v.name f.name) (end_of vs groups lives v f o.at m (deed_of o.event))
        ((bytes_eq-Decides v.name f.name).1 name)
        (subst (λ x. ends_by x vs groups lives v f o.at m (deed_of o.event) ≡ true) (sym kind)
        (subst (λ c. cancel_ends vs lives v f o.at c (deed_of o.event) ≡ true) (sym (cancel_is kind)) e))

    group_end : (f : PathFault) → v.name ≡ f.name → v.kind ≡ group
        → group_ends_at v f o.at (group_class b v t) (deed_of o.event) ≡ true
        → is_end vs groups lives v f o m ≡ true
    group_end f name kind e =
        and_from (bytes_eq v.name f.name) (end_of vs groups lives v f o.at m (deed_of o.event))
        ((bytes_eq-Decides v.name f.name).1 name)
        (subst (λ x. ends_by x vs groups lives v f o.at m (deed_of o.event) ≡ true) (sym kind)
        (subst (λ c. group_ends v f o.at c (deed_of o.event) ≡ true) (sym (group_is kind)) e))

    owed : (handed : List Handed) → OwesCall b v handed → owes_call v handed ≡ true
    owed handed owes =
        and_from (is_cancel (Some v.kind)) (is_declared v.role && not (is_handed v.number handed))
        (is_cancel_kind v.kind owes.is_cancel_variable)
        (and_from (is_declared v.role) (not (is_handed v.number handed)) owes.is_declared_here
        (ap not owes.is_kept))

    return_end : (handed : List Handed) (code : PathCode) → o.event ≡ return_event handed → OwesCall b v handed
        → is_return_fault vs lives v.number handed code (cancel_class b v t) ≡ true
        → is_end vs groups lives v (fault o.at code v.name) o m ≡ true
    return_end handed code is owes e =
        let f = fault o.at code v.name in
        cancel_end f refl owes.is_cancel_variable
        (ap (λ d. cancel_ends_at vs lives v f o.at (cancel_class b v t) d) (ap deed_of is)
        ∙ and_from (o.at == o.at) (owes_call v handed && is_return_fault vs lives v.number handed code (cancel_class b v t))
        (is_same o.at o.at refl)
        (and_from (owes_call v handed) (is_return_fault vs lives v.number handed code (cancel_class b v t))
        (owed handed owes) e))

    pub ends : (f : PathFault) → Is f → is_end vs groups lives v f o m ≡ true
    ends f (rebinds u here kind is same lost) =
        let g = fault u.at overwritten v.name in
        cancel_end g refl kind
        (ap (λ d. cancel_ends_at vs lives v g o.at (cancel_class b v t) d) (binds_deed is)
        ∙ and_from (u.number == v.number) ((u.at == u.at) && is_lost vs (cancel_class b v t))
        (is_same u.number v.number same)
        (and_from (u.at == u.at) (is_lost vs (cancel_class b v t)) (is_same u.at u.at refl) lost))
    ends f (remakes u s is same live_one) =
        let g = fault u.at group_overwritten v.name in
        group_end g refl live_one.is_group_variable
        (ap (λ d. group_ends_at v g o.at (group_class b v t) d) (ap deed_of is)
        ∙ and_from (u.number == v.number) ((u.at == u.at) && is_live (group_class b v t))
        (is_same u.number v.number same)
        (and_from (u.at == u.at) (is_live (group_class b v t)) (is_same u.at u.at refl) (ap is_live live_one.is_live)))
    ends f (leaves_live handed is declared live_one) =
        let g = fault o.at group_is_live v.name in
        group_end g refl live_one.is_group_variable
        (ap (λ d. group_ends_at v g o.at (group_class b v t) d) (ap deed_of is)
        ∙ and_from (o.at == o.at) (is_declared v.role && is_live (group_class b v t)) (is_same o.at o.at refl)
        (and_from (is_declared v.role) (is_live (group_class b v t)) declared (ap is_live live_one.is_live)))
    ends f (leaves_open handed is owes class) =
        return_end handed not_called is owes (ap (is_open v.number handed) class)
    ends f (leaves_kept handed is owes class not_handed) =
        return_end handed not_called is owes (ap (is_open v.number handed) class ∙ ap not not_handed)
    ends f (leaves_pending handed is owes left) =
        return_end handed left_to_live_group is owes (left_from left)
