-- What a body's lists say of groups, and of what is pending in one. A group that the body does not declare is live at
-- the entry and never unmade, and while something is pending in it, it is live or its Wait is saved. Where no path has a
-- fault, no list makes a live group again or leaves an own one live at a return, and none that leaves something pending
-- in a group leaves that live.
use Rattle.std.proofs.Common.{◌≡◌, ℕ, Bool, true, false, ◌⊎◌, inl, inr, List, [], ◌∷◌, Some, Contains, refl, sym, ap, ◌∙◌, subst}
use Rattle.std.specs.Prelude.{◌==◌, ◌&&◌, not, if◌then◌else◌}
use Rattle.std.proofs.lemmas.Bool.{and_parts, false≢true}
use Rattle.meaning.specs.Code.{Occurrence}
use Rattle.meaning.specs.Lists.{Reaches}
use Rattle.meaning.specs.FunctionFacts.{VariableKind, cancel, group}
use Rattle.meaning.specs.Tracked.{GroupState, idle, live}
use Rattle.meaning.specs.Uses.{VariableAt, Handed, Event, other, obtain, clear, call, defer_call, pass, defer_pass, lend, start, try, wait, defer_wait, make, defer_literal, return_event, is_group, obtain_kept, renew, keep, call_kept, defer_kept, give, give_field, go_call, go_pass, go_literal, go}
use Rattle.meaning.specs.BodyEvents.{Variable, VariableRole, own_parameter, own_receiver, declared_in_body, captured}
use Rattle.meaning.specs.Classes.{Promises, opened, pending, entry_cancel, GroupClass, unmade, in_state, awaited, entry_group, at_work, at_rest, change_group, group_after}
use Rattle.meaning_packages.specs.PathFaults.{PathFault, IsPathFault, loses_cancel, returns_pending, BindsCancel, ComesToReturn, OwesCall, IsLeft, KeepsCall, paths_of, is_declared, is_lost, makes_it}
use Rattle.meaning_runs.specs.Bodies.{Body, code_of, variables_in}
use Rattle.meaning_runs.proofs.Captured.{any_there}
use Rattle.meaning_runs.proofs.GroupVariables.{HasGroup}
use Rattle.meaning_runs.proofs.Places.{class_of, eqb_is}

abbrev pub group_class_of : Promises → Variable → List (Occurrence Event) → GroupClass
group_class_of relies g t = group_after relies g.number (entry_group g.role) t

-- At the entry

pub is_live_at_entry : (r : VariableRole) → is_declared r ≡ false → entry_group r ≡ in_state live
is_live_at_entry (own_parameter k) e = refl
is_live_at_entry own_receiver e = refl
is_live_at_entry declared_in_body e = absurd (false≢true (sym e))
is_live_at_entry captured e = refl

pub is_open_at_entry : (r : VariableRole) → is_declared r ≡ false → entry_cancel r ≡ opened
is_open_at_entry (own_parameter k) e = refl
is_open_at_entry own_receiver e = refl
is_open_at_entry declared_in_body e = absurd (false≢true (sym e))
is_open_at_entry captured e = refl

group_kind : (k : VariableKind) → is_group (Some k) ≡ true → k ≡ group
group_kind cancel e = absurd (false≢true e)
group_kind group e = refl

-- Made, and at work

abbrev pub IsMade : GroupClass → Type 0
IsMade k = k ≡ unmade → ⊥

-- its work may go on, or its Wait is saved
abbrev pub IsWorking : GroupClass → Type 0
IsWorking k = (k ≡ in_state live) ⊎ (k ≡ awaited)

state_is_made : (state : GroupState) → IsMade (in_state state)
state_is_made state e = let bad : in_state state ≡ unmade = e in cc

awaited_is_made : IsMade awaited
awaited_is_made e = let bad : awaited ≡ unmade = e in cc

work_is_made : (k : GroupClass) → IsMade k → IsMade (at_work k)
work_is_made unmade h = absurd (h refl)
work_is_made (in_state idle) h = state_is_made live
work_is_made (in_state live) h = state_is_made live
work_is_made awaited h = awaited_is_made

rest_is_made : (k : GroupClass) → IsMade k → IsMade (at_rest k)
rest_is_made unmade h = absurd (h refl)
rest_is_made (in_state idle) h = state_is_made idle
rest_is_made (in_state live) h = state_is_made idle
rest_is_made awaited h = awaited_is_made

-- what is started in a group that was made sets it to work
pub made_works : (k : GroupClass) → IsMade k → IsWorking (at_work k)
made_works unmade h = absurd (h refl)
made_works (in_state idle) h = inl refl
made_works (in_state live) h = inl refl
made_works awaited h = inr refl

pub working_is_made : (k : GroupClass) → IsWorking k → IsMade k
working_is_made k (inl e) q = state_is_made live (sym e ∙ q)
working_is_made k (inr e) q = awaited_is_made (sym e ∙ q)

pub still_works : (k : GroupClass) → IsWorking k → IsWorking (at_work k)
still_works k h = made_works k (working_is_made k h)

-- of two classes, of which a test picks one
picks : (P : GroupClass → Type 0) (t : Bool) (j k : GroupClass) → P j → P k → P (if t then j else k)
picks P true j k h m = h
picks P false j k h m = m

module _ (relies : Promises) where
  stays_made : (v : ℕ) (e : Event) (k : GroupClass) → IsMade k → IsMade (change_group relies v e k)
  stays_made v other k h = h
  stays_made v (obtain u f n is_declared) k h = h
  stays_made v (clear u) k h = h
  stays_made v (obtain_kept u f n x) k h = h
  stays_made v (renew w x) k h = h
  stays_made v (keep w x) k h = h
  stays_made v (call_kept w x) k h = h
  stays_made v (defer_kept w x) k h = h
  stays_made v (give w x) k h = h
  stays_made v (give_field w) k h = h
  stays_made v (call u) k h = h
  stays_made v (defer_call u) k h = h
  stays_made v (pass u f n) k h = h
  stays_made v (defer_pass u f n) k h = h
  stays_made v (lend g f n) k h = picks IsMade (g == v) (at_work k) k (work_is_made k h) h
  stays_made v (start g literal) k h = picks IsMade (g == v) (at_work k) k (work_is_made k h) h
  stays_made v (try g literal) k h = picks IsMade (g == v) (at_work k) k (work_is_made k h) h
  stays_made v (wait g) k h = picks IsMade (g == v) (at_rest k) k (rest_is_made k h) h
  stays_made v (defer_wait g) k h = picks IsMade (g == v) awaited k awaited_is_made h
  stays_made v (make g state) k h = picks IsMade (g.number == v) (in_state state) k (state_is_made state) h
  stays_made v (defer_literal literal) k h = picks IsMade (relies.credits literal v) awaited k awaited_is_made h
  stays_made v (go (go_call u)) k h = h
  stays_made v (go (go_pass f xs)) k h = h
  stays_made v (go (go_literal literal)) k h = picks IsMade (relies.credits literal v) (at_rest k) k (rest_is_made k h) h
  stays_made v (return_event handed) k h = h

  all_made : (v : ℕ) (k : GroupClass) (t : List (Occurrence Event)) → IsMade k → IsMade (group_after relies v k t)
  all_made v k [] h = h
  all_made v k (o ∷ t) h = all_made v (change_group relies v o.event k) t (stays_made v o.event k h)

  -- a group that the body does not declare
  pub is_made : (g : Variable) → is_declared g.role ≡ false → (t : List (Occurrence Event))
      → IsMade (group_class_of relies g t)
  is_made g role t =
      all_made g.number (entry_group g.role) t (subst IsMade (sym (is_live_at_entry g.role role)) (state_is_made live))

  -- What is pending in a group

  -- one list leaves it pending, and the same leaves the group live
  left_there : (b : Body) (v g : Variable) (handed : List Handed) (t : List (Occurrence Event)) (o : Occurrence Event)
      → Contains (variables_in b) g
      → g.kind ≡ group
      → ComesToReturn (paths_of b.file relies b.place) t o handed
      → class_of relies v t ≡ pending g.number
      → group_class_of relies g t ≡ in_state live
      → IsLeft (paths_of b.file relies b.place) v t o
  left_there b v g handed t o among kind back left works = record {
    left_to = g;
    other_list = t;
    there = o;
    is_pending = left;
    reaches = back.reaches;
    same_offset = refl;
    same_order = refl;
    is_live = record { is_of_body = among; is_group_variable = kind; is_live = works };
  }

  -- Where no path of the body has a fault

  module _ (b : Body) (none : (x : PathFault) → IsPathFault (paths_of b.file relies b.place) x → ⊥) where
    -- one list leaves it pending, and this list leaves the group live
    pub returns_none_pending : (v g : Variable) (handed : List Handed) (t : List (Occurrence Event)) (o : Occurrence Event)
        → OwesCall (paths_of b.file relies b.place) v handed
        → Contains (variables_in b) g
        → g.kind ≡ group
        → ComesToReturn (paths_of b.file relies b.place) t o handed
        → class_of relies v t ≡ pending g.number
        → group_class_of relies g t ≡ in_state live
        → ⊥
    returns_none_pending v g handed t o owes among kind back left works =
        none _ (returns_pending v handed t o back owes (left_there b v g handed t o among kind back left works))

    -- a variable that is bound again is pending in no group but one that the body declares
    pub binds_none_pending : (v : Variable) (u : VariableAt) (n : ℕ) (t : List (Occurrence Event)) (o : Occurrence Event)
        → Contains (variables_in b) v
        → v.kind ≡ cancel
        → Reaches (code_of b) t o
        → BindsCancel o.event u
        → u.number ≡ v.number
        → class_of relies v t ≡ pending n
        → (g : HasGroup b n) × (is_declared g.variable.role ≡ true)
    binds_none_pending v u n t o among kind reaches binds same left = by (makes_it (variables_in b) n) refl
      where
        by : (t : Bool) → makes_it (variables_in b) n ≡ t → (g : HasGroup b n) × (is_declared g.variable.role ≡ true)
        by false q = absurd (none _ (loses_cancel v u t o among kind reaches binds same
            (ap (is_lost (variables_in b)) left ∙ ap not q)))
        by true q =
            let w = any_there (λ (g : Variable). (g.number == n) && (is_group (Some g.kind) && is_declared g.role)) (variables_in b) q in
            let parts = and_parts (w.0.number == n) (is_group (Some w.0.kind) && is_declared w.0.role) w.2 in
            let more = and_parts (is_group (Some w.0.kind)) (is_declared w.0.role) parts.1 in (
              record {
                variable = w.0;
                is_of_body = w.1;
                is_it = eqb_is w.0.number n parts.0;
                is_group_variable = group_kind w.0.kind more.0;
              },
              more.1,
            )

-- the same of a parameter that the body is known to call
pub kept_is_not_pending : (relies : Promises) (b : Body) (v g : Variable) (handed : List Handed)
    (t : List (Occurrence Event)) (o : Occurrence Event)
    → KeepsCall (paths_of b.file relies b.place) v
    → Contains (variables_in b) g
    → g.kind ≡ group
    → ComesToReturn (paths_of b.file relies b.place) t o handed
    → class_of relies v t ≡ pending g.number
    → group_class_of relies g t ≡ in_state live
    → ⊥
kept_is_not_pending relies b v g handed t o keeps among kind back left works =
    keeps.never_left handed t o back (left_there relies b v g handed t o among kind back left works)
