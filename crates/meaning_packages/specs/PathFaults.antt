-- The faults of a body's paths, and of its passes. Each is a combination of a code, a place and the name of a
-- variable. A path's fault is what some list of the body's events comes to, as `Reaches` of
-- `meaning/specs/Lists.antt` says it; so statements that no list reaches have none, and of the paths of a body with
-- too many variables, or with variables and a `goto`, nothing is said.
--  - A cancel variable is overwritten where a list comes to a binding of it with the variable open or kept, or pending
--    in a group that is not the body's own (one that it declares, and that is no parameter).
--  - A group is overwritten where a list comes to a making of it with the group live.
--  - At a return that a list comes to: an own group may be live; a cancel variable that the body declares, no
--    parameter, and does not hand on there, may not have been called; it may be pending in a group that some list, the
--    same or another one, leaves live at that place. A return that hands on the object in which it is kept hands it on
--    where it is kept, and nowhere else.
-- A pass of a cancel variable to a function of which nobody knows that it calls it is a fault wherever it stands, on a
-- path or not, in the first edition of the rules; in the second it is a read.
-- (The documentation of `context` and `golang.org/x/sync/errgroup`.)
use Rattle.std.specs.Prelude.{ℕ, ◌≡◌, ◌≢◌, ◌==◌, not, ◌&&◌, Bool, true, false, List, [], Contains, Some, is_none}
use Rattle.std.specs.List.{list_any}
use Rattle.tree.specs.declared.edition.Edition.{Edition}
use Rattle.tree.specs.declared.edition.Edition.TheVariants.{First}
use Rattle.tree.specs.Syntax.{Block}
use Rattle.meaning.specs.Code.{Occurrence, Code}
use Rattle.meaning.specs.Lists.{Reaches}
use Rattle.meaning.specs.StatementCode.{body_code}
use Rattle.meaning.specs.FunctionFacts.{cancel, group}
use Rattle.meaning.specs.Mentions.{BodyPlace}
use Rattle.meaning.specs.Tracked.{GroupState, live}
use Rattle.meaning.specs.Uses.{Callee, VariableAt, Handed, Event, obtain, obtain_kept, clear, pass, defer_pass, make, return_event, Seen, is_group}
use Rattle.meaning.specs.BodyEvents.{Variable, VariableRole, own_parameter, own_receiver, declared_in_body, captured, sites_of, events_at, variables_of, unfollowed_faults}
use Rattle.meaning.specs.Classes.{Promises, CancelClass, unset, opened, kept, safe, pending, entry_cancel, cancel_after, GroupClass, in_state, entry_group, group_after}

-- what is said of a path or a pass; in a report these are LC04, LC05, LC07, LC08, LC10 and LC06
pub data PathCode : Type 0 where
  overwritten : PathCode
  not_called : PathCode
  group_is_live : PathCode
  group_overwritten : PathCode
  left_to_live_group : PathCode
  passed_on : PathCode

pub record PathFault : Type 0 where
  pub at : ℕ
  pub code : PathCode
  pub name : List ℕ

-- a body: the edition by which it is judged, its code, its variables, the events that stand at its sites, on a path or
-- not, and what is relied on
pub record Paths : Type 0 where
  pub edition : Edition
  pub code : Code Event
  pub variables : List Variable
  pub events : ℕ → List Event
  pub promises : Promises

abbrev pub is_declared : VariableRole → Bool
is_declared (own_parameter k) = false
is_declared own_receiver = false
is_declared declared_in_body = true
is_declared captured = false

-- the body makes the group of that number
abbrev pub makes_it : List Variable → ℕ → Bool
makes_it vs g = list_any (λ v. (v.number == g) && (is_group (Some v.kind) && is_declared v.role)) vs

-- what a cancel variable held is lost where it is bound again
abbrev pub is_lost : List Variable → CancelClass → Bool
is_lost vs unset = false
is_lost vs opened = true
is_lost vs kept = true
is_lost vs safe = false
is_lost vs (pending g) = not (makes_it vs g)

-- whatever is known of it
abbrev pub is_handed : ℕ → List Handed → Bool
is_handed number = list_any (λ h. (h.number == number) && is_none h.object)

-- or where it is kept in an object
abbrev pub is_handed_kept : ℕ → List Handed → Bool
is_handed_kept number = list_any (λ h. h.number == number)

-- the class of a variable of the body after a list
abbrev pub cancel_class : Paths → Variable → List (Occurrence Event) → CancelClass
cancel_class b v t = cancel_after b.promises v.number (entry_cancel v.role) t

abbrev pub group_class : Paths → Variable → List (Occurrence Event) → GroupClass
group_class b g t = group_after b.promises g.number (entry_group g.role) t

-- an event that binds a cancel variable, and where
pub data BindsCancel : Event → VariableAt → Type 0 where
  obtains : {u : VariableAt} {f : Callee} {k : ℕ} {is_declared : Bool} → BindsCancel (obtain u f k is_declared) u
  obtains_into : {u : VariableAt} {f : Callee} {k x : ℕ} → BindsCancel (obtain_kept u f k x) u
  clears : {u : VariableAt} → BindsCancel (clear u) u

-- an event that passes a cancel variable to a function that is not known to call it
pub data PassesOn (p : Promises) : Event → VariableAt → Type 0 where
  passes : {u : VariableAt} {f : Callee} {k : ℕ} → p.calls f k ≡ false → PassesOn p (pass u f k) u
  defers : {u : VariableAt} {f : Callee} {k : ℕ} → p.calls f k ≡ false → PassesOn p (defer_pass u f k) u

-- the list comes to a return there that hands these on
pub record ComesToReturn
    (b : Paths) (t : List (Occurrence Event)) (o : Occurrence Event) (handed : List Handed)
    : Type 0 where
  pub reaches : Reaches b.code t o
  pub is_return : o.event ≡ return_event handed

-- some list comes to a return
pub record ComesBack (b : Paths) : Type 0 where
  pub handed : List Handed
  pub list : List (Occurrence Event)
  pub there : Occurrence Event
  pub comes : ComesToReturn b list there handed

-- a cancel variable that the body declares and does not hand on there
pub record OwesCall (b : Paths) (v : Variable) (handed : List Handed) : Type 0 where
  pub is_of_body : Contains b.variables v
  pub is_cancel_variable : v.kind ≡ cancel
  pub is_declared_here : is_declared v.role ≡ true
  pub is_kept : is_handed v.number handed ≡ false

-- a group, declared by the body or not, that a list leaves live
pub record LeavesLive (b : Paths) (g : Variable) (t : List (Occurrence Event)) : Type 0 where
  pub is_of_body : Contains b.variables g
  pub is_group_variable : g.kind ≡ group
  pub is_live : group_class b g t ≡ in_state live

-- the list `t` leaves the variable pending in a group, and some list that comes to the place of `o`, this one or
-- another, leaves the group live there
pub record IsLeft (b : Paths) (v : Variable) (t : List (Occurrence Event)) (o : Occurrence Event) : Type 0 where
  pub left_to : Variable
  pub other_list : List (Occurrence Event)
  pub there : Occurrence Event
  pub is_pending : cancel_class b v t ≡ pending left_to.number
  pub reaches : Reaches b.code other_list there
  pub same_offset : there.at ≡ o.at
  pub same_order : there.order ≡ o.order
  pub is_live : LeavesLive b left_to other_list

pub data IsPathFault (b : Paths) : PathFault → Type 0 where
  loses_cancel : (v : Variable) (u : VariableAt) (t : List (Occurrence Event)) (o : Occurrence Event)
      → Contains b.variables v
      → v.kind ≡ cancel
      → Reaches b.code t o
      → BindsCancel o.event u
      → u.number ≡ v.number
      → is_lost b.variables (cancel_class b v t) ≡ true
      → IsPathFault b record { at = u.at; code = overwritten; name = v.name }
  loses_group : (g : Variable) (u : VariableAt) (state : GroupState)
      (t : List (Occurrence Event)) (o : Occurrence Event)
      → Reaches b.code t o
      → o.event ≡ make u state
      → u.number ≡ g.number
      → LeavesLive b g t
      → IsPathFault b record { at = u.at; code = group_overwritten; name = g.name }
  returns_live : (g : Variable) (handed : List Handed) (t : List (Occurrence Event)) (o : Occurrence Event)
      → ComesToReturn b t o handed
      → is_declared g.role ≡ true
      → LeavesLive b g t
      → IsPathFault b record { at = o.at; code = group_is_live; name = g.name }
  returns_open : (v : Variable) (handed : List Handed) (t : List (Occurrence Event)) (o : Occurrence Event)
      → ComesToReturn b t o handed
      → OwesCall b v handed
      → cancel_class b v t ≡ opened
      → IsPathFault b record { at = o.at; code = not_called; name = v.name }
  returns_kept : (v : Variable) (handed : List Handed) (t : List (Occurrence Event)) (o : Occurrence Event)
      → ComesToReturn b t o handed
      → OwesCall b v handed
      → cancel_class b v t ≡ kept
      → is_handed_kept v.number handed ≡ false
      → IsPathFault b record { at = o.at; code = not_called; name = v.name }
  returns_pending : (v : Variable) (handed : List Handed) (t : List (Occurrence Event)) (o : Occurrence Event)
      → ComesToReturn b t o handed
      → OwesCall b v handed
      → IsLeft b v t o
      → IsPathFault b record { at = o.at; code = left_to_live_group; name = v.name }

-- At each return that a list comes to, the variable has been called, or its call is saved, whether it is handed on
-- there or not: it is neither open there, nor kept in an object, nor pending in a group that some list leaves live
-- there.
pub record KeepsCall (b : Paths) (v : Variable) : Type 0 where
  pub never_open : (handed : List Handed) (t : List (Occurrence Event)) (o : Occurrence Event)
      → ComesToReturn b t o handed
      → cancel_class b v t ≢ opened
  pub never_kept : (handed : List Handed) (t : List (Occurrence Event)) (o : Occurrence Event)
      → ComesToReturn b t o handed
      → cancel_class b v t ≢ kept
  pub never_left : (handed : List Handed) (t : List (Occurrence Event)) (o : Occurrence Event)
      → ComesToReturn b t o handed
      → IsLeft b v t o
      → ⊥

-- a pass, on a path or not, in the first edition
pub data IsPassFault (b : Paths) : PathFault → Type 0 where
  passes_on : (v : Variable) (u : VariableAt) (at : ℕ) (e : Event)
      → b.edition ≡ First
      → Contains b.variables v
      → v.kind ≡ cancel
      → Contains (b.events at) e
      → PassesOn b.promises e u
      → u.number ≡ v.number
      → IsPassFault b record { at = u.at; code = passed_on; name = v.name }

-- The faults of a body of a file

abbrev pub block_of : BodyPlace → Block
block_of b = record { statements = b.statements; braces = b.braces }

abbrev pub paths_of : Seen → Promises → BodyPlace → Paths
paths_of seen promises b = record {
  edition = seen.known.edition;
  code = body_code (sites_of seen b.at) (block_of b);
  variables = variables_of seen b.at;
  events = events_at seen b.at seen.marks;
  promises = promises;
}

-- a body that is not followed has no paths, and its passes are judged all the same
pub data IsFaultOf (seen : Seen) (promises : Promises) (b : BodyPlace) : PathFault → Type 0 where
  of_a_pass : (f : PathFault) → IsPassFault (paths_of seen promises b) f → IsFaultOf seen promises b f
  of_a_path : (f : PathFault)
      → unfollowed_faults seen b ≡ []
      → IsPathFault (paths_of seen promises b) f
      → IsFaultOf seen promises b f
