-- What is known of a tracked variable after a list of a body's events. A cancel variable is unset, or open (it holds a
-- cancel function that was not called), or kept (the newest object of a declaration holds that function in a field, and
-- was not given to others yet), or safe (its function was called, or its call is saved for the return, or others got it
-- in a field, or a goroutine that was started sees to it), or pending in a group (a literal that the group started
-- calls it). A group is unmade, idle (its work has ended, or a goroutine that was started waits for it) or live (its
-- work may go on), or awaited (a Wait is saved for the return). Each variable is followed by itself.
-- (The documentation of `context` and `golang.org/x/sync/errgroup`.)
use Rattle.std.specs.Prelude.{ℕ, ◌==◌, ◌&&◌, Bool, if◌then◌else◌, List, [], ◌∷◌, Option, Some, None}
use Rattle.std.specs.List.{list_any}
use Rattle.meaning.specs.Code.{Occurrence}
use Rattle.meaning.specs.Tracked.{GroupState, idle, live}
use Rattle.meaning.specs.Uses.{Callee, Work, go_call, go_pass, go_literal, Event, other, obtain, obtain_kept, renew, keep, call_kept, defer_kept, give, give_field, clear, call, defer_call, pass, defer_pass, lend, start, try, wait, defer_wait, make, defer_literal, go, return_event}
use Rattle.meaning.specs.BodyEvents.{VariableRole, own_parameter, own_receiver, declared_in_body, captured}

-- what a body relies on: of functions, and of the literals of its own file
pub record Promises : Type 0 where
  -- the function has called its parameter at that position when it returns
  pub calls : Callee → ℕ → Bool
  -- the literal at that offset has called the captured cancel variable of that number when it returns, or does not
  -- leave the captured group of that number live
  pub credits : ℕ → ℕ → Bool

-- Cancel variables

pub data CancelClass : Type 0 where
  unset : CancelClass
  opened : CancelClass
  kept : CancelClass
  safe : CancelClass
  -- in the group of that number
  pending : ℕ → CancelClass

-- at the body's entry
abbrev pub entry_cancel : VariableRole → CancelClass
entry_cancel (own_parameter k) = opened
entry_cancel own_receiver = opened
entry_cancel declared_in_body = unset
entry_cancel captured = opened

-- a literal that calls it is started in the group
abbrev pub left_to : ℕ → CancelClass → CancelClass
left_to g unset = unset
left_to g opened = pending g
left_to g kept = kept
left_to g safe = safe
left_to g (pending h) = pending h

-- the work of the group has ended
abbrev pub ended : ℕ → CancelClass → CancelClass
ended g unset = unset
ended g opened = opened
ended g kept = kept
ended g safe = safe
ended g (pending h) = if g == h then safe else pending h

abbrev pub started : Promises → ℕ → ℕ → Option ℕ → CancelClass → CancelClass
started p v g None k = k
started p v g (Some literal) k = if p.credits literal v then left_to g k else k

-- the declaration of the object in which it is kept makes a new one
abbrev pub given_back : CancelClass → CancelClass
given_back unset = unset
given_back opened = opened
given_back kept = opened
given_back safe = safe
given_back (pending g) = pending g

abbrev pub kept_from : CancelClass → CancelClass
kept_from unset = unset
kept_from opened = kept
kept_from kept = kept
kept_from safe = safe
kept_from (pending g) = pending g

-- what is kept is called, or given to others
abbrev pub settled_from_kept : CancelClass → CancelClass
settled_from_kept unset = unset
settled_from_kept opened = opened
settled_from_kept kept = safe
settled_from_kept safe = safe
settled_from_kept (pending g) = pending g

-- what is kept nowhere is given to others in a field
abbrev pub settled_from_open : CancelClass → CancelClass
settled_from_open unset = unset
settled_from_open opened = safe
settled_from_open kept = kept
settled_from_open safe = safe
settled_from_open (pending g) = pending g

-- a literal under `go` waits for the group, so what is pending in it is settled with it
abbrev pub waited_over : Promises → ℕ → CancelClass → CancelClass
waited_over p literal unset = unset
waited_over p literal opened = opened
waited_over p literal kept = kept
waited_over p literal safe = safe
waited_over p literal (pending g) = if p.credits literal g then safe else pending g

-- a goroutine starts, which may see to the call
abbrev pub taken_over : Promises → ℕ → Work → CancelClass → CancelClass
taken_over p v (go_call u) k = if u == v then safe else k
taken_over p v (go_pass f xs) k = if list_any (λ x. (x.number == v) && p.calls f x.position) xs then safe else k
taken_over p v (go_literal literal) k = if p.credits literal v then safe else waited_over p literal k

-- the class of the cancel variable v after an event, where it was k before
abbrev pub change_cancel : Promises → ℕ → Event → CancelClass → CancelClass
change_cancel p v other k = k
change_cancel p v (obtain u f n is_declared) k = if u.number == v then opened else k
change_cancel p v (obtain_kept u f n x) k = if u.number == v then kept else k
change_cancel p v (renew u x) k = if u == v then given_back k else k
change_cancel p v (keep u x) k = if u == v then kept_from k else k
change_cancel p v (call_kept u x) k = if u == v then settled_from_kept k else k
change_cancel p v (defer_kept u x) k = if u == v then settled_from_kept k else k
change_cancel p v (give u x) k = if u == v then settled_from_kept k else k
change_cancel p v (give_field u) k = if u == v then settled_from_open k else k
change_cancel p v (clear u) k = if u.number == v then unset else k
change_cancel p v (call u) k = if u == v then safe else k
change_cancel p v (defer_call u) k = if u == v then safe else k
change_cancel p v (pass u f n) k = if (u.number == v) && p.calls f n then safe else k
change_cancel p v (defer_pass u f n) k = if (u.number == v) && p.calls f n then safe else k
change_cancel p v (lend g f n) k = k
change_cancel p v (start g literal) k = started p v g literal k
change_cancel p v (try g literal) k = k
change_cancel p v (wait g) k = ended g k
change_cancel p v (defer_wait g) k = k
change_cancel p v (make g state) k = ended g.number k
change_cancel p v (defer_literal literal) k = if p.credits literal v then safe else k
change_cancel p v (go work) k = taken_over p v work k
change_cancel p v (return_event handed) k = k

-- the class of v after a list of events, where it was k before
abbrev pub cancel_after : Promises → ℕ → CancelClass → List (Occurrence Event) → CancelClass
cancel_after p v k [] = k
cancel_after p v k (o ∷ t) = cancel_after p v (change_cancel p v o.event k) t

-- Groups

pub data GroupClass : Type 0 where
  unmade : GroupClass
  in_state : GroupState → GroupClass
  awaited : GroupClass

-- at the body's entry
abbrev pub entry_group : VariableRole → GroupClass
entry_group (own_parameter k) = in_state live
entry_group own_receiver = in_state live
entry_group declared_in_body = unmade
entry_group captured = in_state live

-- work may be started in it
abbrev pub at_work : GroupClass → GroupClass
at_work unmade = unmade
at_work (in_state idle) = in_state live
at_work (in_state live) = in_state live
at_work awaited = awaited

-- its work has ended
abbrev pub at_rest : GroupClass → GroupClass
at_rest unmade = unmade
at_rest (in_state idle) = in_state idle
at_rest (in_state live) = in_state idle
at_rest awaited = awaited

-- a goroutine starts, which may wait for it
abbrev pub waited_by : Promises → ℕ → Work → GroupClass → GroupClass
waited_by p v (go_call u) k = k
waited_by p v (go_pass f xs) k = k
waited_by p v (go_literal literal) k = if p.credits literal v then at_rest k else k

-- the class of the group variable v after an event, where it was k before
abbrev pub change_group : Promises → ℕ → Event → GroupClass → GroupClass
change_group p v other k = k
change_group p v (obtain u f n is_declared) k = k
change_group p v (obtain_kept u f n x) k = k
change_group p v (renew u x) k = k
change_group p v (keep u x) k = k
change_group p v (call_kept u x) k = k
change_group p v (defer_kept u x) k = k
change_group p v (give u x) k = k
change_group p v (give_field u) k = k
change_group p v (clear u) k = k
change_group p v (call u) k = k
change_group p v (defer_call u) k = k
change_group p v (pass u f n) k = k
change_group p v (defer_pass u f n) k = k
change_group p v (lend g f n) k = if g == v then at_work k else k
change_group p v (start g literal) k = if g == v then at_work k else k
change_group p v (try g literal) k = if g == v then at_work k else k
change_group p v (wait g) k = if g == v then at_rest k else k
change_group p v (defer_wait g) k = if g == v then awaited else k
change_group p v (make g state) k = if g.number == v then in_state state else k
change_group p v (defer_literal literal) k = if p.credits literal v then awaited else k
change_group p v (go work) k = waited_by p v work k
change_group p v (return_event handed) k = k

-- the class of v after a list of events, where it was k before
abbrev pub group_after : Promises → ℕ → GroupClass → List (Occurrence Event) → GroupClass
group_after p v k [] = k
group_after p v k (o ∷ t) = group_after p v (change_group p v o.event k) t
