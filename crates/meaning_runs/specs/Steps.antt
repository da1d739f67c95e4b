-- One step of a program: of the running frame of a goroutine, of a `go` statement that starts another, of a group that
-- gets or loses a member, or of the environment. Any goroutine may be the next, and the environment may act between any
-- two steps. Behind a call of `panic` nothing comes.
-- (The Go specification, "Calls", "Return statements", "Defer statements", "Go statements"; the documentation of
-- `context` and `golang.org/x/sync/errgroup`.)
use Rattle.std.specs.Prelude.{◌≡◌, ℕ, ◌<◌, ◌⊎◌, ◌&&◌, ◌++◌, Bool, true, false, List, [], ◌∷◌, Option, Some, None, map, length, Contains, if◌then◌else◌}
use Rattle.std.specs.List.{list_any}
use Rattle.std.specs.Str.{bytes_eq}
use Rattle.meaning.specs.Code.{Occurrence, Code}
use Rattle.meaning.specs.FunctionFacts.{context_path}
use Rattle.meaning.specs.Tracked.{plain_makers, cause_makers, GroupState, idle, live}
use Rattle.meaning.specs.Uses.{Callee, VariableAt, Handed, Event, other, obtain, obtain_kept, renew, keep, call_kept, defer_kept, give, give_field, clear, call, defer_call, pass, defer_pass, lend, start, try, wait, defer_wait, make, defer_literal, return_event, Sent, Work, go_call, go_pass, go_literal, go}
use Rattle.meaning.specs.BodyEvents.{Variable, own_parameter}
use Rattle.meaning_packages.specs.CallsFlags.{calls_by}
use Rattle.meaning_runs.specs.Bodies.{Program, Body, IsOf, variables_in, IsOutermost, IsLiteralIn, Escapes, IsFunction}
use Rattle.meaning_runs.specs.World.{Value, nothing, cancel_function, Place, outside, frame_at, Store, IsEarlier, with_new, calling, IsAny, with_group, IsOutside, with_member, MayEndWait, waiting_for, Given, Lent, Passing, Closure, Saved, saved_call, saved_pass, saved_literal, saved_wait, runs, exits, Frame, World, with_stack, held, held_group, kept_value, without_kept, with_kept, giving_away, handed_by, with_cells, AreForeign, own_cell, binding, binding_group, binds, new_frame, nothing_around, to_call_too}
use Rattle.meaning_runs.specs.Moves.{Moves}

-- What a frame comes to

-- the frame's code goes on by this occurrence, or by none, to what is left then
pub record GoesOn (f : Frame) (o : Option (Occurrence Event)) (rest : Code Event) : Type 0 where
  pub code : Code Event
  pub stage : f.stage ≡ runs code
  pub moves : Moves code o rest

pub record ComesTo (f : Frame) (e : Event) (rest : Code Event) : Type 0 where
  pub at : ℕ
  pub order : ℕ
  pub goes_on : GoesOn f (Some record { at = at; order = order; event = e }) rest

-- it comes to the event when each call before it has been made
pub record DoesNext (f : Frame) (e : Event) (rest : Code Event) : Type 0 where
  pub comes_to : ComesTo f e rest
  pub none_waits : f.waiting ≡ None

abbrev pub at_code : Frame → Code Event → Frame
at_code f rest = record f { stage = runs rest }

-- it stands at its return, and this is the last that it saved
pub record RunsSaved (f : Frame) (x : Saved) (left : List Saved) : Type 0 where
  pub stage : f.stage ≡ exits
  pub saved : f.saved ≡ x ∷ left

-- it stands at its return with nothing left to do
pub record IsAtEnd (f : Frame) : Type 0 where
  pub stage : f.stage ≡ exits
  pub saved : f.saved ≡ []

-- Obtaining

abbrev pub is_maker : Callee → Bool
is_maker f = is_context f.path && list_any (λ name. bytes_eq f.name name) (plain_makers ++ cause_makers)
  where
    is_context : Option (List ℕ) → Bool
    is_context None = false
    is_context (Some path) = bytes_eq path context_path

-- What a call of a maker or a giver gives, and the store behind it. A maker makes a context, from any earlier one or
-- from none that the world has. Of a giver nothing is known but that it gives a function of the world, so perhaps one
-- that it handed on, or a new one, or nothing.
pub data Obtains (s : Store) (f : Callee) : Value → Store → Type 0 where
  new_one : (parent : Option ℕ) → IsEarlier s parent → Obtains s f (cancel_function s.context_count) (with_new s parent)
  earlier_one : (a : ℕ) → is_maker f ≡ false → a < s.context_count → Obtains s f (cancel_function a) s
  none_at_all : is_maker f ≡ false → Obtains s f nothing s

abbrev pub with_function : Value → List ℕ → List ℕ
with_function nothing obtained = obtained
with_function (cancel_function a) obtained = a ∷ obtained

-- Making groups

-- What a making of a group gives: `WithContext` makes a context too, from any earlier one or from none that the world
-- has, and a zero group has none.
pub data Makes (s : Store) : GroupState → Option ℕ → Store → Type 0 where
  zero_group : Makes s idle None s
  with_context : (parent : Option ℕ)
      → IsEarlier s parent
      → Makes s live (Some s.context_count) (with_new s parent)

-- Calls that get cancel functions or groups

-- Each argument is evaluated by an event of its own, in the order of the positions, and the call is made before any
-- other event. Which arguments are of one call the events don't tell: those of one function that follow each other, at
-- rising positions, may be or not.
pub data MayJoin (f : Callee) (is_deferred : Bool) (position : ℕ) : Option Passing → Type 0 where
  is_first : MayJoin f is_deferred position None
  is_next : {passing : Passing}
      → passing.callee ≡ f
      → passing.is_deferred ≡ is_deferred
      → ((x : Given) → Contains passing.given x → x.position < position)
      → ((y : Lent) → Contains passing.lent y → y.position < position)
      → MayJoin f is_deferred position (Some passing)

abbrev pub joining : Option Passing → Callee → Bool → List Given → List Lent → Passing
joining None f is_deferred xs ys = record { callee = f; is_deferred = is_deferred; given = xs; lent = ys }
joining (Some passing) f is_deferred xs ys =
    record passing { given = xs ++ passing.given; lent = ys ++ passing.lent }

abbrev pub evaluating : Store → Frame → ℕ → Callee → ℕ → Bool → Code Event → Frame
evaluating s f v callee position is_deferred rest = record f {
  stage = runs rest;
  waiting = Some (joining f.waiting callee is_deferred (record { position = position; value = held s f v } ∷ []) []);
}

abbrev pub lending : Store → Frame → ℕ → Callee → ℕ → Code Event → Frame
lending s f v callee position rest = record f {
  stage = runs rest;
  waiting = Some (joining f.waiting callee false [] (record { position = position; group = held_group s f v } ∷ []));
}

-- the call lends a group to the parameter of that number
pub record IsLentTo (b : Body) (lent : List Lent) (number : ℕ) : Type 0 where
  pub parameter : Variable
  pub argument : Lent
  pub is_of_body : Contains (variables_in b) parameter
  pub is_lent : Contains lent argument
  pub is_its_number : parameter.number ≡ number
  pub is_its_position : parameter.role ≡ own_parameter argument.position

-- The parameters' contents: cancel functions that the call gives, any for others; groups that it lends, none or ones of
-- the environment for others.
pub record Fits
    (s : Store) (b : Body) (passing : Passing) (values : ℕ → Value) (groups : ℕ → Option ℕ)
    : Type 0 where
  pub same : (v : Variable) (x : Given)
      → Contains (variables_in b) v
      → Contains passing.given x
      → v.role ≡ own_parameter x.position
      → values v.number ≡ x.value
  pub any : (v : ℕ) → IsAny s (values v)
  pub same_group : (v : Variable) (y : Lent)
      → Contains (variables_in b) v
      → Contains passing.lent y
      → v.role ≡ own_parameter y.position
      → groups v.number ≡ y.group
  pub other_groups : (v : ℕ) → IsLentTo b passing.lent v ⊎ IsOutside s (groups v)

-- Functions without a body

abbrev pub HasNoBody : Program → Body → Callee → Type 0
HasNoBody p caller f = (b : Body) → IsFunction p caller f b → ⊥

-- what is declared of a function of a package that was not given: that it has called its argument at that position when
-- it returns
abbrev pub is_declared_to_call : Program → Callee → ℕ → Bool
is_declared_to_call p f position = calls_by (λ name k. false) (λ path. (p.declared path).calls) f position

abbrev pub WasCalled : Store → Value → Type 0
WasCalled s nothing = Unit {0}
WasCalled s (cancel_function a) = Contains s.called a

-- What is declared of the function that is called is true at its return. This is a premise: a function without a body
-- comes back in no other store, so where what is declared is false there is no run.
abbrev pub DeclaredIsTrue : Program → Store → Passing → Type 0
DeclaredIsTrue p s passing = (x : Given)
    → Contains passing.given x
    → is_declared_to_call p passing.callee x.position ≡ true
    → WasCalled s x.value

-- What the call does: a frame of the function begins, with contents for its parameters; or a function without a body
-- returns.
pub data Begins (p : Program) (s : Store) (f : Frame) (passing : Passing) : Store → List Frame → Type 0 where
  of_function : (b : Body) (values : ℕ → Value) (groups : ℕ → Option ℕ)
      → IsFunction p f.body passing.callee b
      → Fits s b passing values groups
      → Begins p s f passing (with_cells s values groups) (new_frame s b nothing_around ∷ [])
  of_none : HasNoBody p f.body passing.callee → DeclaredIsTrue p s passing → Begins p s f passing s []

-- the frame goes through its body, and its call is under way
pub record IsUnderWay (f : Frame) (code : Code Event) (passing : Passing) : Type 0 where
  pub stage : f.stage ≡ runs code
  pub waits : f.waiting ≡ Some passing

-- the frame's next step is the call, which is under way, or is the last that it saved
pub data ComesToCall (f : Frame) (passing : Passing) : Type 0 where
  at_once : {code : Code Event}
      → IsUnderWay f code passing
      → passing.is_deferred ≡ false
      → ComesToCall f passing
  saved_before : {left : List Saved} → RunsSaved f (saved_pass passing) left → ComesToCall f passing

-- The frame comes to a call of a function without a body, which has not returned yet. Till then this may call its
-- arguments, and start work in groups that it was lent. No event tells which argument is the last, so it may do that
-- before some were evaluated, which gives more runs.
pub record IsOutsideCall (p : Program) (f : Frame) (passing : Passing) : Type 0 where
  pub comes_to_it : ComesToCall f passing
  pub has_no_body : HasNoBody p f.body passing.callee

-- What the running frame at a place does: the store after it, and the frames that stand in its place.
pub data Acts (p : Program) (s : Store) (place : Place) (f : Frame) : Store → List Frame → Type 0 where
  -- a branch is taken, or the end of a statement is passed
  moves_on : {rest : Code Event} → GoesOn f None rest → Acts p s place f s (at_code f rest ∷ [])
  does_other : {rest : Code Event} → DoesNext f other rest → Acts p s place f s (at_code f rest ∷ [])
  -- that it declares its variable is told by offsets (`is_declaration`), here, at `clears_one` and at `makes_group`
  obtains_one : {u : VariableAt} {c : Callee} {n : ℕ} {is_new : Bool} {rest : Code Event} {value : Value} {made : Store}
      → DoesNext f (obtain u c n is_new) rest
      → Obtains s c value made
      → Acts p s place f (binding made f u value)
      ((record (binds made f u) { stage = runs rest; obtained = with_function value f.obtained }) ∷ [])
  -- a field of a new object obtains it, and keeps it
  obtains_into : {u : VariableAt} {c : Callee} {n x : ℕ} {rest : Code Event} {value : Value} {made : Store}
      → DoesNext f (obtain_kept u c n x) rest
      → Obtains s c value made
      → Acts p s place f (binding made f (own_cell u.number) value)
      (with_kept
      (record (binds made f (own_cell u.number)) { stage = runs rest; obtained = with_function value f.obtained })
      u.number x value ∷ [])
  -- What an object keeps is what its field holds: that nothing else was put there meanwhile, through the object or by
  -- others, is a premise of the promise, as long as the object wasn't given to others.
  keeps_one : {v x : ℕ} {rest : Code Event}
      → DoesNext f (keep v x) rest
      → Acts p s place f s (with_kept (at_code f rest) v x (held s f v) ∷ [])
  renews_object : {v x : ℕ} {rest : Code Event}
      → DoesNext f (renew v x) rest
      → Acts p s place f s ((record f { stage = runs rest; kept = without_kept f.kept v x }) ∷ [])
  calls_kept : {v x : ℕ} {rest : Code Event}
      → DoesNext f (call_kept v x) rest
      → Acts p s place f (calling s (kept_value f.kept v x)) (at_code f rest ∷ [])
  saves_kept : {v x : ℕ} {rest : Code Event}
      → DoesNext f (defer_kept v x) rest
      → Acts p s place f s
      ((record f { stage = runs rest; saved = saved_call (kept_value f.kept v x) ∷ f.saved }) ∷ [])
  -- others get the object, and what it keeps; what they do with it isn't looked at
  gives_object : {v x : ℕ} {rest : Code Event}
      → DoesNext f (give v x) rest
      → Acts p s place f s (giving_away (at_code f rest) (kept_value f.kept v x) ∷ [])
  -- others get what the variable holds in a field
  gives_in_field : {v : ℕ} {rest : Code Event}
      → DoesNext f (give_field v) rest
      → Acts p s place f s (giving_away (at_code f rest) (held s f v) ∷ [])
  clears_one : {u : VariableAt} {rest : Code Event}
      → DoesNext f (clear u) rest
      → Acts p s place f (binding s f u nothing) (at_code (binds s f u) rest ∷ [])
  -- So does a way that begins at a brace where the variable is nil: a condition found it so, or a giver gave its error.
  -- Go comes there only where the cell holds no function, and then this does nothing (`CallsOfNothingDoNothing`). The
  -- machine comes there with a function in the cell too, and calls it. Such runs are more than Go has; none of Go's is
  -- left out, so what holds of all runs holds of these. That the variable is nil there no run can tell: it is what the
  -- condition's parts say (`ConditionsFindOut`), since nothing else writes the cell (`WritesAreSeen`). Of a giver with
  -- an error it is a premise on its returns, which their text says (`Unless`).
  calls_one : {v : ℕ} {rest : Code Event}
      → DoesNext f (call v) rest
      → Acts p s place f (calling s (held s f v)) (at_code f rest ∷ [])
  saves_call : {v : ℕ} {rest : Code Event}
      → DoesNext f (defer_call v) rest
      → Acts p s place f s ((record f { stage = runs rest; saved = saved_call (held s f v) ∷ f.saved }) ∷ [])
  makes_group : {u : VariableAt} {state : GroupState} {context : Option ℕ} {made : Store} {rest : Code Event}
      → DoesNext f (make u state) rest
      → Makes s state context made
      → Acts p s place f (binding_group (with_group made (frame_at place) context) f u made.group_count)
      ((record (binds made f u) { stage = runs rest; made = made.group_count ∷ f.made }) ∷ [])
  -- `TryGo` may do nothing
  tries_nothing : {v : ℕ} {literal : Option ℕ} {rest : Code Event}
      → DoesNext f (try v literal) rest
      → Acts p s place f s (at_code f rest ∷ [])
  ends_wait : {v : ℕ} {rest : Code Event}
      → DoesNext f (wait v) rest
      → MayEndWait s (held_group s f v)
      → Acts p s place f (waiting_for s (held_group s f v)) (at_code f rest ∷ [])
  saves_wait : {v : ℕ} {rest : Code Event}
      → DoesNext f (defer_wait v) rest
      → Acts p s place f s ((record f { stage = runs rest; saved = saved_wait (held_group s f v) ∷ f.saved }) ∷ [])
  evaluates : {u : VariableAt} {c : Callee} {position : ℕ} {rest : Code Event}
      → ComesTo f (pass u c position) rest
      → MayJoin c false position f.waiting
      → Acts p s place f s (evaluating s f u.number c position false rest ∷ [])
  evaluates_deferred : {u : VariableAt} {c : Callee} {position : ℕ} {rest : Code Event}
      → ComesTo f (defer_pass u c position) rest
      → MayJoin c true position f.waiting
      → Acts p s place f s (evaluating s f u.number c position true rest ∷ [])
  lends : {v : ℕ} {c : Callee} {position : ℕ} {rest : Code Event}
      → ComesTo f (lend v c position) rest
      → MayJoin c false position f.waiting
      → Acts p s place f s (lending s f v c position rest ∷ [])
  makes_call : {code : Code Event} {passing : Passing} {after : Store} {new : List Frame}
      → IsUnderWay f code passing
      → passing.is_deferred ≡ false
      → Begins p s f passing after new
      → Acts p s place f after (new ++ (record f { waiting = None }) ∷ [])
  -- A function without a body calls one of its arguments. (The environment may do the same by `calls_any`, so this adds
  -- no run.)
  calls_outside : {passing : Passing} {x : Given}
      → IsOutsideCall p f passing
      → Contains passing.given x
      → Acts p s place f (calling s x.value) (f ∷ [])
  saves_pass : {code : Code Event} {passing : Passing}
      → IsUnderWay f code passing
      → passing.is_deferred ≡ true
      → Acts p s place f s ((record f { waiting = None; saved = saved_pass passing ∷ f.saved }) ∷ [])
  saves_literal : {at : ℕ} {rest : Code Event} (b : Body)
      → DoesNext f (defer_literal at) rest
      → IsLiteralIn f.body b
      → b.place.at ≡ at
      → Acts p s place f s
      ((record f { stage = runs rest; saved = saved_literal record { literal = b; newest = f.newest } ∷ f.saved }) ∷ [])
  -- What is handed on is read. An item that is a call of a maker or giver is no variable, so it is not among this, and
  -- the environment makes what it gives.
  comes_to_return : {handed : List Handed} {rest : Code Event}
      → DoesNext f (return_event handed) rest
      → Acts p s place f s ((record f { stage = exits; handed_on = map (handed_by s f) handed }) ∷ [])
  -- what was saved runs, the last one first
  runs_call : {value : Value} {left : List Saved}
      → RunsSaved f (saved_call value) left
      → Acts p s place f (calling s value) ((record f { saved = left }) ∷ [])
  runs_pass : {passing : Passing} {left : List Saved} {after : Store} {new : List Frame}
      → RunsSaved f (saved_pass passing) left
      → Begins p s f passing after new
      → Acts p s place f after (new ++ (record f { saved = left }) ∷ [])
  runs_literal : {c : Closure} {left : List Saved} (values : ℕ → Value) (groups : ℕ → Option ℕ)
      → RunsSaved f (saved_literal c) left
      → AreForeign s values groups
      → Acts p s place f (with_cells s values groups)
      (new_frame s c.literal c.newest ∷ (record f { saved = left }) ∷ [])
  runs_wait : {group : Option ℕ} {left : List Saved}
      → RunsSaved f (saved_wait group) left
      → MayEndWait s group
      → Acts p s place f (waiting_for s group) ((record f { saved = left }) ∷ [])
  returns_now : IsAtEnd f → Acts p s place f s []

-- Members

-- a goroutine that does nothing, and is no member
pub record IsFree (w : World) (g : ℕ) : Type 0 where
  pub has_no_frame : w.stacks g ≡ []
  pub is_no_member : w.store.member g ≡ None

-- the event starts work in the group that the variable holds, or tries to
pub data Starts : Event → ℕ → Option ℕ → Type 0 where
  by_start : {v : ℕ} {literal : Option ℕ} → Starts (start v literal) v literal
  by_try : {v : ℕ} {literal : Option ℕ} → Starts (try v literal) v literal

-- A running frame starts work in a group. (Where the variable holds none Go panics.)
pub record StartsWork
    (w : World) (g : ℕ) (f : Frame) (others : List Frame) (rest : Code Event) (literal : Option ℕ) (group : ℕ)
    : Type 0 where
  pub event : Event
  pub variable : ℕ
  pub is_running : w.stacks g ≡ f ∷ others
  pub does_next : DoesNext f event rest
  pub is_start : Starts event variable literal
  pub is_held : held_group w.store f variable ≡ Some group

-- Work is started in a new goroutine, which is a member of the group from then on, and it ends.
pub data ChangesMembers (p : Program) (w : World) : World → Type 0 where
  -- a literal, which shares the cells of the frame around it
  starts_member : {f : Frame} {others : List Frame} {rest : Code Event} {at group : ℕ} (g h : ℕ) (b : Body)
      (values : ℕ → Value) (groups : ℕ → Option ℕ)
      → StartsWork w g f others rest (Some at) group
      → IsFree w h
      → IsLiteralIn f.body b
      → b.place.at ≡ at
      → AreForeign w.store values groups
      → ChangesMembers p w (with_stack
      (with_stack w w.store g (at_code f rest ∷ others))
      (with_cells (with_member w.store h (Some group)) values groups)
      h (new_frame w.store b f.newest ∷ []))
  -- a function of which nothing is known: this goroutine does nothing, and what it calls the environment does
  starts_stranger : {f : Frame} {others : List Frame} {rest : Code Event} {group : ℕ} (g h : ℕ)
      → StartsWork w g f others rest None group
      → IsFree w h
      → ChangesMembers p w (with_stack w (with_member w.store h (Some group)) g (at_code f rest ∷ others))
  -- a function without a body starts one in a group that it was lent
  starts_outside : {f : Frame} {others : List Frame} {passing : Passing} {y : Lent} {group : ℕ} (g h : ℕ)
      → w.stacks g ≡ f ∷ others
      → IsOutsideCall p f passing
      → Contains passing.lent y
      → y.group ≡ Some group
      → IsFree w h
      → ChangesMembers p w (record w { store = with_member w.store h (Some group) })
  -- A member of which nothing is known starts another in its group. (One whose literal has returned may do so too, as
  -- long as it has not left, which gives more runs.)
  starts_beside : {group : ℕ} (beside h : ℕ)
      → w.store.member beside ≡ Some group
      → w.stacks beside ≡ []
      → IsFree w h
      → ChangesMembers p w (record w { store = with_member w.store h (Some group) })
  -- A member's function has returned; a stranger's may at any moment. Where it returns an error the group's context
  -- ends: that is the environment's `ends_one`.
  leaves_group : {group : ℕ} (g : ℕ)
      → w.store.member g ≡ Some group
      → w.stacks g ≡ []
      → ChangesMembers p w (record w { store = with_member w.store g None })

-- Goroutines

-- a call of a function under `go`, with what it gets
abbrev pub sending : Store → Frame → Callee → List Sent → Passing
sending s f callee xs = record {
  callee = callee;
  is_deferred = false;
  given = map (λ x. record { position = x.position; value = held s f x.number }) xs;
  lent = [];
}

-- what such a function has called when it returns, as is declared of it
abbrev pub declared_too : Program → Callee → List Given → List ℕ → List ℕ
declared_too p callee [] calls = calls
declared_too p callee (x ∷ xs) calls =
    let more = declared_too p callee xs calls in
    if is_declared_to_call p callee x.position then to_call_too x.value more else more

-- a goroutine's running frame comes to a `go` statement
pub record SetsOff
    (w : World) (g : ℕ) (f : Frame) (others : List Frame) (work : Work) (rest : Code Event)
    : Type 0 where
  pub is_running : w.stacks g ≡ f ∷ others
  pub does_next : DoesNext f (go work) rest

-- and passes it
abbrev pub past_go : World → ℕ → Frame → List Frame → Code Event → World
past_go w g f others rest = with_stack w w.store g (at_code f rest ∷ others)

-- A `go` statement starts a goroutine, which is a member of no group.
pub data StartsGoroutine (p : Program) (w : World) : World → Type 0 where
  -- It calls what the variable holds, and nothing else. That it does is the environment's `calls_any`.
  starts_call : {f : Frame} {others : List Frame} {rest : Code Event} {v : ℕ} (g : ℕ)
      → SetsOff w g f others (go_call v) rest
      → StartsGoroutine p w
      (record (past_go w g f others rest) { to_call = to_call_too (held w.store f v) w.to_call })
  starts_function : {f : Frame} {others : List Frame} {rest : Code Event} {callee : Callee} {xs : List Sent}
      (g h : ℕ) (b : Body) (values : ℕ → Value) (groups : ℕ → Option ℕ)
      → SetsOff w g f others (go_pass callee xs) rest
      → IsFree w h
      → IsFunction p f.body callee b
      → Fits w.store b (sending w.store f callee xs) values groups
      → StartsGoroutine p w (with_stack
      (past_go w g f others rest)
      (with_cells w.store values groups)
      h (new_frame w.store b nothing_around ∷ []))
  -- A function without a body runs outside. It calls what is declared of it.
  starts_foreign : {f : Frame} {others : List Frame} {rest : Code Event} {callee : Callee} {xs : List Sent} (g : ℕ)
      → SetsOff w g f others (go_pass callee xs) rest
      → HasNoBody p f.body callee
      → StartsGoroutine p w
      (record (past_go w g f others rest) {
        to_call = declared_too p callee (sending w.store f callee xs).given w.to_call;
      })
  -- a literal, which shares the cells of the frame around it
  starts_its_literal : {f : Frame} {others : List Frame} {rest : Code Event} {at : ℕ} (g h : ℕ) (b : Body)
      (values : ℕ → Value) (groups : ℕ → Option ℕ)
      → SetsOff w g f others (go_literal at) rest
      → IsFree w h
      → IsLiteralIn f.body b
      → b.place.at ≡ at
      → AreForeign w.store values groups
      → StartsGoroutine p w (with_stack
      (past_go w g f others rest)
      (with_cells w.store values groups)
      h (new_frame w.store b f.newest ∷ []))

-- What is outside: callers and callbacks, other `go` statements, timers, and all that the packages don't show.
pub data Surrounds (p : Program) (w : World) : World → Type 0 where
  -- A function or method is called, or a literal outside all functions, by a goroutine that has no frame here. That may
  -- be a member of which nothing is known.
  starts : (g : ℕ) (b : Body) (values : ℕ → Value) (groups : ℕ → Option ℕ)
      → w.stacks g ≡ []
      → IsOf p b
      → IsOutermost b
      → AreForeign w.store values groups
      → Surrounds p w (with_stack w (with_cells w.store values groups) g (new_frame w.store b nothing_around ∷ []))
  -- A literal is evaluated that is neither deferred nor started in a group. No event tells where, so it may be at any
  -- moment.
  evaluates_literal : (g : ℕ) (f : Frame) (b : Body)
      → Contains (w.stacks g) f
      → Escapes f.body b
      → Surrounds p w (record w { escaped = record { literal = b; newest = f.newest } ∷ w.escaped })
  -- it is called, at that moment or later
  starts_literal : (g : ℕ) (c : Closure) (values : ℕ → Value) (groups : ℕ → Option ℕ)
      → IsFree w g
      → Contains w.escaped c
      → AreForeign w.store values groups
      → Surrounds p w (with_stack w (with_cells w.store values groups) g (new_frame w.store c.literal c.newest ∷ []))
  -- variables are made outside
  makes_cells : (values : ℕ → Value) (groups : ℕ → Option ℕ)
      → AreForeign w.store values groups
      → Surrounds p w (record w { store = with_cells w.store values groups })
  -- a maker is called outside, or in an item of a return
  makes_one : (parent : Option ℕ)
      → IsEarlier w.store parent
      → Surrounds p w (record w { store = with_new w.store parent })
  ends_one : (a : ℕ)
      → a < w.store.context_count
      → Surrounds p w (record w { store = record (w.store) { ended = a ∷ w.store.ended } })
  calls_any : (a : ℕ)
      → a < w.store.context_count
      → Surrounds p w (record w { store = calling w.store (cancel_function a) })
  -- a group is made outside, with a context or without one
  makes_outside : (context : Option ℕ)
      → IsEarlier w.store context
      → Surrounds p w (record w { store = with_group w.store outside context })
  -- work is started in such a group
  joins_outside : (g a : ℕ)
      → IsFree w g
      → w.store.maker a ≡ outside
      → Surrounds p w (record w { store = with_member w.store g (Some a) })

pub data Step (p : Program) (w : World) : World → Type 0 where
  of_goroutine : {f : Frame} {others : List Frame} {after : Store} {frames : List Frame} (g : ℕ)
      → w.stacks g ≡ f ∷ others
      → Acts p w.store (g, length others) f after frames
      → Step p w (with_stack w after g (frames ++ others))
  of_members : {next : World} → ChangesMembers p w next → Step p w next
  of_go : {next : World} → StartsGoroutine p w next → Step p w next
  of_environment : {next : World} → Surrounds p w next → Step p w next
