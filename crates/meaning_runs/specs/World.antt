-- The world of an analysed program: contexts, cancel functions, error groups, cells and goroutines, each told by a
-- number. Values outside tracked variables are not in it. A goroutine is a stack of frames, the running one first; a
-- frame is one activation of a function, method or literal.
-- (The documentation of `context` and `golang.org/x/sync/errgroup`; the Go specification, "Variables", "Function
-- literals", "Calls", "Defer statements", "Go statements".)
use Rattle.std.specs.Prelude.{◌≡◌, ℕ, ◌+◌, ◌<◌, ◌==◌, Bool, not, ◌&&◌, if◌then◌else◌, List, [], ◌∷◌, Option, Some, None, Contains}
use Rattle.std.specs.List.{filter}
use Rattle.meaning.specs.Code.{Code}
use Rattle.meaning.specs.Uses.{Callee, Event, VariableAt, Handed}
use Rattle.meaning_runs.specs.Bodies.{Body, code_of, is_parameter_of, is_captured_by}

-- what a cancel variable holds: a cancel function, or nothing
pub data Value : Type 0 where
  nothing : Value
  cancel_function : ℕ → Value

-- where a frame stands: its goroutine, and how many frames are below it
abbrev pub Place : Type 0
Place = ℕ × ℕ

-- who made a group: nobody, where no group has the number yet; something outside; or the frame at that place
pub data Maker : Type 0 where
  nobody : Maker
  outside : Maker
  frame_at : Place → Maker

-- What all goroutines share. An execution of a declaration of a tracked variable makes a cell, and the start of a frame
-- one for each of its parameters; a cell is told by the number of what made it and that of its variable.
pub record Store : Type 0 where
  -- the context that each context was made from, if any
  pub parent : ℕ → Option ℕ
  pub context_count : ℕ
  -- the contexts that were ended, by their cancel functions, by time, or by something outside
  pub ended : List ℕ
  -- the cancel functions that were called; each has the number of its context
  pub called : List ℕ
  pub cells : ℕ → ℕ → Value
  -- what group variables hold, in the same cells: a group, or none
  pub holds : ℕ → ℕ → Option ℕ
  pub cell_count : ℕ
  pub maker : ℕ → Maker
  -- the context that each group was made with, if any
  pub group_context : ℕ → Option ℕ
  pub group_count : ℕ
  -- the group that each goroutine is a member of, if any
  pub member : ℕ → Option ℕ

-- one number gets a value
abbrev pub put_at : {A : Type 0} → (ℕ → A) → ℕ → A → ℕ → A
put_at f n x m = if m == n then x else f m

-- Contexts

-- b is the context a, or was made from it, at once or through others
pub data ComesFrom (s : Store) (a : ℕ) : ℕ → Type 0 where
  itself : ComesFrom s a a
  made_from : {b parent : ℕ} → s.parent b ≡ Some parent → ComesFrom s a parent → ComesFrom s a b

-- A context is done if it was ended, or one that it comes from. So the end of a context makes all done that come from
-- it, and one that is made under a done one is done from its birth.
pub record IsDone (s : Store) (b : ℕ) : Type 0 where
  pub context : ℕ
  pub was_ended : Contains s.ended context
  pub comes_from : ComesFrom s context b

-- a context that a new one can be made from
abbrev pub IsEarlier : Store → Option ℕ → Type 0
IsEarlier s None = Unit {0}
IsEarlier s (Some parent) = parent < s.context_count

-- a new context, with the cancel function that ends it
abbrev pub with_new : Store → Option ℕ → Store
with_new s parent =
    record s { parent = put_at s.parent s.context_count parent; context_count = s.context_count + 1 }

-- A call of a cancel function ends its context; one that was called already does nothing more. The call of any other
-- value does nothing here.
abbrev pub calling : Store → Value → Store
calling s nothing = s
calling s (cancel_function a) = record s { called = a ∷ s.called; ended = a ∷ s.ended }

-- a context ends, if there is one
abbrev pub ending : Store → Option ℕ → Store
ending s None = s
ending s (Some a) = record s { ended = a ∷ s.ended }

-- nothing, or a cancel function that the world has
pub data IsAny (s : Store) : Value → Type 0 where
  any_nothing : IsAny s nothing
  any_function : {a : ℕ} → a < s.context_count → IsAny s (cancel_function a)

-- Groups

-- a new group, and the context that it is made with, if any
abbrev pub with_group : Store → Maker → Option ℕ → Store
with_group s maker context = record s {
  maker = put_at s.maker s.group_count maker;
  group_context = put_at s.group_context s.group_count context;
  group_count = s.group_count + 1;
}

-- none, or a group that something outside made
pub data IsOutside (s : Store) : Option ℕ → Type 0 where
  outside_none : IsOutside s None
  outside_group : {a : ℕ} → s.maker a ≡ outside → IsOutside s (Some a)

-- the goroutine becomes a member of the group, or is no member any more
abbrev pub with_member : Store → ℕ → Option ℕ → Store
with_member s g group = record s { member = put_at s.member g group }

abbrev pub HasNoMember : Store → ℕ → Type 0
HasNoMember s a = (g : ℕ) → s.member g ≡ Some a → ⊥

-- A Wait ends only where the group has no member. That of no group ends too; Go panics there, so there are more runs
-- than Go has.
abbrev pub MayEndWait : Store → Option ℕ → Type 0
MayEndWait s None = Unit {0}
MayEndWait s (Some a) = HasNoMember s a

-- where a Wait ends, the group's context does
abbrev pub waiting_for : Store → Option ℕ → Store
waiting_for s None = s
waiting_for s (Some a) = ending s (s.group_context a)

-- Frames

-- an argument for a cancel function, and its position
pub record Given : Type 0 where
  pub position : ℕ
  pub value : Value

-- one for a group: a group, or none
pub record Lent : Type 0 where
  pub position : ℕ
  pub group : Option ℕ

-- a call of a function that gets cancel functions or groups
pub record Passing : Type 0 where
  pub callee : Callee
  pub is_deferred : Bool
  pub given : List Given
  pub lent : List Lent

-- a literal, with the newest cells of the frame that evaluated it; both go on using them
pub record Closure : Type 0 where
  pub literal : Body
  pub newest : ℕ → Option ℕ

-- what a `defer` statement saves for the return
pub data Saved : Type 0 where
  saved_call : Value → Saved
  saved_pass : Passing → Saved
  saved_literal : Closure → Saved
  -- a Wait for the group, or for none
  saved_wait : Option ℕ → Saved

-- what a frame keeps in a field of an object: the variable from which the field got it, the object's, and what it is.
-- Of an object the newest one is meant that the frame's declaration made.
pub record InObject : Type 0 where
  pub variable : ℕ
  pub object : ℕ
  pub value : Value

-- a frame goes through what is left of its body, or it has come to a return
pub data Stage : Type 0 where
  runs : Code Event → Stage
  exits : Stage

pub record Frame : Type 0 where
  pub body : Body
  pub stage : Stage
  -- what made the newest cell of each variable
  pub newest : ℕ → Option ℕ
  -- a call of which some arguments were evaluated, and which was neither made nor saved yet; one of a function without
  -- a body stays here until that returns
  pub waiting : Option Passing
  -- the last one first
  pub saved : List Saved
  -- the cancel functions that its variables obtained from makers and givers
  pub obtained : List ℕ
  -- the groups that it made
  pub made : List ℕ
  -- what it keeps in new objects, the last one first
  pub kept : List InObject
  -- what others got in a field
  pub given_away : List Value
  -- what its return hands on to its caller
  pub handed_on : List Value

pub record World : Type 0 where
  pub store : Store
  pub stacks : ℕ → List Frame
  -- the literals that were evaluated, and that anyone may call
  pub escaped : List Closure
  -- the cancel functions for whose call alone a goroutine was started, by `go c()`
  pub to_call : List ℕ

abbrev pub empty_world : World
empty_world = record {
  store = record {
    parent = λ b. None;
    context_count = 0;
    ended = [];
    called = [];
    cells = λ k v. nothing;
    holds = λ k v. None;
    cell_count = 0;
    maker = λ a. nobody;
    group_context = λ a. None;
    group_count = 0;
    member = λ g. None;
  };
  stacks = λ g. [];
  escaped = [];
  to_call = [];
}

-- a goroutine was started that calls the value
abbrev pub to_call_too : Value → List ℕ → List ℕ
to_call_too nothing calls = calls
to_call_too (cancel_function a) calls = a ∷ calls

-- the goroutine has this stack now
abbrev pub with_stack : World → Store → ℕ → List Frame → World
with_stack w s g stack = record w { store = s; stacks = put_at w.stacks g stack }

-- Cells

abbrev pub in_cell : Store → ℕ → Option ℕ → Value
in_cell s v None = nothing
in_cell s v (Some k) = s.cells k v

abbrev pub group_in_cell : Store → ℕ → Option ℕ → Option ℕ
group_in_cell s v None = None
group_in_cell s v (Some k) = s.holds k v

-- what a variable of the frame holds: a cancel variable, and a group variable
abbrev pub held : Store → Frame → ℕ → Value
held s f v = in_cell s v (f.newest v)

abbrev pub held_group : Store → Frame → ℕ → Option ℕ
held_group s f v = group_in_cell s v (f.newest v)

-- Objects

abbrev pub is_in : ℕ → ℕ → InObject → Bool
is_in v x k = (k.variable == v) && (k.object == x)

-- what the object keeps that came from the variable
abbrev pub kept_value : List InObject → ℕ → ℕ → Value
kept_value [] v x = nothing
kept_value (k ∷ ks) v x = if is_in v x k then k.value else kept_value ks v x

-- the declaration of the object made a new one
abbrev pub without_kept : List InObject → ℕ → ℕ → List InObject
without_kept ks v x = filter (λ k. not (is_in v x k)) ks

abbrev pub with_kept : Frame → ℕ → ℕ → Value → Frame
with_kept f v x value = record f { kept = record { variable = v; object = x; value = value } ∷ f.kept }

-- others get it
abbrev pub giving_away : Frame → Value → Frame
giving_away f value = record f { given_away = value ∷ f.given_away }

-- what a return hands on: what the variable holds, or what the object keeps that came from it
abbrev pub value_handed : Store → Frame → ℕ → Option ℕ → Value
value_handed s f v None = held s f v
value_handed s f v (Some x) = kept_value f.kept v x

abbrev pub handed_by : Store → Frame → Handed → Value
handed_by s f h = value_handed s f h.number h.object

-- Cells that are made

-- the cells that something makes, with these contents: of all numbers, of which only those of parameters are pointed to
abbrev pub with_cells : Store → (ℕ → Value) → (ℕ → Option ℕ) → Store
with_cells s values groups = record s {
  cells = put_at s.cells s.cell_count values;
  holds = put_at s.holds s.cell_count groups;
  cell_count = s.cell_count + 1;
}

-- contents that nobody of the program gives: any cancel functions, and groups of the environment
pub record AreForeign (s : Store) (values : ℕ → Value) (groups : ℕ → Option ℕ) : Type 0 where
  pub any : (v : ℕ) → IsAny s (values v)
  pub foreign : (v : ℕ) → IsOutside s (groups v)

-- a variable's number is the offset of the name that declares it
abbrev pub is_declaration : VariableAt → Bool
is_declaration u = u.at == u.number

abbrev pub cell_or : ℕ → Option ℕ → ℕ
cell_or new None = new
cell_or new (Some k) = k

-- A field that is a variable of its own gets a cell of its own whenever a row obtains into it, as if it was declared
-- there: no literal shares it.
abbrev pub own_cell : ℕ → VariableAt
own_cell number = record { number = number; at = number }

-- The cell that a binding writes: a declaration makes a new one, an assignment writes the newest. (The next cell gets a
-- higher number in both cases.)
abbrev pub bound_cell : Store → Frame → VariableAt → ℕ
bound_cell s f u = if is_declaration u then s.cell_count else cell_or s.cell_count (f.newest u.number)

abbrev pub binding : Store → Frame → VariableAt → Value → Store
binding s f u value =
    let k = bound_cell s f u in
    record s { cells = put_at s.cells k (put_at (s.cells k) u.number value); cell_count = s.cell_count + 1 }

abbrev pub binding_group : Store → Frame → VariableAt → ℕ → Store
binding_group s f u group =
    let k = bound_cell s f u in
    record s { holds = put_at s.holds k (put_at (s.holds k) u.number (Some group)); cell_count = s.cell_count + 1 }

abbrev pub binds : Store → Frame → VariableAt → Frame
binds s f u = record f { newest = put_at f.newest u.number (Some (bound_cell s f u)) }

-- an activation that has done nothing yet, in a store to which the cells of its parameters come; what it captures is in
-- the cells around it
abbrev pub new_frame : Store → Body → (ℕ → Option ℕ) → Frame
new_frame s b around = record {
  body = b;
  stage = runs (code_of b);
  newest = λ v. if is_parameter_of b v then Some s.cell_count else if is_captured_by b v then around v else None;
  waiting = None;
  saved = [];
  obtained = [];
  made = [];
  kept = [];
  given_away = [];
  handed_on = [];
}

-- a function has no variables around it
abbrev pub nothing_around : ℕ → Option ℕ
nothing_around v = None
