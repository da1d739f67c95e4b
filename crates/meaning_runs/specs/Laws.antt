-- What is proved of the machine, each by a public function of src/lib.rt.
use Rattle.std.specs.Prelude.{◌≡◌, ℕ, ◌<◌, List, [], ◌∷◌, Option, Some, None, Contains}
use Rattle.meaning.specs.Code.{Code}
use Rattle.meaning.specs.Uses.{Event, other, obtain, obtain_kept, renew, keep, call_kept, defer_kept, give, give_field, clear, call, defer_call, pass, defer_pass, lend, start, try, wait, defer_wait, make, defer_literal, return_event, Work, go_call, go_pass, go_literal, go}
use Rattle.meaning_runs.specs.Bodies.{Program, Body, IsOf, IsOutermost, IsLiteralIn, Escapes}
use Rattle.meaning_runs.specs.World.{Value, outside, ComesFrom, IsDone, with_new, MayEndWait, AreForeign, Closure, Saved, saved_call, saved_literal, saved_wait, Store, Stage, runs, exits, Frame, held_group, World, new_frame, nothing_around, nothing, held, with_stack}
use Rattle.meaning_runs.specs.Steps.{GoesOn, DoesNext, RunsSaved, IsAtEnd, at_code, IsFree, Starts, Step}
use Rattle.meaning_runs.specs.Runs.{Run, step_more, IsSeenTo, IsCalledFor}

-- Steps of one goroutine

-- a step after which the goroutine's frames are so
abbrev pub GoesTo : Program → World → ℕ → (List Frame → Type 0) → Type 0
GoesTo p w g IsSo = (next : World) × Step p w next × IsSo (next.stacks g)

-- some steps, one after another
pub data Leads (p : Program) : World → World → Type 0 where
  stays : {w : World} → Leads p w w
  one_more : {w next last : World} → Step p w next → Leads p next last → Leads p w last

-- some steps after which the goroutine's frames are these
abbrev pub LeadsTo : Program → World → ℕ → List Frame → Type 0
LeadsTo p w g frames = (last : World) × Leads p w last × (last.stacks g ≡ frames)

-- the running frame is at that stage, above the others
pub record StandsAt (f : Frame) (stage : Stage) (others frames : List Frame) : Type 0 where
  pub frame : Frame
  pub is_running : frames ≡ frame ∷ others
  pub same_body : frame.body ≡ f.body
  pub is_at : frame.stage ≡ stage

-- where a frame stands behind an event, with this left of its code
abbrev pub stage_behind : Event → Code Event → Stage
stage_behind (return_event handed) rest = exits
stage_behind e rest = runs rest

abbrev pub HoldsGroup : Store → Frame → ℕ → Type 0
HoldsGroup s f v = (group : ℕ) × (held_group s f v ≡ Some group)

-- the literal at that offset, if an event names one, stands in the body
abbrev pub IsThere : Body → Option ℕ → Type 0
IsThere b None = Unit {0}
IsThere b (Some at) = (literal : Body) × IsLiteralIn b literal × (literal.place.at ≡ at)

abbrev pub HasFreeGoroutine : World → Type 0
HasFreeGoroutine w = (g : ℕ) × IsFree w g

-- what a `go` statement asks for: a goroutine, and that its literal is there; of a function CallSteps tells
abbrev pub IsGoReady : World → Frame → Work → Type 0
IsGoReady w f (go_call v) = Unit {0}
IsGoReady w f (go_pass callee xs) = ⊥
IsGoReady w f (go_literal at) = IsThere f.body (Some at) × HasFreeGoroutine w

-- What an event asks for so that it has a step: that its literal is there, that a start has a group and a goroutine to
-- start work in, and that a Wait may end.
abbrev pub IsReady : World → Frame → Event → Type 0
IsReady w f other = Unit {0}
IsReady w f (obtain u c n is_new) = Unit {0}
IsReady w f (obtain_kept u c n x) = Unit {0}
IsReady w f (renew v x) = Unit {0}
IsReady w f (keep v x) = Unit {0}
IsReady w f (call_kept v x) = Unit {0}
IsReady w f (defer_kept v x) = Unit {0}
IsReady w f (give v x) = Unit {0}
IsReady w f (give_field v) = Unit {0}
IsReady w f (clear u) = Unit {0}
IsReady w f (call v) = Unit {0}
IsReady w f (defer_call v) = Unit {0}
IsReady w f (pass u c n) = Unit {0}
IsReady w f (defer_pass u c n) = Unit {0}
IsReady w f (lend v c n) = Unit {0}
IsReady w f (start v literal) = HoldsGroup w.store f v × IsThere f.body literal × HasFreeGoroutine w
IsReady w f (try v literal) = Unit {0}
IsReady w f (wait v) = MayEndWait w.store (held_group w.store f v)
IsReady w f (defer_wait v) = Unit {0}
IsReady w f (make u state) = Unit {0}
IsReady w f (defer_literal at) = IsThere f.body (Some at)
IsReady w f (go work) = IsGoReady w f work
IsReady w f (return_event handed) = Unit {0}

-- A goroutine's running frame goes on in its code, and at its return runs what it saved, and then is gone. Of one whose
-- call is under way, and of a pass that was saved, CallSteps tells.
pub record FramesGoOn (p : Program) (w : World) (g : ℕ) (f : Frame) (others : List Frame) : Type 0 where
  pub silently : {rest : Code Event} → GoesOn f None rest → GoesTo p w g (StandsAt f (runs rest) others)
  pub by_event : (e : Event) {rest : Code Event}
      → DoesNext f e rest
      → IsReady w f e
      → GoesTo p w g (StandsAt f (stage_behind e rest) others)
  pub by_saved_call : {value : Value} {left : List Saved}
      → RunsSaved f (saved_call value) left
      → GoesTo p w g (λ frames. frames ≡ (record f { saved = left }) ∷ others)
  pub by_saved_literal : {c : Closure} {left : List Saved}
      → RunsSaved f (saved_literal c) left
      → GoesTo p w g
      (λ frames. frames ≡ new_frame w.store c.literal c.newest ∷ (record f { saved = left }) ∷ others)
  pub by_saved_wait : {group : Option ℕ} {left : List Saved}
      → RunsSaved f (saved_wait group) left
      → MayEndWait w.store group
      → GoesTo p w g (λ frames. frames ≡ (record f { saved = left }) ∷ others)
  pub at_its_end : IsAtEnd f → GoesTo p w g (λ frames. frames ≡ others)

abbrev pub FramesHaveSteps : Type 0
FramesHaveSteps = (p : Program) (w : World) (g : ℕ) (f : Frame) (others : List Frame)
    → w.stacks g ≡ f ∷ others
    → FramesGoOn p w g f others

-- A call of a variable that holds no function goes past it, and all else is as it was. So it is where a condition has
-- found the variable nil.
abbrev pub CallsOfNothingDoNothing : Type 0
CallsOfNothingDoNothing = (p : Program) (w : World) (g : ℕ) (f : Frame) (others : List Frame) (v : ℕ)
    (rest : Code Event)
    → w.stacks g ≡ f ∷ others
    → DoesNext f (call v) rest
    → held w.store f v ≡ nothing
    → Step p w (with_stack w w.store g (at_code f rest ∷ others))

-- What is seen to is seen to after each step too.
abbrev pub CalledForStays : Type 0
CalledForStays = (p : Program) (w next : World) (a : ℕ) (run : Run p w) (step : Step p w next)
    → IsSeenTo p (IsCalledFor a) w run
    → IsSeenTo p (IsCalledFor a) next (step_more run step)

-- Members, in every world of a run

-- some goroutine is free
abbrev pub GoroutinesAreFree : Type 0
GoroutinesAreFree = (p : Program) (w : World) → Run p w → HasFreeGoroutine w

-- A step by which a goroutine becomes a member of the group. It begins so, and then the frames of the goroutine that
-- started it are these.
pub record Joins
    (p : Program) (w : World) (group : ℕ) (BeginsSo : List Frame → Type 0) (g : ℕ) (frames : List Frame)
    : Type 0 where
  pub next : World
  pub step : Step p w next
  pub goroutine : ℕ
  pub was_free : IsFree w goroutine
  pub is_member : next.store.member goroutine ≡ Some group
  pub begins : BeginsSo (next.stacks goroutine)
  pub goes_on : next.stacks g ≡ frames

-- a goroutine in which the frame has started the literal at that offset runs it; of another function nothing is shown
abbrev pub RunsLiteral : World → Frame → Option ℕ → List Frame → Type 0
RunsLiteral w f None frames = frames ≡ []
RunsLiteral w f (Some at) frames =
    (b : Body) × IsLiteralIn f.body b × (b.place.at ≡ at) × (frames ≡ new_frame w.store b f.newest ∷ [])

-- where a frame comes to an event that starts work in a group, or tries to, there is such a step
abbrev pub GroupsGetMembers : Type 0
GroupsGetMembers = (p : Program) (w : World) (g : ℕ) (f : Frame) (others : List Frame)
    (e : Event) (rest : Code Event) (v group : ℕ) (literal : Option ℕ)
    → Run p w
    → w.stacks g ≡ f ∷ others
    → DoesNext f e rest
    → Starts e v literal
    → held_group w.store f v ≡ Some group
    → IsThere f.body literal
    → Joins p w group (RunsLiteral w f literal) g (at_code f rest ∷ others)

-- a step by which a goroutine is no member any more, and all else is as it was
pub record Leaves (p : Program) (w : World) (g : ℕ) : Type 0 where
  pub next : World
  pub step : Step p w next
  pub is_no_member : next.store.member g ≡ None
  pub others_stay : (h : ℕ) → (h ≡ g → ⊥) → next.store.member h ≡ w.store.member h
  pub same_frames : next.stacks ≡ w.stacks

-- a member that runs nothing any more may leave, so that a Wait may end
abbrev pub MembersMayLeave : Type 0
MembersMayLeave = (p : Program) (w : World) (g group : ℕ)
    → w.store.member g ≡ Some group
    → w.stacks g ≡ []
    → Leaves p w g

-- The environment, in every world

-- What the environment may do at any moment: call any function, method or literal outside all functions, with any
-- contents of its parameters that are not the program's; get any literal that escapes, and call it; end any context,
-- call any cancel function, and start work in any group that was made outside, or that has a member of which nothing is
-- known.
pub record EnvironmentMay (p : Program) (w : World) : Type 0 where
  pub call_any : (g : ℕ) (b : Body) (values : ℕ → Value) (groups : ℕ → Option ℕ)
      → w.stacks g ≡ []
      → IsOf p b
      → IsOutermost b
      → AreForeign w.store values groups
      → GoesTo p w g (λ frames. frames ≡ new_frame w.store b nothing_around ∷ [])
  pub get_any_literal : (g : ℕ) (f : Frame) (b : Body)
      → Contains (w.stacks g) f
      → Escapes f.body b
      → (next : World) × Step p w next × Contains next.escaped record { literal = b; newest = f.newest }
  pub call_any_literal : (g : ℕ) (c : Closure) (values : ℕ → Value) (groups : ℕ → Option ℕ)
      → IsFree w g
      → Contains w.escaped c
      → AreForeign w.store values groups
      → GoesTo p w g (λ frames. frames ≡ new_frame w.store c.literal c.newest ∷ [])
  pub end_any : (a : ℕ) → a < w.store.context_count → (next : World) × Step p w next × IsDone next.store a
  pub call_any_cancel : (a : ℕ)
      → a < w.store.context_count
      → (next : World) × Step p w next × Contains next.store.called a
  pub start_in_any : (g group : ℕ)
      → IsFree w g
      → w.store.maker group ≡ outside
      → (next : World) × Step p w next × (next.store.member g ≡ Some group)
  pub start_beside : (g h group : ℕ)
      → w.store.member g ≡ Some group
      → w.stacks g ≡ []
      → IsFree w h
      → (next : World) × Step p w next × (next.store.member h ≡ Some group)

abbrev pub TheEnvironmentMay : Type 0
TheEnvironmentMay = (p : Program) (w : World) → EnvironmentMay p w

-- Contexts, in every world of a run

pub record ContextsEnd (p : Program) (w : World) : Type 0 where
  -- a function that was called has ended its context, and so all that come from it
  pub called_is_done : (a b : ℕ) → Contains w.store.called a → ComesFrom w.store a b → IsDone w.store b
  -- a context that is made from a done one is born done
  pub born_done : (parent : ℕ)
      → IsDone w.store parent
      → IsDone (with_new w.store (Some parent)) w.store.context_count
  -- what is done stays done
  pub stays_done : (next : World) (b : ℕ) → Step p w next → IsDone w.store b → IsDone next.store b

abbrev pub ContextsAreSound : Type 0
ContextsAreSound = (p : Program) (w : World) → Run p w → ContextsEnd p w
