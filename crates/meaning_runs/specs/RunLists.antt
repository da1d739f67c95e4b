-- Each list of a body is the list of some run, so the lists that the analysis looks at are not more than what the
-- machine does. The run begins with a call of the body from outside. Then only this goroutine acts: what it starts in a
-- group stands still, or leaves if it is no literal.
-- (The Go specification, "Statements", "Calls", "Return statements".)
use Rattle.std.specs.Prelude.{◌≡◌, ℕ, Bool, true, false, if◌then◌else◌, ◌++◌, List, [], ◌∷◌, Some, None, Contains}
use Rattle.tree.specs.Syntax.{SourceFile}
use Rattle.meaning.specs.Tracked.{Known}
use Rattle.meaning.specs.BodyEvents.{seen_file, bodies_of}
use Rattle.meaning.specs.Code.{Occurrence, Code}
use Rattle.meaning.specs.Lists.{Exit, Lists}
use Rattle.meaning.specs.Uses.{Event, other, obtain, obtain_kept, renew, keep, call_kept, defer_kept, give, give_field, clear, call, defer_call, pass, defer_pass, lend, start, try, wait, defer_wait, make, defer_literal, return_event, Work, go_call, go_pass, go_literal, go}
use Rattle.meaning.specs.BodyEvents.{bodies_of}
use Rattle.meaning_reports.specs.MeantImports.{IsTreeButForImports}
use Rattle.meaning_runs.specs.Bodies.{Program, Body, IsOf, IsOutermost, is_parameter_of, code_of}
use Rattle.meaning_runs.specs.World.{Place, put_at, Store, runs, exits, Frame, World}
use Rattle.meaning_runs.specs.Steps.{ComesTo, HasNoBody, Acts, moves_on, does_other, obtains_one, obtains_into, keeps_one, renews_object, calls_kept, saves_kept, gives_object, gives_in_field, clears_one, calls_one, saves_call, makes_group, tries_nothing, ends_wait, saves_wait, evaluates, evaluates_deferred, lends, makes_call, calls_outside, saves_pass, saves_literal, comes_to_return, runs_call, runs_pass, runs_literal, runs_wait, returns_now, Starts, ChangesMembers, starts_member, starts_stranger, starts_outside, starts_beside, leaves_group, Step, of_goroutine, of_members, of_environment, StartsGoroutine, starts_call, starts_function, starts_foreign, starts_its_literal, of_go}
use Rattle.meaning_runs.specs.Laws.{IsThere}
use Rattle.meaning_runs.specs.Runs.{Run, no_step, step_more}
use Rattle.meaning_runs.specs.Doings.{Does, IsLeft}
use Rattle.meaning_runs.specs.Promise.{AreTreesOfTexts}

-- The events of a run

abbrev pub event_of : {f : Frame} {e : Event} {rest : Code Event} → ComesTo f e rest → Occurrence Event
event_of {e = e} c = record { at = c.at; order = c.order; event = e }

-- the event by which the code of the frame goes on, if it goes on by one
abbrev pub events_of_act : {p : Program} {s : Store} {place : Place} {f : Frame} {after : Store} {frames : List Frame}
    → Acts p s place f after frames
    → List (Occurrence Event)
events_of_act (moves_on g) = []
events_of_act (does_other d) = event_of d.comes_to ∷ []
events_of_act (obtains_one d o) = event_of d.comes_to ∷ []
events_of_act (obtains_into d o) = event_of d.comes_to ∷ []
events_of_act (keeps_one d) = event_of d.comes_to ∷ []
events_of_act (renews_object d) = event_of d.comes_to ∷ []
events_of_act (calls_kept d) = event_of d.comes_to ∷ []
events_of_act (saves_kept d) = event_of d.comes_to ∷ []
events_of_act (gives_object d) = event_of d.comes_to ∷ []
events_of_act (gives_in_field d) = event_of d.comes_to ∷ []
events_of_act (clears_one d) = event_of d.comes_to ∷ []
events_of_act (calls_one d) = event_of d.comes_to ∷ []
events_of_act (saves_call d) = event_of d.comes_to ∷ []
events_of_act (makes_group d m) = event_of d.comes_to ∷ []
events_of_act (tries_nothing d) = event_of d.comes_to ∷ []
events_of_act (ends_wait d ends) = event_of d.comes_to ∷ []
events_of_act (saves_wait d) = event_of d.comes_to ∷ []
events_of_act (evaluates c j) = event_of c ∷ []
events_of_act (evaluates_deferred c j) = event_of c ∷ []
events_of_act (lends c j) = event_of c ∷ []
events_of_act (makes_call u n b) = []
events_of_act (calls_outside c h) = []
events_of_act (saves_pass u d) = []
events_of_act (saves_literal b d i e) = event_of d.comes_to ∷ []
events_of_act (comes_to_return d) = event_of d.comes_to ∷ []
events_of_act (runs_call r) = []
events_of_act (runs_pass r b) = []
events_of_act (runs_literal values groups r foreign) = []
events_of_act (runs_wait r ends) = []
events_of_act (returns_now e) = []

abbrev pub events_of_change : {p : Program} {w next : World} → ChangesMembers p w next → List (Occurrence Event)
events_of_change (starts_member g h b values groups d free is_in is_at foreign) = event_of d.does_next.comes_to ∷ []
events_of_change (starts_stranger g h d free) = event_of d.does_next.comes_to ∷ []
events_of_change (starts_outside g h at c lent is free) = []
events_of_change (starts_beside g h member none free) = []
events_of_change (leaves_group g member done) = []

abbrev pub events_of_go : {p : Program} {w next : World} → StartsGoroutine p w next → List (Occurrence Event)
events_of_go (starts_call g sets) = event_of sets.does_next.comes_to ∷ []
events_of_go (starts_function g h b values groups sets free is fits) = event_of sets.does_next.comes_to ∷ []
events_of_go (starts_foreign g sets no_body) = event_of sets.does_next.comes_to ∷ []
events_of_go (starts_its_literal g h b values groups sets free is_in is_at foreign) =
    event_of sets.does_next.comes_to ∷ []

abbrev pub events_of_step : {p : Program} {w next : World} → Step p w next → List (Occurrence Event)
events_of_step (of_goroutine g at a) = events_of_act a
events_of_step (of_members c) = events_of_change c
events_of_step (of_go s) = events_of_go s
events_of_step (of_environment s) = []

-- of all goroutines, the first one first
abbrev pub events_of : {p : Program} {w : World} → Run p w → List (Occurrence Event)
events_of no_step = []
events_of (step_more r s) = events_of r ++ events_of_step s

-- Lists that can be run

abbrev pub IsGoRunnable : Program → Body → Work → Type 0
IsGoRunnable p b (go_call v) = Unit {0}
IsGoRunnable p b (go_pass callee xs) = HasNoBody p b callee
IsGoRunnable p b (go_literal at) = IsThere b (Some at)

-- What an event asks for so that the frame comes past it: that its literal is there, and that no body is known for the
-- function that gets the argument, since such a body need not come to an end.
abbrev pub IsRunnable : Program → Body → Event → Type 0
IsRunnable p b other = Unit {0}
IsRunnable p b (obtain u c n is_new) = Unit {0}
IsRunnable p b (obtain_kept u c n x) = Unit {0}
IsRunnable p b (renew v x) = Unit {0}
IsRunnable p b (keep v x) = Unit {0}
IsRunnable p b (call_kept v x) = Unit {0}
IsRunnable p b (defer_kept v x) = Unit {0}
IsRunnable p b (give v x) = Unit {0}
IsRunnable p b (give_field v) = Unit {0}
IsRunnable p b (clear u) = Unit {0}
IsRunnable p b (call v) = Unit {0}
IsRunnable p b (defer_call v) = Unit {0}
IsRunnable p b (pass u c n) = HasNoBody p b c
IsRunnable p b (defer_pass u c n) = Unit {0}
IsRunnable p b (lend v c n) = HasNoBody p b c
IsRunnable p b (start v literal) = IsThere b literal
IsRunnable p b (try v literal) = Unit {0}
IsRunnable p b (wait v) = Unit {0}
IsRunnable p b (defer_wait v) = Unit {0}
IsRunnable p b (make u state) = Unit {0}
IsRunnable p b (defer_literal at) = IsThere b (Some at)
IsRunnable p b (go work) = IsGoRunnable p b work
IsRunnable p b (return_event handed) = Unit {0}

-- which variables hold groups after an event, where these did before
abbrev pub hold_after : (ℕ → Bool) → Event → ℕ → Bool
hold_after hold (make u state) = put_at hold u.number true
hold_after hold (obtain u c n is_new) = put_at hold u.number false
hold_after hold (obtain_kept u c n x) = put_at hold u.number false
hold_after hold (clear u) = put_at hold u.number false
hold_after hold e = hold

abbrev pub HasItsGroup : (ℕ → Bool) → Event → Type 0
HasItsGroup hold (start v literal) = hold v ≡ true
HasItsGroup hold e = Unit {0}

-- each group is made before work is started in it, where these variables hold one
abbrev pub GroupsComeFirst : (ℕ → Bool) → List (Occurrence Event) → Type 0
GroupsComeFirst hold [] = Unit {0}
GroupsComeFirst hold (o ∷ t) = HasItsGroup hold o.event × GroupsComeFirst (hold_after hold o.event) t

abbrev pub is_wait : Event → Bool
is_wait (wait v) = true
is_wait e = false

abbrev pub is_start_of_literal : Event → Bool
is_start_of_literal (start v (Some at)) = true
is_start_of_literal e = false

-- No Wait comes after a literal was started in a group, since that need not come to an end. That there are runs of such
-- lists too, examples alone show (`GroupReturns`).
abbrev pub WaitsComeFirst : List (Occurrence Event) → Type 0
WaitsComeFirst [] = Unit {0}
WaitsComeFirst (o ∷ t) =
    (is_start_of_literal o.event ≡ true → (q : Occurrence Event) → Contains t q → is_wait q.event ≡ false)
    × WaitsComeFirst t

-- the event of a `return`, or of the end of a body
abbrev pub is_return : Event → Bool
is_return (return_event handed) = true
is_return e = false

-- No event but the last one is a return. The lists of a tree of a text are all so (`ReturnsAreLast`). A tree with two
-- statements at one offset, which no text has, may have other lists.
abbrev pub ReturnsComeLast : List (Occurrence Event) → Type 0
ReturnsComeLast [] = Unit {0}
ReturnsComeLast (o ∷ []) = Unit {0}
ReturnsComeLast (o ∷ q ∷ t) = (is_return o.event ≡ false) × ReturnsComeLast (q ∷ t)

abbrev pub ends_in_return : List (Occurrence Event) → Bool
ends_in_return [] = false
ends_in_return (o ∷ []) = is_return o.event
ends_in_return (o ∷ q ∷ t) = ends_in_return (q ∷ t)

-- What the run comes to

-- A run whose events are these; then the goroutine that acts is in the body alone, and what is left of that fits the
-- exit. A return's event takes the frame to its return, whatever is left.
pub record HasGoneThrough (p : Program) (b : Body) (t : List (Occurrence Event)) (x : Exit) : Type 0 where
  pub world : World
  pub run : Run p world
  pub has_events : events_of run ≡ t
  pub goroutine : ℕ
  pub frame : Frame
  pub is_only : world.stacks goroutine ≡ frame ∷ []
  pub is_its : frame.body ≡ b
  -- each call that it came to was made
  pub none_waits : frame.waiting ≡ None
  pub rest : Code Event
  pub does_it : Does (code_of b) t rest
  pub is_left : IsLeft x rest
  pub stands_there : frame.stage ≡ (if ends_in_return t then exits else runs rest)

abbrev pub ListsAreRun : Type 0
ListsAreRun = (p : Program) (b : Body) (t : List (Occurrence Event)) (x : Exit)
    → IsOf p b
    → IsOutermost b
    → Lists (code_of b) t x
    → ((o : Occurrence Event) → Contains t o → IsRunnable p b o.event)
    → GroupsComeFirst (is_parameter_of b) t
    → WaitsComeFirst t
    → ReturnsComeLast t
    → HasGoneThrough p b t x

-- Lists of trees of texts

-- the tree of the body's file is that of a text but for the paths of its imports
pub record IsOfText (b : Body) : Type 0 where
  pub text : List ℕ
  pub tree : SourceFile
  pub known : Known
  pub is_tree : IsTreeButForImports known.edition text tree
  pub is_file : b.file ≡ seen_file known tree

-- So it is of each body of a package whose trees are those of texts, as the promise asks for.
abbrev pub BodiesAreOfTexts : Type 0
BodiesAreOfTexts = (p : Program) (b : Body) (of : IsOf p b) → AreTreesOfTexts of.loaded → IsOfText b

-- There no event of a list but the last one is a return: the event of a return is the last one at its offset, for whose
-- events no other statement asks, and the code leaves the body then; or it is at the body's end.
abbrev pub ReturnsAreLast : Type 0
ReturnsAreLast = (b : Body) (t : List (Occurrence Event)) (x : Exit)
    → IsOfText b
    → Contains (bodies_of b.file) b.place
    → Lists (code_of b) t x
    → ReturnsComeLast t

-- There each literal whose call is saved stands in the body.
abbrev pub DeferredLiteralsAreThere : Type 0
DeferredLiteralsAreThere = (b : Body) (t : List (Occurrence Event)) (x : Exit) (o : Occurrence Event) (at : ℕ)
    → IsOfText b
    → Lists (code_of b) t x
    → Contains t o
    → o.event ≡ defer_literal at
    → IsThere b (Some at)

-- So does each that is called under `go`.
abbrev pub GoneLiteralsAreThere : Type 0
GoneLiteralsAreThere = (b : Body) (t : List (Occurrence Event)) (x : Exit) (o : Occurrence Event) (at : ℕ)
    → IsOfText b
    → Lists (code_of b) t x
    → Contains t o
    → o.event ≡ go (go_literal at)
    → IsThere b (Some at)

-- So does each that is started in a group, or that a try may start.
abbrev pub StartedLiteralsAreThere : Type 0
StartedLiteralsAreThere = (b : Body) (t : List (Occurrence Event)) (x : Exit) (o : Occurrence Event) (v at : ℕ)
    → IsOfText b
    → Lists (code_of b) t x
    → Contains t o
    → Starts o.event v (Some at)
    → IsThere b (Some at)

-- so an event that saves or starts a literal asks for nothing there
abbrev pub IsRunnableOfText : Program → Body → Event → Type 0
IsRunnableOfText p b (defer_literal at) = Unit {0}
IsRunnableOfText p b (start v literal) = Unit {0}
IsRunnableOfText p b (go (go_literal at)) = Unit {0}
IsRunnableOfText p b e = IsRunnable p b e

-- So there each list is that of a run, as far as no body is known for a function that gets a cancel function or a
-- group, groups come before what is started in them, and Waits before literals.
abbrev pub ListsOfTextsAreRun : Type 0
ListsOfTextsAreRun = (p : Program) (b : Body) (t : List (Occurrence Event)) (x : Exit)
    → IsOf p b
    → IsOutermost b
    → IsOfText b
    → Lists (code_of b) t x
    → ((o : Occurrence Event) → Contains t o → IsRunnableOfText p b o.event)
    → GroupsComeFirst (is_parameter_of b) t
    → WaitsComeFirst t
    → HasGoneThrough p b t x
