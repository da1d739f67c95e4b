-- What is proved of calls that get cancel functions or groups: in every world of a run there are contents that they can
-- give, so that they always begin; and a function without a body may start work in its groups, and comes back.
-- (The Go specification, "Calls", "Defer statements".)
use Rattle.std.specs.Prelude.{◌≡◌, ℕ, true, false, List, [], ◌∷◌, Some, None, slice_get, Contains}
use Rattle.meaning.specs.Code.{Occurrence, Code}
use Rattle.meaning.specs.Lists.{Reaches}
use Rattle.meaning.specs.Uses.{Callee, Sent, Event, go_pass, go}
use Rattle.meaning_reports.specs.Loaded.{HaveDistinctPaths, counts}
use Rattle.meaning_reports.specs.UsedImports.{HandsTo}
use Rattle.meaning_runs.specs.Bodies.{Program, Body, IsRun, IsOf, IsNamed, IsFunction, code_of}
use Rattle.meaning_runs.specs.Promise.{AreClosed}
use Rattle.meaning_runs.specs.World.{Lent, Passing, Saved, saved_pass, Frame, World, new_frame, nothing_around}
use Rattle.meaning_runs.specs.Steps.{DoesNext, at_code, IsUnderWay, RunsSaved, HasNoBody, IsOutsideCall, IsFree, Step}
use Rattle.meaning_runs.specs.Runs.{Run}
use Rattle.meaning_runs.specs.Laws.{GoesTo, LeadsTo, Joins}

-- Whether the function that is called has a body no test decides here, so both cases are told.
pub record CallsGoOn (p : Program) (w : World) (g : ℕ) (f : Frame) (others : List Frame) : Type 0 where
  -- a call under way, of a function with a body, begins above the frame
  pub under_way : {code : Code Event} {passing : Passing}
      → IsUnderWay f code passing
      → passing.is_deferred ≡ false
      → (b : Body)
      → IsFunction p f.body passing.callee b
      → GoesTo p w g
      (λ frames. frames ≡ new_frame w.store b nothing_around ∷ (record f { waiting = None }) ∷ others)
  -- and one without comes back
  pub under_way_of_none : {code : Code Event} {passing : Passing}
      → IsUnderWay f code passing
      → passing.is_deferred ≡ false
      → HasNoBody p f.body passing.callee
      → LeadsTo p w g ((record f { waiting = None }) ∷ others)
  -- a deferred one is saved
  pub is_saved : {code : Code Event} {passing : Passing}
      → IsUnderWay f code passing
      → passing.is_deferred ≡ true
      → GoesTo p w g
      (λ frames. frames ≡ (record f { waiting = None; saved = saved_pass passing ∷ f.saved }) ∷ others)
  -- a saved one, of a function with a body, begins above the frame
  pub by_saved_pass : {passing : Passing} {left : List Saved}
      → RunsSaved f (saved_pass passing) left
      → (b : Body)
      → IsFunction p f.body passing.callee b
      → GoesTo p w g
      (λ frames. frames ≡ new_frame w.store b nothing_around ∷ (record f { saved = left }) ∷ others)
  -- and one without comes back
  pub by_saved_pass_of_none : {passing : Passing} {left : List Saved}
      → RunsSaved f (saved_pass passing) left
      → HasNoBody p f.body passing.callee
      → LeadsTo p w g ((record f { saved = left }) ∷ others)
  -- a function without a body may start work in a group that it was lent, before it comes back
  pub may_start : {passing : Passing} {y : Lent} {group : ℕ}
      → IsOutsideCall p f passing
      → Contains passing.lent y
      → y.group ≡ Some group
      → Joins p w group (λ frames. frames ≡ []) g (f ∷ others)

abbrev pub CallsHaveSteps : Type 0
CallsHaveSteps = (p : Program) (w : World) (g : ℕ) (f : Frame) (others : List Frame)
    → Run p w
    → w.stacks g ≡ f ∷ others
    → CallsGoOn p w g f others

-- Functions under `go`

-- no two of these have one position
abbrev pub AreApart : List Sent → Type 0
AreApart xs = (x y : Sent) → Contains xs x → Contains xs y → x.position ≡ y.position → x.number ≡ y.number

-- so it is of what a `go` statement sends
abbrev pub SentAreApart : Type 0
SentAreApart = (b : Body) (t : List (Occurrence Event)) (o : Occurrence Event) (callee : Callee) (xs : List Sent)
    → Reaches (code_of b) t o
    → o.event ≡ go (go_pass callee xs)
    → AreApart xs

-- a step by which the frame goes past the statement, and a free goroutine begins so
pub record SetsOffSo
    (p : Program) (w : World) (g : ℕ) (frames : List Frame) (BeginsSo : List Frame → Type 0)
    : Type 0 where
  pub next : World
  pub step : Step p w next
  pub goroutine : ℕ
  pub was_free : IsFree w goroutine
  pub begins : BeginsSo (next.stacks goroutine)
  pub goes_on : next.stacks g ≡ frames

-- Then a goroutine runs the function, if that has a body, or nothing is shown of it.
pub record GoesOff
    (p : Program) (w : World) (g : ℕ) (f : Frame) (others : List Frame) (callee : Callee) (rest : Code Event)
    : Type 0 where
  pub of_function : (b : Body)
      → IsFunction p f.body callee b
      → SetsOffSo p w g (at_code f rest ∷ others) (λ frames. frames ≡ new_frame w.store b nothing_around ∷ [])
  pub of_none : HasNoBody p f.body callee → GoesTo p w g (λ frames. frames ≡ at_code f rest ∷ others)

abbrev pub GoneFunctionsHaveSteps : Type 0
GoneFunctionsHaveSteps = (p : Program) (w : World) (g : ℕ) (f : Frame) (others : List Frame)
    (callee : Callee) (xs : List Sent) (rest : Code Event)
    → Run p w
    → w.stacks g ≡ f ∷ others
    → DoesNext f (go (go_pass callee xs)) rest
    → AreApart xs
    → GoesOff p w g f others callee rest

-- A body that runs go through hands cancel functions and groups to functions of packages that runs go through too, or
-- of none that counts as given. So no function of a package that counts is taken for one without a body because its
-- package belongs to the environment, and of such functions nothing is assumed.
abbrev pub HandsStayTrusted : Type 0
HandsStayTrusted = (p : Program) (b : Body) (t : List (Occurrence Event)) (o : Occurrence Event) (f : Callee) (home : ℕ)
    → HaveDistinctPaths p.packages
    → AreClosed p
    → IsOf p b
    → Reaches (code_of b) t o
    → HandsTo f o.event
    → IsNamed p b.home f.path home
    → counts (slice_get p.packages home) ≡ true
    → IsRun p home
