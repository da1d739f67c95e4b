-- A run is a list of steps from the empty world. A frame owes the cancel functions that its variables obtained, that
-- its return doesn't hand on, and that it gave to nobody in a field; a verdict tells of these fields. Its return is
-- quiet if, at that moment, each function that it owes was called, and its context is done with all that come from it;
-- and if the work of each group that the frame made has ended, with the group's context. In the second edition a return
-- is settled if each function that it owes was called, or a goroutine was started whose function sees to it; and if the
-- work of each group has ended, or a goroutine was started that waits for it before it returns. A function sees to a
-- cancel function if at each of its returns it has been called, or a goroutine was started that calls it, or whose
-- function sees to it.
-- (The documentation of `context` and `golang.org/x/sync/errgroup`; the Go specification, "Go statements".)
use Rattle.std.specs.Prelude.{◌≡◌, ℕ, ◌⊎◌, Bool, true, false, if◌then◌else◌, List, [], ◌∷◌, Option, Some, slice_get, Contains}
use Rattle.tree.specs.declared.edition.Edition.TheVariants.{First}
use Rattle.meaning_reports.specs.Loaded.{LoadedPackage}
use Rattle.meaning.specs.BodyEvents.{Variable}
use Rattle.meaning_runs.specs.Bodies.{Program, Body, IsRun, is_parameter_of}
use Rattle.meaning_runs.specs.Duties.{IsWaitingFor}
use Rattle.meaning_runs.specs.World.{cancel_function, Store, ComesFrom, IsDone, HasNoMember, Frame, World, empty_world, put_at, group_in_cell, nothing_around}
use Rattle.meaning_runs.specs.Steps.{IsAtEnd, ChangesMembers, starts_member, starts_stranger, starts_outside, starts_beside, leaves_group, StartsGoroutine, starts_call, starts_function, starts_foreign, starts_its_literal, Surrounds, starts, evaluates_literal, starts_literal, makes_cells, makes_one, ends_one, calls_any, makes_outside, joins_outside, Step, of_goroutine, of_members, of_go, of_environment}

pub data Run (p : Program) : World → Type 0 where
  no_step : Run p empty_world
  step_more : {w next : World} → Run p w → Step p w next → Run p next

-- a goroutine's running frame has come to a return, and all that it saved has run
pub record IsReturning (w : World) (f : Frame) : Type 0 where
  pub goroutine : ℕ
  pub others : List Frame
  pub is_running : w.stacks goroutine ≡ f ∷ others
  pub is_at_end : IsAtEnd f

-- the frame has to see to it that the function is called
pub record Owes (f : Frame) (a : ℕ) : Type 0 where
  pub was_obtained : Contains f.obtained a
  pub is_kept : Contains f.handed_on (cancel_function a) → ⊥
  pub is_its_own : Contains f.given_away (cancel_function a) → ⊥

pub record IsQuiet (w : World) (f : Frame) : Type 0 where
  pub called : (a : ℕ) → Owes f a → Contains w.store.called a
  pub done : (a b : ℕ) → Owes f a → ComesFrom w.store a b → IsDone w.store b
  pub ended : (group : ℕ) → Contains f.made group → HasNoMember w.store group
  pub groups_done : (group a : ℕ) → Contains f.made group → w.store.group_context group ≡ Some a → IsDone w.store a

-- Goroutines that see to it

module _ {p : Program} {w : World} where
  abbrev pub started_as_member : {next : World} → ChangesMembers p w next → (ℕ → Bool) → ℕ → Bool
  started_as_member (starts_member g h b values groups work free is_in is_at foreign) was = put_at was h true
  started_as_member (starts_stranger g h work free) was = was
  started_as_member (starts_outside g h running call lent is free) was = was
  started_as_member (starts_beside g h member none free) was = was
  started_as_member (leaves_group g member none) was = was

  abbrev pub started_by_go : {next : World} → StartsGoroutine p w next → (ℕ → Bool) → ℕ → Bool
  started_by_go (starts_call g sets) was = was
  started_by_go (starts_function g h b values groups sets free is fits) was = put_at was h true
  started_by_go (starts_foreign g sets no_body) was = was
  started_by_go (starts_its_literal g h b values groups sets free is_in is_at foreign) was = put_at was h true

  abbrev pub started_outside : {next : World} → Surrounds p w next → (ℕ → Bool) → ℕ → Bool
  started_outside (starts g b values groups free of outermost foreign) was = put_at was g false
  started_outside (evaluates_literal g f b among escapes) was = was
  started_outside (starts_literal g c values groups free among foreign) was = put_at was g false
  started_outside (makes_cells values groups foreign) was = was
  started_outside (makes_one parent earlier) was = was
  started_outside (ends_one a within) was = was
  started_outside (calls_any a within) was = was
  started_outside (makes_outside context earlier) was = was
  started_outside (joins_outside g a free made) was = was

  abbrev pub started_after : {next : World} → Step p w next → (ℕ → Bool) → ℕ → Bool
  started_after (of_goroutine g running acts) was = was
  started_after (of_members changes) was = started_as_member changes was
  started_after (of_go going) was = started_by_go going was
  started_after (of_environment surrounds) was = started_outside surrounds was

-- what the goroutine runs was started by a `go` statement, or as a member of a group
abbrev pub was_started : {p : Program} {w : World} → Run p w → ℕ → Bool
was_started no_step = λ g. false
was_started (step_more run step) = started_after step (was_started run)

-- The run goes on, and after each step the goroutine has a frame, so that its lowest one stays the same activation.
pub data KeepsRunning (p : Program) (g : ℕ) (w : World) (run : Run p w) : (later : World) → Run p later → Type 0 where
  not_yet : KeepsRunning p g w run w run
  runs_on : {next last : World} {more : Run p next}
      → KeepsRunning p g w run next more
      → (step : Step p next last)
      → (last.stacks g ≡ [] → ⊥)
      → KeepsRunning p g w run last (step_more more step)

-- Now it is so; or some goroutine that was started runs, and whenever its function, which is the lowest frame, comes to
-- its return, it is so or is seen to by another one in turn.
pub data IsSeenTo (p : Program) (IsSo : World → Type 0) : (w : World) → Run p w → Type 0 where
  is_so : {w : World} {run : Run p w} → IsSo w → IsSeenTo p IsSo w run
  by_goroutine : {w : World} {run : Run p w} (g : ℕ)
      → was_started run g ≡ true
      → (w.stacks g ≡ [] → ⊥)
      → ((later : World) (more : Run p later) (f : Frame)
      → KeepsRunning p g w run later more
      → later.stacks g ≡ f ∷ []
      → IsAtEnd f
      → IsSeenTo p IsSo later more)
      → IsSeenTo p IsSo w run

-- it was called, so that its context is done with all that come from it; or a goroutine was started that calls it
pub data IsCalledFor (a : ℕ) (w : World) : Type 0 where
  was_called : Contains w.store.called a → IsCalledFor a w
  is_to_call : Contains w.to_call a → IsCalledFor a w

-- it has no member, and its context is done
pub record IsAtRest (group : ℕ) (w : World) : Type 0 where
  pub has_no_member : HasNoMember w.store group
  pub is_done : (a : ℕ) → w.store.group_context group ≡ Some a → IsDone w.store a

-- what a goroutine was started with by a `go` statement, or as a member: its body, and the groups that its variables
-- held then
pub record Started : Type 0 where
  pub body : Body
  pub lent : ℕ → Option ℕ

-- a parameter gets its group, and what is captured holds what it held in the frame
abbrev pub started_with : Store → Body → (ℕ → Option ℕ) → (ℕ → Option ℕ) → Started
started_with s b groups around = record {
  body = b;
  lent = λ v. if is_parameter_of b v then groups v else group_in_cell s v (around v);
}

module _ {p : Program} {w : World} where
  abbrev pub and_members : {next : World} → ChangesMembers p w next → List Started → List Started
  and_members (starts_member {f = f} g h b values groups work free is_in is_at foreign) l =
      started_with w.store b groups f.newest ∷ l
  and_members (starts_stranger g h work free) l = l
  and_members (starts_outside g h running call lent is free) l = l
  and_members (starts_beside g h member none free) l = l
  and_members (leaves_group g member none) l = l

  abbrev pub and_goings : {next : World} → StartsGoroutine p w next → List Started → List Started
  and_goings (starts_call g sets) l = l
  and_goings (starts_function g h b values groups sets free is fits) l =
      started_with w.store b groups nothing_around ∷ l
  and_goings (starts_foreign g sets no_body) l = l
  and_goings (starts_its_literal {f = f} g h b values groups sets free is_in is_at foreign) l =
      started_with w.store b groups f.newest ∷ l

  abbrev pub and_step : {next : World} → Step p w next → List Started → List Started
  and_step (of_goroutine g running acts) l = l
  and_step (of_members changes) l = and_members changes l
  and_step (of_go going) l = and_goings going l
  and_step (of_environment surrounds) l = l

abbrev pub started_in : {p : Program} {w : World} → Run p w → List Started
started_in no_step = []
started_in (step_more run step) = and_step step (started_in run)

-- A goroutine was started that waits for the group before it returns: its literal captured it, and none of the lists of
-- its events that come to a return leaves it live.
pub record IsAwaited (p : Program) (w : World) (run : Run p w) (group : ℕ) : Type 0 where
  pub started : Started
  pub variable : Variable
  pub is_started : Contains (started_in run) started
  pub waits_for : IsWaitingFor started.body variable
  pub is_held : started.lent variable.number ≡ Some group

-- at the return of a frame
pub record IsSettled (p : Program) (w : World) (run : Run p w) (f : Frame) : Type 0 where
  pub functions : (a : ℕ) → Owes f a → IsSeenTo p (IsCalledFor a) w run
  pub groups : (group : ℕ) → Contains f.made group → IsAtRest group w ⊎ IsAwaited p w run group

-- each package that runs is of the first edition
abbrev pub IsOfFirst : Program → Type 0
IsOfFirst p = (i : ℕ) (q : LoadedPackage) → IsRun p i → slice_get p.packages i ≡ Some q → q.edition ≡ First

-- What is promised of a return: in the first edition that it is quiet, in the second that it is settled.
pub record IsAsPromised (p : Program) (w : World) (run : Run p w) (f : Frame) : Type 0 where
  pub in_first : IsOfFirst p → IsQuiet w f
  pub in_each : IsSettled p w run f

-- In every run each return of a frame of the package that is looked at is as promised. Runs have two premises on
-- functions without a body. What is declared of one is true when it returns (`DeclaredIsTrue`). And it starts work in a
-- group that it was lent only before it returns (`IsOutsideCall`), while what it started there may start more
-- (`starts_beside`). Runs have one premise on fields: what an object keeps is what its field holds (`InObject`), so
-- nothing else is put there before the field is called or the object is given to others. And `x.f` names that same
-- field until then: where it is that of an embedded pointer, the pointer isn't changed either; where x is a pointer
-- whose type is written by another name or in brackets, x gets no other value by its address; in `T{f: c}` f is a
-- field, and no key of a map, also where f is the name of a cancel variable; and `go x.m()` and `defer x.m()` call a
-- method, where the package declares one of that name.
abbrev pub IsQuietProgram : Program → Type 0
IsQuietProgram p = (w : World) (f : Frame)
    → (run : Run p w)
    → IsReturning w f
    → f.body.home ≡ p.looked_at
    → IsAsPromised p w run f
