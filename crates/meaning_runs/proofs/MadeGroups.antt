-- What becomes of each group that a frame made: it is over (it has no member, its context has ended, and no frame above
-- can start work in it), or a Wait for it is saved, or the frame just above waits for it, or the newest cell of one of
-- the frame's variables holds it and the variable is live; or a goroutine was started that is known to wait for it. A frame of a deferred literal has the same duty for a
-- captured group that it is known to wait for.
use Rattle.std.specs.Prelude.{◌≡◌, ℕ, ◌<◌, ◌⊎◌, true, List, [], ◌∷◌, length, Option, Some, None, Contains}
use Rattle.meaning.specs.Code.{Occurrence, Code}
use Rattle.meaning.specs.FunctionFacts.{group}
use Rattle.meaning.specs.Tracked.{live}
use Rattle.meaning.specs.Uses.{Event, Handed}
use Rattle.meaning.specs.BodyEvents.{Variable}
use Rattle.meaning.specs.Classes.{Promises, unmade, in_state, awaited}
use Rattle.meaning_packages.specs.PathFaults.{PathFault, IsPathFault, paths_of, ComesToReturn}
use Rattle.meaning_runs.specs.Bodies.{Program, Body, variables_in}
use Rattle.meaning_runs.specs.World.{Place, outside, frame_at, Store, HasNoMember, Lent, Passing, Closure, Saved, saved_literal, saved_wait, runs, Frame, held_group}
use Rattle.meaning_runs.specs.Duties.{AreTakenUp, IsWaitingFor}
pub use Rattle.meaning_runs.proofs.GroupPaths.{group_class_of}
use Rattle.meaning_runs.proofs.WhoStarts.{IsOwnGroup}
use Rattle.meaning_runs.proofs.Remembered.{Root, Origins, Past}
use Rattle.meaning_runs.proofs.Holders.{WasLent}

-- What is relied on

-- on these promises nothing is found on the body's paths
pub record HasNoFaultUnder (p : Program) (b : Body) (relies : Promises) : Type 0 where
  pub are_taken_up : AreTakenUp p b relies
  pub none : (x : PathFault) → IsPathFault (paths_of b.file relies b.place) x → ⊥

-- on these promises the captured group is live at no return
pub record IsWaitedForUnder (p : Program) (b : Body) (relies : Promises) (v : Variable) : Type 0 where
  pub are_taken_up : AreTakenUp p b relies
  pub waits_for : IsWaitingFor b v
  pub never_live : (handed : List Handed) (t : List (Occurrence Event)) (o : Occurrence Event)
      → ComesToReturn (paths_of b.file relies b.place) t o handed
      → group_class_of relies v t ≡ in_state live
      → ⊥

-- What becomes of a group

-- the saved item is going to wait for the group
pub data SavesWait (o : Origins) (s : Store) (a : ℕ) : Saved → Type 0 where
  by_wait : {group : Option ℕ} → group ≡ Some a → SavesWait o s a (saved_wait group)
  by_literal : (c : Closure) (v : Variable) (k : ℕ)
      → IsWaitingFor c.literal v
      → c.newest v.number ≡ Some k
      → k < s.cell_count
      → o.is_frozen k ≡ true
      → s.holds k v.number ≡ Some a
      → SavesWait o s a (saved_literal c)

-- its work and its context have ended, and no frame above can start work in it
pub record IsOver (s : Store) (may : ℕ → Type 0) (a : ℕ) : Type 0 where
  pub has_no_member : HasNoMember s a
  pub has_ended : (context : ℕ) → s.group_context a ≡ Some context → Contains s.ended context
  pub is_untouched : may a → ⊥

-- a `go` statement started a goroutine, with a literal that is known to wait for it
pub record IsGone (o : Origins) (a : ℕ) : Type 0 where
  pub root : Root
  pub has_gone : o.has_gone ≡ true
  pub is_begun : Contains o.begun root
  pub literal : Body
  pub variable : Variable
  pub is_body : root.body ≡ Some literal
  pub waits_for : IsWaitingFor literal variable
  pub is_lent : root.lent variable.number ≡ Some a

-- the frame is known to wait for it
abbrev pub MustWait : Body → (ℕ → Option ℕ) → ℕ → Type 0
MustWait b lent a = (v : Variable) × IsWaitingFor b v × (lent v.number ≡ Some a)

-- the frame runs, the variable is live, and its newest cell holds the group
pub record IsLive
    (relies : Promises) (s : Store) (past : Past) (f : Frame) (v : Variable) (a : ℕ)
    : Type 0 where
  pub code : Code Event
  pub stage : f.stage ≡ runs code
  pub is_live : group_class_of relies v past.events ≡ in_state live
  pub is_held : held_group s f v.number ≡ Some a

-- `may`: what frames above can start work in; `must`: what the frame just above waits for
pub data IsSettled
    (relies : Promises) (o : Origins) (s : Store) (may must : ℕ → Type 0) (past : Past) (f : Frame) (v : Variable)
    (a : ℕ)
    : Type 0 where
  is_over : IsOver s may a → IsSettled relies o s may must past f v a
  is_saved : (x : Saved) → Contains f.saved x → SavesWait o s a x → IsSettled relies o s may must past f v a
  is_above : must a → IsSettled relies o s may must past f v a
  is_gone : IsGone o a → IsSettled relies o s may must past f v a
  is_live : IsLive relies s past f v a → IsSettled relies o s may must past f v a

-- work may be started in it by the frame, or its Wait is saved
pub data IsActive
    (relies : Promises) (o : Origins) (s : Store) (past : Past) (f : Frame) (v : Variable) (a : ℕ)
    : Type 0 where
  active_saved : (x : Saved) → Contains f.saved x → SavesWait o s a x → IsActive relies o s past f v a
  active_live : IsLive relies s past f v a → IsActive relies o s past f v a

pub record IsSeenOver
    (p : Program) (o : Origins) (s : Store) (place : Place) (may must : ℕ → Type 0) (past : Past) (f : Frame)
    : Type 0 where
  pub made : (relies : Promises) (a : ℕ) → HasNoFaultUnder p f.body relies
      → Contains f.made a
      → (v : Variable) × IsOwnGroup f.body v × IsSettled relies o s may must past f v a
  -- a captured group that the frame is known to wait for, and that a frame below made
  pub waits : (relies : Promises) (v : Variable) (a m : ℕ) → IsWaitedForUnder p f.body relies v
      → past.lent v.number ≡ Some a
      → s.maker a ≡ frame_at (place.0, m)
      → m < place.1
      → IsSettled relies o s may must past f v a
  -- a literal that waits is lent nothing
  pub apart : (v : Variable) (a b : ℕ) → IsWaitingFor f.body v
      → past.lent v.number ≡ Some a
      → WasLent f.body past.lent b
      → s.maker b ≡ outside
  pub awaits : (relies : Promises) (c : Code Event) (v : Variable) (a : ℕ) → AreTakenUp p f.body relies
      → Contains (variables_in f.body) v
      → v.kind ≡ group
      → f.stage ≡ runs c
      → group_class_of relies v past.events ≡ awaited
      → held_group s f v.number ≡ Some a
      → (x : Saved) × Contains f.saved x × SavesWait o s a x
  -- what a call under way lends of what the frame made
  pub lent_active : (relies : Promises) (passing : Passing) (y : Lent) (a : ℕ) → HasNoFaultUnder p f.body relies
      → f.waiting ≡ Some passing
      → Contains passing.lent y
      → y.group ≡ Some a
      → Contains f.made a
      → (v : Variable) × IsOwnGroup f.body v × IsActive relies o s past f v a
  pub unmade_yet : (relies : Promises) (v : Variable) → IsOwnGroup f.body v
      → group_class_of relies v past.events ≡ unmade
      → held_group s f v.number ≡ None

-- what it can start work in too, if work is started by frames above
abbrev pub MayAlso : Body → (ℕ → Option ℕ) → (ℕ → Type 0) → ℕ → Type 0
MayAlso b lent may a = WasLent b lent a ⊎ may a

abbrev pub AreSeenOver : Program → Origins → Store → ℕ → (ℕ → Type 0) → (ℕ → Type 0) → List Frame → List Past → Type 0
AreSeenOver p o s g may must [] qs = Unit {0}
AreSeenOver p o s g may must (f ∷ fs) [] = ⊥
AreSeenOver p o s g may must (f ∷ fs) (q ∷ qs) =
    IsSeenOver p o s (g, length fs) may must q f
    × AreSeenOver p o s g (MayAlso f.body q.lent may) (MustWait f.body q.lent) fs qs

-- above the running frame
abbrev pub Nothing : ℕ → Type 0
Nothing a = ⊥
