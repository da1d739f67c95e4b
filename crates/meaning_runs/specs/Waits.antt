-- What is proved of Waits: one ends only where its group has no member, and then the group's context is done.
-- (The documentation of `golang.org/x/sync/errgroup`.)
use Rattle.std.specs.Prelude.{◌≡◌, ℕ, List, Some, Contains}
use Rattle.meaning.specs.Code.{Occurrence}
use Rattle.meaning.specs.Uses.{Event, wait}
use Rattle.meaning_runs.specs.Bodies.{Program}
use Rattle.meaning_runs.specs.World.{Place, Store, IsDone, HasNoMember, Saved, saved_wait, Frame, held_group}
use Rattle.meaning_runs.specs.Steps.{RunsSaved, Acts}
use Rattle.meaning_runs.specs.RunLists.{events_of_act}

-- a Wait for the group ends, in the store before it and the one after
pub record EndsWait (s after : Store) (group : ℕ) : Type 0 where
  pub no_member : HasNoMember s group
  pub context_is_done : (a : ℕ) → s.group_context group ≡ Some a → IsDone after a

pub record WaitsWait (p : Program) (s : Store) (place : Place) (f : Frame) (after : Store) (frames : List Frame)
    : Type 0 where
  -- where the frame goes on by the event of a Wait
  pub by_event : (act : Acts p s place f after frames) (o : Occurrence Event) (v group : ℕ)
      → Contains (events_of_act act) o
      → o.event ≡ wait v
      → held_group s f v ≡ Some group
      → EndsWait s after group
  -- where a Wait is the last that it saved, it goes on by nothing else
  pub by_saved_wait : {group : ℕ} {left : List Saved}
      → Acts p s place f after frames
      → RunsSaved f (saved_wait (Some group)) left
      → EndsWait s after group

abbrev pub AllWaitsWait : Type 0
AllWaitsWait = (p : Program) (s : Store) (place : Place) (f : Frame) (after : Store) (frames : List Frame)
    → WaitsWait p s place f after frames
