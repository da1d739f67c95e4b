-- What holds of every world of a run, with what is remembered of the run: who can start work in a group, what becomes
-- of each group that a frame made, and of each cancel function that it has to see to.
use Rattle.std.specs.Prelude.{ℕ}
use Rattle.meaning_runs.specs.Bodies.{Program}
use Rattle.meaning_runs.specs.World.{World}
use Rattle.meaning_runs.specs.Runs.{Run}
use Rattle.meaning_runs.proofs.Remembered.{Memory, memory_of}
use Rattle.meaning_runs.proofs.Holders.{IsHeld}
use Rattle.meaning_runs.proofs.MadeGroups.{AreSeenOver, Nothing}
use Rattle.meaning_runs.proofs.CaredFor.{AreCared, RootsGoOn}

-- the parts, each of which is proved by those before it
pub record IsFineWorld (p : Program) (w : World) (m : Memory) : Type 0 where
  pub held : IsHeld p w m
  pub groups : (g : ℕ) → AreSeenOver p m.origins w.store g Nothing Nothing (w.stacks g) (m.pasts g)
  pub functions : (g : ℕ) → AreCared p m.origins w.store Nothing (w.stacks g) (m.pasts g)
  pub roots : RootsGoOn p w m

abbrev pub RunsAreFine : Program → Type 0
RunsAreFine p = (least : ℕ) (w : World) (run : Run p w) → IsFineWorld p w (memory_of least run)
