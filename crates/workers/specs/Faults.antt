-- Why several helpers have no answer.
use Rattle.std.specs.Prelude.{ℕ, ◌<◌}
use Rattle.workers.specs.declared.helpers.PieceFault.{PieceFault}
use Rattle.workers.specs.declared.helpers.PieceFault.TheVariants.{Memory, Thread}

-- the fault where there are so many helpers: one needs no thread
abbrev pub IsFaultOf : ℕ → PieceFault → Type 0
IsFaultOf helpers Memory = Unit {0}
IsFaultOf helpers Thread = 1 < helpers
