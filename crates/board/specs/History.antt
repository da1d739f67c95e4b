-- The history of a board: what workers did with packages, one entry after the other, and how far the packages are by
-- it. A package is told by its place in the list of packages, from 0.
use Rattle.std.specs.Prelude.{ℕ, Bool, true, false, List, slice_set, replicate, fold}
use Rattle.board.specs.declared.entries.Entry.{Entry}
use Rattle.board.specs.declared.entries.Entry.TheVariants.{Take, Deliver, Back}
use Rattle.board.specs.declared.entries.Phase.{Phase}
use Rattle.board.specs.declared.entries.Phase.TheVariants.{Untaken, Taken, Delivered, GivenBack}

-- how far each package is, in the order of their places, and whether one was given back
pub record State : Type 0 where
  pub phases : List Phase
  pub stopped : Bool

-- nothing was done with so many packages
abbrev pub begun : ℕ → State
begun count = record { phases = replicate count Untaken; stopped = false }

-- what a worker makes of a state by what it does with a package
abbrev pub after : State → Entry → State
after s (Take worker place) = record { phases = slice_set s.phases place (Taken worker); stopped = s.stopped }
after s (Deliver worker place) = record { phases = slice_set s.phases place (Delivered worker); stopped = s.stopped }
after s (Back worker place) = record { phases = slice_set s.phases place (GivenBack worker); stopped = true }

-- what a history of so many packages comes to
abbrev pub state_of : ℕ → List Entry → State
state_of count history = fold after (begun count) history
