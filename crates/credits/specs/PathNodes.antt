-- The classes that arrive in a body, node by node.
use Rattle.std.specs.Prelude.{ℕ, Bool}
use Rattle.bodies.specs.AtNodes.{ClassifiesNodes}
use Rattle.meaning.specs.Classes.{CancelClass, GroupClass}
use Rattle.meaning_packages.specs.PathFaults.{Paths}

-- the table has, for each node of the graph of the paths, exactly the classes that walks carry there
abbrev pub TellsNodes : Paths → (ℕ → ℕ → CancelClass → Bool) → (ℕ → ℕ → GroupClass → Bool) → Type 0
TellsNodes b cancels groups = ClassifiesNodes b.code b.promises b.variables cancels groups
