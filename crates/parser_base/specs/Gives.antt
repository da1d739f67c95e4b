-- What a function of the parser returns, compared with the reading of the same tokens. Where memory runs
-- out nothing is said.
use Rattle.std.specs.Prelude.{◌≡◌, Option, Some, None, Result, Ok, Err}
use Rattle.parser_base.specs.declared.fault.Stop.{Stop}
use Rattle.parser_base.specs.declared.fault.Stop.TheVariants.{Memory}

-- a fault other than of memory comes where nothing is read
abbrev pub Stops : {Y : Type 0} → Stop → Option Y → Type 0
Stops Memory read = Unit {0}
Stops fault read = read ≡ None

abbrev pub IsNoMemory : Stop → Type 0
IsNoMemory Memory = ⊥
IsNoMemory fault = Unit {0}

-- what was returned, seen by view, is what was read
abbrev pub Gives : {X Y : Type 0} → (X → Y) → Result X Stop → Option Y → Type 0
Gives view (Ok x) read = read ≡ Some (view x)
Gives view (Err e) read = Stops e read
