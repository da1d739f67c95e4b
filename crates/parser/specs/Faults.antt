-- What a fault of a text says of its reading: nothing was read, and the offset lies in the text or at its end. Where
-- memory runs out nothing is said.
use Rattle.std.specs.Prelude.{◌≡◌, ℕ, ◌≤◌, List, length, Option, Some, None, Result, Ok, Err}
use Rattle.parser_base.specs.declared.fault.Stop.{Stop}
use Rattle.parser_base.specs.declared.fault.Stop.TheVariants.{Memory}
use Rattle.parser.specs.declared.fault.ParseFault.{ParseFault}
use Rattle.parser.specs.declared.fault.ParseFault.TheVariants.{Unexpected, LeftOut, TooDeep, OutOfMemory}

abbrev pub offset_of : ParseFault → ℕ
offset_of (Unexpected at) = at
offset_of (LeftOut form at) = at
offset_of (TooDeep at) = at
offset_of OutOfMemory = 0

abbrev pub IsNotRead : {Y : Type 0} → ParseFault → Option Y → Type 0
IsNotRead OutOfMemory read = Unit {0}
IsNotRead fault read = read ≡ None

abbrev pub Refuses : {Y : Type 0} → List ℕ → ParseFault → Option Y → Type 0
Refuses text fault read = IsNotRead fault read × (offset_of fault ≤ length text)

-- what was returned, seen by view, is what was read
abbrev pub GivesOrRefuses : {X Y : Type 0} → List ℕ → (X → Y) → Result X ParseFault → Option Y → Type 0
GivesOrRefuses text view (Ok x) read = read ≡ Some (view x)
GivesOrRefuses text view (Err fault) read = Refuses text fault read

-- the fault that a stop becomes
abbrev pub IsFaultOf : List ℕ → Stop → ParseFault → Type 0
IsFaultOf text Memory fault = fault ≡ OutOfMemory
IsFaultOf text stop fault = offset_of fault ≤ length text
