-- Files that words name, at most one of a kind, and what goes wrong where one is read.
use Rattle.std.specs.Prelude.{◌≡◌, ⊤, ℕ, List, [], ◌∷◌, string_bytes}
use Rattle.folders.specs.Names.{IsNameIn}
use Rattle.folders.specs.ReadFaults.{IsFaultIn}
use Rattle.folders.specs.declared.fault.Fault.{Fault}
use Rattle.folders.specs.declared.fault.Fault.TheVariants.{CannotRead, OutOfMemory}

-- words name one file, and this holds of its name
pub record OfOnly (names : List (List ℕ)) (holds : List ℕ → Type 0) : Type 0 where
  pub name : List ℕ
  pub is_only : names ≡ name ∷ []
  pub so : holds name

-- it was read, and its bytes have the fault
abbrev pub HaveFaultIn : (of_bytes : List ℕ → Fault → Type 0) → List (List ℕ) → Fault → Type 0
HaveFaultIn of_bytes names fault = OfOnly names (λ name. IsFaultIn name of_bytes fault)

-- it can't be read, and the line names it; or its bytes have a fault
abbrev pub IsNamedFault : (of_bytes : List ℕ → Fault → Type 0) → List (List ℕ) → Fault → Type 0
IsNamedFault of_bytes names (CannotRead text) = OfOnly names (λ name. IsNameIn name (string_bytes text))
IsNamedFault of_bytes names OutOfMemory = ⊤
IsNamedFault of_bytes names fault = HaveFaultIn of_bytes names fault
