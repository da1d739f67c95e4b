-- Which histories of a board are legal. A worker takes a package that has a rank and that nobody took, once all that it
-- imports was delivered, and as long as none was given back. What a worker took it delivers or gives back, once.
use Rattle.std.specs.Prelude.{ℕ, ◌≡◌, false, List, [], ◌∷◌, length, Option, Some, slice_get}
use Rattle.imports.specs.Ranks.{Package, Imports}
use Rattle.board.specs.declared.entries.Entry.{Entry}
use Rattle.board.specs.declared.entries.Entry.TheVariants.{Take, Deliver, Back}
use Rattle.board.specs.declared.entries.Phase.{Phase}
use Rattle.board.specs.declared.entries.Phase.TheVariants.{Untaken, Taken, Delivered}
use Rattle.board.specs.History.{State, begun, after}

-- the package has a rank
abbrev pub IsRanked : (ℕ → Option ℕ) → ℕ → Type 0
IsRanked rank place = (r : ℕ) × (rank place ≡ Some r)

-- some worker delivered the package
abbrev pub IsIn : List Phase → ℕ → Type 0
IsIn phases place = (worker : ℕ) × (slice_get phases place ≡ Some (Delivered worker))

-- all given packages that the package imports were delivered
abbrev pub AreImportsIn : List Package → List Phase → ℕ → Type 0
AreImportsIn packages phases place = (j : ℕ) → Imports packages place j → IsIn phases j

-- the package can be taken
pub record IsReady (packages : List Package) (rank : ℕ → Option ℕ) (phases : List Phase) (place : ℕ) : Type 0 where
  pub is_ranked : IsRanked rank place
  pub is_untaken : slice_get phases place ≡ Some Untaken
  pub imports_in : AreImportsIn packages phases place

-- what may be done in a state
abbrev pub MayFollow : List Package → (ℕ → Option ℕ) → State → Entry → Type 0
MayFollow packages rank s (Take worker place) = (s.stopped ≡ false) × IsReady packages rank s.phases place
MayFollow packages rank s (Deliver worker place) = slice_get s.phases place ≡ Some (Taken worker)
MayFollow packages rank s (Back worker place) = slice_get s.phases place ≡ Some (Taken worker)

-- these may be done one after the other, from a state on
abbrev pub IsLegalFrom : List Package → (ℕ → Option ℕ) → State → List Entry → Type 0
IsLegalFrom packages rank s [] = Unit {0}
IsLegalFrom packages rank s (e ∷ es) = MayFollow packages rank s e × IsLegalFrom packages rank (after s e) es

abbrev pub IsLegal : List Package → (ℕ → Option ℕ) → List Entry → Type 0
IsLegal packages rank history = IsLegalFrom packages rank (begun (length packages)) history
