-- What the code keeps of a board, and what is so of it.
use Rattle.std.specs.Prelude.{ℕ, ◌≡◌, ◌*◌, ◌≤◌, Bool, false, List, [], Option, Some, None, IsSome, length, slice_get, sum_by}
use Rattle.imports.specs.Ranks.{Package, IsOrder}
use Rattle.imports.specs.Settling.{given_imports}
use Rattle.board.specs.declared.entries.Entry.{Entry}
use Rattle.board.specs.declared.entries.Phase.{Phase}
use Rattle.board.specs.declared.entries.Phase.TheVariants.{Untaken, Taken, Delivered, GivenBack}
use Rattle.board.specs.History.{state_of}
use Rattle.board.specs.Legal.{IsLegal}
use Rattle.board.specs.Answers.{flat}
use Rattle.board.specs.Ready.{Listing, Stands}
use Rattle.board.specs.Importers.{AreImporters}

-- what came of the package at that place
abbrev pub kept_at : {X : Type 0} → List (Option X) → ℕ → Option X
kept_at outcomes place = flat (slice_get outcomes place)

abbrev pub IsKept : {X : Type 0} → List (Option X) → ℕ → Type 0
IsKept outcomes place = IsSome (kept_at outcomes place)

-- how many entries a package that is so far has in the history
abbrev pub times_in : Phase → ℕ
times_in Untaken = 0
times_in (Taken worker) = 1
times_in (Delivered worker) = 2
times_in (GivenBack worker) = 2

-- whether it was taken, and is still to come
abbrev pub times_open : Phase → ℕ
times_open Untaken = 0
times_open (Taken worker) = 1
times_open (Delivered worker) = 0
times_open (GivenBack worker) = 0

abbrev pub HasNoBack : List Phase → Type 0
HasNoBack phases = (place worker : ℕ) → slice_get phases place ≡ Some (GivenBack worker) → ⊥

-- something came of a package just where it was delivered, and it is of that package
abbrev pub Fits : {X : Type 0} → (X → ℕ) → ℕ → Phase → Option X → Type 0
Fits place_of place Untaken None = Unit {0}
Fits place_of place Untaken (Some x) = ⊥
Fits place_of place (Taken worker) None = Unit {0}
Fits place_of place (Taken worker) (Some x) = ⊥
Fits place_of place (Delivered worker) None = ⊥
Fits place_of place (Delivered worker) (Some x) = place_of x ≡ place
Fits place_of place (GivenBack worker) None = Unit {0}
Fits place_of place (GivenBack worker) (Some x) = ⊥

abbrev pub AllFit : {X : Type 0} → (X → ℕ) → List Phase → List (Option X) → Type 0
AllFit {X} place_of phases outcomes =
    (place : ℕ) (phase : Phase) (outcome : Option X) → slice_get phases place ≡ Some phase
    → slice_get outcomes place ≡ Some outcome → Fits place_of place phase outcome

-- the fields of a board
pub record Fields (X : Type 0) : Type 0 where
  pub rows : List (List ℕ)
  pub rank : ℕ → Option ℕ
  pub ranked : List ℕ
  pub importers : List (List ℕ)
  pub phases : List Phase
  pub outcomes : List (Option X)
  pub history : List Entry
  pub capacity : ℕ
  pub stopped : Bool
  pub pending : ℕ
  pub listing : Listing

-- The phases are what the history comes to, the history is legal, and there is room for all that is to come.
pub record IsBoard {X : Type 0} (packages : List Package) (rank : ℕ → Option ℕ) (place_of : X → ℕ) (b : Fields X)
    : Type 0 where
  pub are_rows : b.rows ≡ given_imports packages
  pub is_rank : b.rank ≡ rank
  pub is_order : IsOrder packages rank b.ranked
  pub are_importers : AreImporters b.rows b.importers
  pub are_phases : b.phases ≡ (state_of (length packages) b.history).phases
  pub is_stopped : b.stopped ≡ (state_of (length packages) b.history).stopped
  pub is_legal : IsLegal packages rank b.history
  pub are_as_many : length b.phases ≡ length packages
  pub outcomes_as_many : length b.outcomes ≡ length packages
  pub all_fit : AllFit place_of b.phases b.outcomes
  pub is_counted : length b.history ≡ sum_by times_in b.phases
  pub has_room : 2 * length packages ≤ b.capacity
  pub no_back : b.stopped ≡ false → HasNoBack b.phases
  pub is_pending : b.pending ≡ sum_by times_open b.phases
  pub stands : Stands b.rows b.rank b.phases [] b.listing
