-- What a board answers, and what it is then. Contracts see of a board its history, and what came of each package.
use Rattle.std.specs.Prelude.{ℕ, ◌≡◌, ◌==◌, ◌⊎◌, true, false, List, [], ◌∷◌, ◌++◌, Option, Some, None, Result, Ok, Err, if◌then◌else◌, length, slice_get, slice_set, replicate}
use Rattle.imports.specs.Ranks.{Package}
use Rattle.board.specs.declared.entries.Entry.{Entry}
use Rattle.board.specs.declared.entries.Entry.TheVariants.{Take, Deliver, Back}
use Rattle.board.specs.declared.entries.Phase.{Phase}
use Rattle.board.specs.declared.entries.Phase.TheVariants.{Untaken, Taken, Delivered, GivenBack}
use Rattle.board.specs.declared.entries.Task.{Task}
use Rattle.board.specs.declared.entries.Task.TheVariants.{Work, Wait, Over}
use Rattle.board.specs.declared.entries.DeliverFault.{DeliverFault}
use Rattle.board.specs.declared.entries.DeliverFault.TheVariants.{Stranger, NotTaken, TakenByAnother, AlreadyClosed}
use Rattle.board.specs.History.{State, state_of}
use Rattle.board.specs.Legal.{IsRanked, IsIn, IsReady, AreImportsIn}

-- A board

-- what was done, and what came of each package, by its place
pub record Board (X : Type 0) : Type 0 where
  pub history : List Entry
  pub outcomes : List (Option X)

module _ {X : Type 0} where
  -- a board of so many packages with which nothing was done
  abbrev pub opened : ℕ → Board X
  opened count = record { history = []; outcomes = replicate count None }

  abbrev pub state_in : List Package → Board X → State
  state_in packages board = state_of (length packages) board.history

  -- what there is, where there is something
  abbrev pub flat : Option (Option X) → Option X
  flat None = None
  flat (Some o) = o

  -- what came of the package
  abbrev pub outcome_in : Board X → ℕ → Option X
  outcome_in board place = flat (slice_get board.outcomes place)

  -- the board with one entry more, at the end
  abbrev pub adds : Board X → Entry → Board X
  adds board e = record { history = board.history ++ e ∷ []; outcomes = board.outcomes }

  -- the board with what came of the package too
  abbrev pub delivers : Board X → ℕ → ℕ → X → Board X
  delivers board worker place x = record {
    history = board.history ++ Deliver worker place ∷ [];
    outcomes = slice_set board.outcomes place (Some x);
  }

-- To a worker that asks what to do

-- none can be taken, and one was taken that is still to come
pub record IsWaiting (packages : List Package) (rank : ℕ → Option ℕ) (s : State) : Type 0 where
  pub goes_on : s.stopped ≡ false
  pub none_ready : (place : ℕ) → IsReady packages rank s.phases place → ⊥
  pub place : ℕ
  pub worker : ℕ
  pub is_taken : slice_get s.phases place ≡ Some (Taken worker)

-- one was given back, or all that have a rank were delivered
abbrev pub IsOver : (ℕ → Option ℕ) → State → Type 0
IsOver rank s = (s.stopped ≡ true) ⊎ ((place : ℕ) → IsRanked rank place → IsIn s.phases place)

abbrev pub IsTask : List Package → (ℕ → Option ℕ) → State → Task → Type 0
IsTask packages rank s (Work place) = (s.stopped ≡ false) × IsReady packages rank s.phases place
IsTask packages rank s Wait = IsWaiting packages rank s
IsTask packages rank s Over = IsOver rank s

-- what the worker is to judge can be judged: all that it imports was delivered
abbrev pub CanBeJudged : List Package → List Phase → Task → Type 0
CanBeJudged packages phases (Work place) = AreImportsIn packages phases place
CanBeJudged packages phases Wait = Unit {0}
CanBeJudged packages phases Over = Unit {0}

-- the board after that answer
abbrev pub told : {X : Type 0} → Board X → ℕ → Task → Board X
told board worker (Work place) = adds board (Take worker place)
told board worker Wait = board
told board worker Over = board

-- To a worker that delivers a package, or gives it back

-- why it can't, where the package has a rank, by how far the package is
abbrev pub refusal_by : ℕ → Option Phase → Option DeliverFault
refusal_by worker None = Some Stranger
refusal_by worker (Some Untaken) = Some NotTaken
refusal_by worker (Some (Taken taker)) = if taker == worker then None else Some TakenByAnother
refusal_by worker (Some (Delivered taker)) = if taker == worker then Some AlreadyClosed else Some TakenByAnother
refusal_by worker (Some (GivenBack taker)) = if taker == worker then Some AlreadyClosed else Some TakenByAnother

-- why it can't, by the package's rank too
abbrev pub refusal_at : Option ℕ → ℕ → Option Phase → Option DeliverFault
refusal_at None worker phase = Some Stranger
refusal_at (Some r) worker phase = refusal_by worker phase

abbrev pub refusal_in : (ℕ → Option ℕ) → State → ℕ → ℕ → Option DeliverFault
refusal_in rank s worker place = refusal_at (rank place) worker (slice_get s.phases place)

-- what was delivered is kept, or given back with the fault, and then nothing changes
abbrev pub IsDelivery :
    {X : Type 0} → Option DeliverFault → Board X → Board X → ℕ → ℕ → X → Result (Unit {0}) (DeliverFault × X) → Type 0
IsDelivery None old new worker place x answer = (answer ≡ Ok tt) × (new ≡ delivers old worker place x)
IsDelivery (Some fault) old new worker place x answer = (answer ≡ Err (fault, x)) × (new ≡ old)

abbrev pub IsReturn :
    {X : Type 0} → Option DeliverFault → Board X → Board X → ℕ → ℕ → Result (Unit {0}) DeliverFault → Type 0
IsReturn None old new worker place answer = (answer ≡ Ok tt) × (new ≡ adds old (Back worker place))
IsReturn (Some fault) old new worker place answer = (answer ≡ Err fault) × (new ≡ old)
