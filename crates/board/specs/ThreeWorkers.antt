-- The answers to three workers, 1, 2 and 3, with three packages that import nothing: each gets a package that nobody
-- has. The first gives its package back. The others can still deliver theirs, and whoever asks from then on is told
-- that it is over.
use Rattle.std.specs.Prelude.{ℕ, zero, suc, ◌≡◌, List, [], ◌∷◌, Option, Some, None, Contains}
use Rattle.imports.specs.Ranks.{Package, IsOrder}
use Rattle.board.specs.declared.entries.Entry.{Entry}
use Rattle.board.specs.declared.entries.Entry.TheVariants.{Take, Deliver, Back}
use Rattle.board.specs.declared.entries.Task.{Task}
use Rattle.board.specs.declared.entries.Task.TheVariants.{Work, Wait, Over}
use Rattle.board.specs.declared.entries.DeliverFault.{DeliverFault}
use Rattle.board.specs.declared.entries.DeliverFault.TheVariants.{AlreadyClosed}
use Rattle.board.specs.History.{state_of}
use Rattle.board.specs.Legal.{IsLegal}
use Rattle.board.specs.Answers.{IsTask, refusal_in}

abbrev pub alone : List ℕ → Package
alone path = record { path = path; imports = [] }

-- `a`, `b` and `c`
abbrev pub three : List Package
three = alone (97 ∷ []) ∷ alone (98 ∷ []) ∷ alone (99 ∷ []) ∷ []

abbrev pub rank_of_three : ℕ → Option ℕ
rank_of_three zero = Some 0
rank_of_three (suc zero) = Some 1
rank_of_three (suc (suc zero)) = Some 2
rank_of_three (suc (suc (suc place))) = None

abbrev pub MayBeTold : List Entry → Task → Type 0
MayBeTold history task = IsTask three rank_of_three (state_of 3 history) task

-- after that history a worker is told this, and nothing else
abbrev pub IsToldAlone : List Entry → Task → Type 0
IsToldAlone history task = MayBeTold history task × ((other : Task) → MayBeTold history other → other ≡ task)

-- after that history a worker is told to judge any one of these packages, and nothing else
pub record IsGivenOneOf (places : List ℕ) (history : List Entry) : Type 0 where
  pub each : (place : ℕ) → Contains places place → MayBeTold history (Work place)
  pub no_other : (task : Task) → MayBeTold history task → (place : ℕ) × Contains places place × (task ≡ Work place)

abbrev pub refused : List Entry → ℕ → ℕ → Option DeliverFault
refused history worker place = refusal_in rank_of_three (state_of 3 history) worker place

-- the histories, one after the other
abbrev pub one_taken : List Entry
one_taken = Take 1 0 ∷ []

abbrev pub two_taken : List Entry
two_taken = Take 1 0 ∷ Take 2 1 ∷ []

abbrev pub all_taken : List Entry
all_taken = Take 1 0 ∷ Take 2 1 ∷ Take 3 2 ∷ []

abbrev pub one_back : List Entry
one_back = Take 1 0 ∷ Take 2 1 ∷ Take 3 2 ∷ Back 1 0 ∷ []

abbrev pub one_in : List Entry
one_in = Take 1 0 ∷ Take 2 1 ∷ Take 3 2 ∷ Back 1 0 ∷ Deliver 2 1 ∷ []

abbrev pub all_done : List Entry
all_done = Take 1 0 ∷ Take 2 1 ∷ Take 3 2 ∷ Back 1 0 ∷ Deliver 2 1 ∷ Deliver 3 2 ∷ []

pub record AreStopped : Type 0 where
  pub are_ranks : IsOrder three rank_of_three (0 ∷ 1 ∷ 2 ∷ [])
  pub first : IsGivenOneOf (0 ∷ 1 ∷ 2 ∷ []) []
  pub second : IsGivenOneOf (1 ∷ 2 ∷ []) one_taken
  pub third : IsGivenOneOf (2 ∷ []) two_taken
  pub waits : IsToldAlone all_taken Wait
  pub gives_back : refused all_taken 1 0 ≡ None
  pub stops_at_once : IsToldAlone one_back Over
  pub second_delivers : refused one_back 2 1 ≡ None
  pub third_delivers : refused one_in 3 2 ≡ None
  pub too_late : refused all_done 1 0 ≡ Some AlreadyClosed
  pub is_over : IsToldAlone all_done Over
  pub is_legal : IsLegal three rank_of_three all_done
