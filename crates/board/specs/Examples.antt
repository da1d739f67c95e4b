-- The answers to two workers, 1 and 2, with two packages of which the second one imports the first: each answer is the
-- only one that is allowed.
use Rattle.std.specs.Prelude.{ℕ, zero, suc, ◌≡◌, List, [], ◌∷◌, Option, Some, None}
use Rattle.imports.specs.Ranks.{Package, IsOrder}
use Rattle.board.specs.declared.entries.Entry.{Entry}
use Rattle.board.specs.declared.entries.Entry.TheVariants.{Take, Deliver, Back}
use Rattle.board.specs.declared.entries.Task.{Task}
use Rattle.board.specs.declared.entries.Task.TheVariants.{Work, Wait, Over}
use Rattle.board.specs.declared.entries.DeliverFault.{DeliverFault}
use Rattle.board.specs.declared.entries.DeliverFault.TheVariants.{NotTaken, TakenByAnother, AlreadyClosed}
use Rattle.board.specs.History.{state_of}
use Rattle.board.specs.Legal.{IsLegal}
use Rattle.board.specs.Answers.{IsTask, refusal_in}

-- `a`, and `b`, which imports it
abbrev pub package_a : Package
package_a = record { path = 97 ∷ []; imports = [] }

abbrev pub package_b : Package
package_b = record { path = 98 ∷ []; imports = (97 ∷ []) ∷ [] }

abbrev pub two : List Package
two = package_a ∷ package_b ∷ []

abbrev pub rank_of_two : ℕ → Option ℕ
rank_of_two zero = Some 0
rank_of_two (suc zero) = Some 1
rank_of_two (suc (suc place)) = None

-- after that history a worker is told this, and nothing else
abbrev pub IsTold : List Entry → Task → Type 0
IsTold history task =
    IsTask two rank_of_two (state_of 2 history) task
    × ((other : Task) → IsTask two rank_of_two (state_of 2 history) other → other ≡ task)

abbrev pub refusal : List Entry → ℕ → ℕ → Option DeliverFault
refusal history worker place = refusal_in rank_of_two (state_of 2 history) worker place

-- the histories, one after the other
abbrev pub one_entry : List Entry
one_entry = Take 1 0 ∷ []

abbrev pub two_entries : List Entry
two_entries = Take 1 0 ∷ Deliver 1 0 ∷ []

abbrev pub three_entries : List Entry
three_entries = Take 1 0 ∷ Deliver 1 0 ∷ Take 2 1 ∷ []

abbrev pub all_entries : List Entry
all_entries = Take 1 0 ∷ Deliver 1 0 ∷ Take 2 1 ∷ Back 2 1 ∷ []

pub record AreTold : Type 0 where
  pub are_ranks : IsOrder two rank_of_two (0 ∷ 1 ∷ [])
  pub too_early : refusal [] 1 0 ≡ Some NotTaken
  pub first_works : IsTold [] (Work 0)
  pub second_waits : IsTold one_entry Wait
  pub not_its_own : refusal one_entry 2 0 ≡ Some TakenByAnother
  pub delivers : refusal one_entry 1 0 ≡ None
  pub once_more : refusal two_entries 1 0 ≡ Some AlreadyClosed
  pub second_works : IsTold two_entries (Work 1)
  pub gives_back : refusal three_entries 2 1 ≡ None
  pub not_its_own_either : refusal all_entries 1 1 ≡ Some TakenByAnother
  pub too_late : refusal all_entries 2 1 ≡ Some AlreadyClosed
  pub is_over : IsTold all_entries Over
  pub is_legal : IsLegal two rank_of_two all_entries
