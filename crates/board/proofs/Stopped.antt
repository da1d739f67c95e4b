-- Three workers with three packages that import nothing: each gets another one, and all stop once one was given back.
use Rattle.std.proofs.Common.{◌≡◌, ℕ, zero, suc, List, [], ◌∷◌, Contains, inl, inr, refl, arith}
use Rattle.board.specs.declared.entries.Phase.{Phase}
use Rattle.board.specs.declared.entries.Phase.TheVariants.{Untaken, Taken}
use Rattle.board.specs.declared.entries.Task.{Task}
use Rattle.board.specs.declared.entries.Task.TheVariants.{Work, Wait, Over}
use Rattle.board.specs.Legal.{IsReady, AreImportsIn}
use Rattle.board.specs.ThreeWorkers.{three, rank_of_three, one_taken, two_taken, all_taken, one_back, all_done, MayBeTold, AreStopped}
use Rattle.board.proofs.Orders.{none_imports, three_are_ordered}

all_in : (phases : List Phase) (i : ℕ) → AreImportsIn three phases i
all_in phases i j h = absurd (none_imports i j h)

first_ready : (x y : Phase) → IsReady three rank_of_three (Untaken ∷ x ∷ y ∷ []) 0
first_ready x y = record { is_ranked = (0, refl); is_untaken = refl; imports_in = all_in (Untaken ∷ x ∷ y ∷ []) 0 }

second_ready : (x y : Phase) → IsReady three rank_of_three (x ∷ Untaken ∷ y ∷ []) 1
second_ready x y = record { is_ranked = (1, refl); is_untaken = refl; imports_in = all_in (x ∷ Untaken ∷ y ∷ []) 1 }

third_ready : (x y : Phase) → IsReady three rank_of_three (x ∷ y ∷ Untaken ∷ []) 2
third_ready x y = record { is_ranked = (2, refl); is_untaken = refl; imports_in = all_in (x ∷ y ∷ Untaken ∷ []) 2 }

first_each : (place : ℕ) → Contains (0 ∷ 1 ∷ 2 ∷ []) place → MayBeTold [] (Work place)
first_each zero h = (refl, first_ready Untaken Untaken)
first_each (suc zero) h = (refl, second_ready Untaken Untaken)
first_each (suc (suc zero)) h = (refl, third_ready Untaken Untaken)
first_each (suc (suc (suc p))) (zero, low, e) = cc
first_each (suc (suc (suc p))) (suc zero, low, e) = cc
first_each (suc (suc (suc p))) (suc (suc zero), low, e) = cc
first_each (suc (suc (suc p))) (suc (suc (suc k)), low, e) = absurd (omega (arith, low))

first_only : (task : Task) → MayBeTold [] task → (place : ℕ) × Contains (0 ∷ 1 ∷ 2 ∷ []) place × (task ≡ Work place)
first_only (Work zero) h = (0, (0, omega arith, refl), refl)
first_only (Work (suc zero)) h = (1, (1, omega arith, refl), refl)
first_only (Work (suc (suc zero))) h = (2, (2, omega arith, refl), refl)
first_only (Work (suc (suc (suc p)))) h = (let e = h.1.is_untaken in cc)
first_only Wait h = absurd (h.none_ready 0 (first_ready Untaken Untaken))
first_only Over (inl e) = cc
first_only Over (inr h) = (let e = (h 0 (0, refl)).1 in cc)

second_each : (place : ℕ) → Contains (1 ∷ 2 ∷ []) place → MayBeTold one_taken (Work place)
second_each zero (zero, low, e) = cc
second_each zero (suc zero, low, e) = cc
second_each zero (suc (suc k), low, e) = absurd (omega (arith, low))
second_each (suc zero) h = (refl, second_ready (Taken 1) Untaken)
second_each (suc (suc zero)) h = (refl, third_ready (Taken 1) Untaken)
second_each (suc (suc (suc p))) (zero, low, e) = cc
second_each (suc (suc (suc p))) (suc zero, low, e) = cc
second_each (suc (suc (suc p))) (suc (suc k), low, e) = absurd (omega (arith, low))

second_only : (task : Task) → MayBeTold one_taken task → (place : ℕ) × Contains (1 ∷ 2 ∷ []) place × (task ≡ Work place)
second_only (Work zero) h = (let e = h.1.is_untaken in cc)
second_only (Work (suc zero)) h = (1, (0, omega arith, refl), refl)
second_only (Work (suc (suc zero))) h = (2, (1, omega arith, refl), refl)
second_only (Work (suc (suc (suc p)))) h = (let e = h.1.is_untaken in cc)
second_only Wait h = absurd (h.none_ready 1 (second_ready (Taken 1) Untaken))
second_only Over (inl e) = cc
second_only Over (inr h) = (let e = (h 0 (0, refl)).1 in cc)

third_each : (place : ℕ) → Contains (2 ∷ []) place → MayBeTold two_taken (Work place)
third_each zero (zero, low, e) = cc
third_each zero (suc k, low, e) = absurd (omega (arith, low))
third_each (suc zero) (zero, low, e) = cc
third_each (suc zero) (suc k, low, e) = absurd (omega (arith, low))
third_each (suc (suc zero)) h = (refl, third_ready (Taken 1) (Taken 2))
third_each (suc (suc (suc p))) (zero, low, e) = cc
third_each (suc (suc (suc p))) (suc k, low, e) = absurd (omega (arith, low))

third_only : (task : Task) → MayBeTold two_taken task → (place : ℕ) × Contains (2 ∷ []) place × (task ≡ Work place)
third_only (Work zero) h = (let e = h.1.is_untaken in cc)
third_only (Work (suc zero)) h = (let e = h.1.is_untaken in cc)
third_only (Work (suc (suc zero))) h = (2, (0, omega arith, refl), refl)
third_only (Work (suc (suc (suc p)))) h = (let e = h.1.is_untaken in cc)
third_only Wait h = absurd (h.none_ready 2 (third_ready (Taken 1) (Taken 2)))
third_only Over (inl e) = cc
third_only Over (inr h) = (let e = (h 0 (0, refl)).1 in cc)

none_ready : (p : ℕ) → IsReady three rank_of_three (Taken 1 ∷ Taken 2 ∷ Taken 3 ∷ []) p → ⊥
none_ready zero h = (let e = h.is_untaken in cc)
none_ready (suc zero) h = (let e = h.is_untaken in cc)
none_ready (suc (suc zero)) h = (let e = h.is_untaken in cc)
none_ready (suc (suc (suc p))) h = (let e = h.is_untaken in cc)

wait_only : (other : Task) → MayBeTold all_taken other → other ≡ Wait
wait_only (Work p) h = absurd (none_ready p h.1)
wait_only Wait h = refl
wait_only Over (inl e) = cc
wait_only Over (inr h) = (let e = (h 0 (0, refl)).1 in cc)

stopped_only : (other : Task) → MayBeTold one_back other → other ≡ Over
stopped_only (Work p) h = (let e = h.0 in cc)
stopped_only Wait h = (let e = h.goes_on in cc)
stopped_only Over h = refl

over_only : (other : Task) → MayBeTold all_done other → other ≡ Over
over_only (Work p) h = (let e = h.0 in cc)
over_only Wait h = (let e = h.goes_on in cc)
over_only Over h = refl

pub are_stopped : AreStopped
are_stopped = record {
  are_ranks = three_are_ordered;
  first = record { each = first_each; no_other = first_only };
  second = record { each = second_each; no_other = second_only };
  third = record { each = third_each; no_other = third_only };
  waits = (record { goes_on = refl; none_ready = none_ready; place = 0; worker = 1; is_taken = refl }, wait_only);
  gives_back = refl;
  stops_at_once = (inl refl, stopped_only);
  second_delivers = refl;
  third_delivers = refl;
  too_late = refl;
  is_over = (inl refl, over_only);
  is_legal = (
    (refl, first_ready Untaken Untaken),
    ((refl, second_ready (Taken 1) Untaken), ((refl, third_ready (Taken 1) (Taken 2)), (refl, (refl, (refl, tt))))),
  );
}
