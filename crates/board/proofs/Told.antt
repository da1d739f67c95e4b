-- Two workers with two packages: each answer is the only one that is allowed.
use Rattle.std.proofs.Common.{◌≡◌, ℕ, zero, suc, [], ◌∷◌, inl, inr, refl, sym, subst, arith}
use Rattle.std.proofs.lemmas.Option.{same_Some}
use Rattle.imports.specs.Ranks.{Imports}
use Rattle.board.specs.declared.entries.Phase.{Phase}
use Rattle.board.specs.declared.entries.Phase.TheVariants.{Untaken, Taken, Delivered}
use Rattle.board.specs.declared.entries.Task.{Task}
use Rattle.board.specs.declared.entries.Task.TheVariants.{Work, Wait, Over}
use Rattle.board.specs.History.{state_of}
use Rattle.board.specs.Legal.{IsIn, IsReady}
use Rattle.board.specs.Answers.{IsTask}
use Rattle.board.specs.Examples.{package_a, package_b, two, rank_of_two, one_entry, two_entries, all_entries, AreTold}
use Rattle.board.proofs.Orders.{a_imports_none, b_imports_a, two_are_ordered}

a_is_imported : Imports two 1 0
a_is_imported = record {
  importer = package_b;
  imported = package_a;
  is_importer = refl;
  is_imported = refl;
  names = (0, omega arith, refl);
  is_first = λ k p e same. omega arith;
}

a_ready : IsReady two rank_of_two (Untaken ∷ Untaken ∷ []) 0
a_ready = record { is_ranked = (0, refl); is_untaken = refl; imports_in = λ j h. absurd (a_imports_none j h) }

b_ready : IsReady two rank_of_two (Delivered 1 ∷ Untaken ∷ []) 1
b_ready = record {
  is_ranked = (1, refl);
  is_untaken = refl;
  imports_in = λ j h. (
      let P : ℕ → Type 0 = λ k. IsIn (Delivered 1 ∷ Untaken ∷ []) k in
      subst P (sym (b_imports_a j h)) (1, refl));
}

-- b is not ready while a is not delivered
b_not_ready : (x : Phase) → ((w : ℕ) → x ≡ Delivered w → ⊥) → IsReady two rank_of_two (x ∷ Untaken ∷ []) 1 → ⊥
b_not_ready x out ready =
    let h = ready.imports_in 0 a_is_imported in
    out h.0 (same_Some x (Delivered h.0) h.1)

first_only : (other : Task) → IsTask two rank_of_two (state_of 2 []) other → other ≡ Work 0
first_only (Work zero) h = refl
first_only (Work (suc zero)) h = absurd (b_not_ready Untaken (λ w e. cc) h.1)
first_only (Work (suc (suc p))) h = (let e = h.1.is_untaken in cc)
first_only Wait h = absurd (h.none_ready 0 a_ready)
first_only Over (inl e) = cc
first_only Over (inr h) = (let e = (h 0 (0, refl)).1 in cc)

wait_only : (other : Task) → IsTask two rank_of_two (state_of 2 one_entry) other → other ≡ Wait
wait_only (Work zero) h = (let e = h.1.is_untaken in cc)
wait_only (Work (suc zero)) h = absurd (b_not_ready (Taken 1) (λ w e. cc) h.1)
wait_only (Work (suc (suc p))) h = (let e = h.1.is_untaken in cc)
wait_only Wait h = refl
wait_only Over (inl e) = cc
wait_only Over (inr h) = (let e = (h 0 (0, refl)).1 in cc)

none_ready : (p : ℕ) → IsReady two rank_of_two (Taken 1 ∷ Untaken ∷ []) p → ⊥
none_ready zero h = (let e = h.is_untaken in cc)
none_ready (suc zero) h = b_not_ready (Taken 1) (λ w e. cc) h
none_ready (suc (suc p)) h = (let e = h.is_untaken in cc)

second_only : (other : Task) → IsTask two rank_of_two (state_of 2 two_entries) other → other ≡ Work 1
second_only (Work zero) h = (let e = h.1.is_untaken in cc)
second_only (Work (suc zero)) h = refl
second_only (Work (suc (suc p))) h = (let e = h.1.is_untaken in cc)
second_only Wait h = absurd (h.none_ready 1 b_ready)
second_only Over (inl e) = cc
second_only Over (inr h) = (let e = (h 1 (1, refl)).1 in cc)

over_only : (other : Task) → IsTask two rank_of_two (state_of 2 all_entries) other → other ≡ Over
over_only (Work p) h = (let e = h.0 in cc)
over_only Wait h = (let e = h.goes_on in cc)
over_only Over h = refl

pub are_told : AreTold
are_told = record {
  are_ranks = two_are_ordered;
  too_early = refl;
  first_works = ((refl, a_ready), first_only);
  second_waits = (record { goes_on = refl; none_ready = none_ready; place = 0; worker = 1; is_taken = refl }, wait_only);
  not_its_own = refl;
  delivers = refl;
  once_more = refl;
  second_works = ((refl, b_ready), second_only);
  gives_back = refl;
  not_its_own_either = refl;
  too_late = refl;
  is_over = (inl refl, over_only);
  is_legal = ((refl, a_ready), (refl, ((refl, b_ready), (refl, tt))));
}
