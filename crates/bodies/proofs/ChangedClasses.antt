-- Which classes have bits: where a class has one, so has what an event makes of it, as long as the group in which it
-- starts a literal is one of those with bits.
use Rattle.std.proofs.Common.{◌≡◌, ℕ, ◌≤◌, Bool, true, false, if◌then◌else◌, List, length, Option, Some, None, Contains, refl}
use Rattle.std.specs.List.{list_any}
use Rattle.std.specs.Prelude.{◌==◌, ◌&&◌}
use Rattle.bodies.proofs.ClassNumbers.{pending_found}
use Rattle.bodies.specs.Bits.{cancel_bit}
use Rattle.meaning.specs.Classes.{Promises, CancelClass, unset, opened, kept, safe, pending, change_cancel, left_to, ended, started, given_back, kept_from, settled_from_kept, settled_from_open, waited_over, taken_over}
use Rattle.meaning.specs.Uses.{Work, go_call, go_pass, go_literal, Event, other, obtain, obtain_kept, renew, keep, call_kept, defer_kept, give, give_field, clear, call, defer_call, pass, defer_pass, lend, start, try, wait, defer_wait, make, defer_literal, go, return_event}

abbrev pub HasBit : {K : Type 0} → (K → Option ℕ) → K → Type 0
HasBit bit_of k = (bit : ℕ) × (bit_of k ≡ Some bit)

-- the literal that the event starts is in one of the groups
abbrev pub StartsAmong : List ℕ → Event → Type 0
StartsAmong groups e = (g literal : ℕ) → e ≡ start g (Some literal) → Contains groups g

module _ (groups : List ℕ) (fits : length groups ≤ 12) where
  abbrev HasOne : CancelClass → Type 0
  HasOne = HasBit (cancel_bit groups)

  if_has : (b : Bool) (k l : CancelClass) → HasOne k → HasOne l → HasOne (if b then k else l)
  if_has true k l h i = h
  if_has false k l h i = i

  ended_has : (g : ℕ) (k : CancelClass) → HasOne k → HasOne (ended g k)
  ended_has g unset h = h
  ended_has g opened h = h
  ended_has g kept h = h
  ended_has g safe h = h
  ended_has g (pending x) h = if_has (g == x) safe (pending x) (2, refl) h

  left_has : (g : ℕ) (k : CancelClass) → HasOne (pending g) → HasOne k → HasOne (left_to g k)
  left_has g unset new h = h
  left_has g opened new h = new
  left_has g kept new h = h
  left_has g safe new h = h
  left_has g (pending x) new h = h

  started_has : (p : Promises) (v g : ℕ) (literal : Option ℕ) (k : CancelClass) → StartsAmong groups (start g literal)
      → HasOne k → HasOne (started p v g literal k)
  started_has p v g None k among h = h
  started_has p v g (Some at) k among h =
      if_has (p.credits at v) (left_to g k) k (left_has g k (pending_found groups g (among g at refl) fits) h) h

  given_back_has : (k : CancelClass) → HasOne k → HasOne (given_back k)
  given_back_has unset h = h
  given_back_has opened h = h
  given_back_has kept h = (1, refl)
  given_back_has safe h = h
  given_back_has (pending g) h = h

  kept_has : (k : CancelClass) → HasOne k → HasOne (kept_from k)
  kept_has unset h = h
  kept_has opened h = (15, refl)
  kept_has kept h = h
  kept_has safe h = h
  kept_has (pending g) h = h

  settled_kept_has : (k : CancelClass) → HasOne k → HasOne (settled_from_kept k)
  settled_kept_has unset h = h
  settled_kept_has opened h = h
  settled_kept_has kept h = (2, refl)
  settled_kept_has safe h = h
  settled_kept_has (pending g) h = h

  settled_open_has : (k : CancelClass) → HasOne k → HasOne (settled_from_open k)
  settled_open_has unset h = h
  settled_open_has opened h = (2, refl)
  settled_open_has kept h = h
  settled_open_has safe h = h
  settled_open_has (pending g) h = h

  waited_has : (p : Promises) (literal : ℕ) (k : CancelClass) → HasOne k → HasOne (waited_over p literal k)
  waited_has p literal unset h = h
  waited_has p literal opened h = h
  waited_has p literal kept h = h
  waited_has p literal safe h = h
  waited_has p literal (pending g) h = if_has (p.credits literal g) safe (pending g) (2, refl) h

  taken_has : (p : Promises) (v : ℕ) (work : Work) (k : CancelClass) → HasOne k → HasOne (taken_over p v work k)
  taken_has p v (go_call u) k h = if_has (u == v) safe k (2, refl) h
  taken_has p v (go_pass f xs) k h =
      if_has (list_any (λ x. (x.number == v) && p.calls f x.position) xs) safe k (2, refl) h
  taken_has p v (go_literal literal) k h =
      if_has (p.credits literal v) safe (waited_over p literal k) (2, refl) (waited_has p literal k h)

  pub change_has : (p : Promises) (v : ℕ) (e : Event) (k : CancelClass) → StartsAmong groups e → HasOne k
      → HasOne (change_cancel p v e k)
  change_has p v other k among h = h
  change_has p v (obtain u f n is_declared) k among h = if_has (u.number == v) opened k (1, refl) h
  change_has p v (obtain_kept u f n x) k among h = if_has (u.number == v) kept k (15, refl) h
  change_has p v (renew u x) k among h = if_has (u == v) (given_back k) k (given_back_has k h) h
  change_has p v (keep u x) k among h = if_has (u == v) (kept_from k) k (kept_has k h) h
  change_has p v (call_kept u x) k among h = if_has (u == v) (settled_from_kept k) k (settled_kept_has k h) h
  change_has p v (defer_kept u x) k among h = if_has (u == v) (settled_from_kept k) k (settled_kept_has k h) h
  change_has p v (give u x) k among h = if_has (u == v) (settled_from_kept k) k (settled_kept_has k h) h
  change_has p v (give_field u) k among h = if_has (u == v) (settled_from_open k) k (settled_open_has k h) h
  change_has p v (clear u) k among h = if_has (u.number == v) unset k (0, refl) h
  change_has p v (call u) k among h = if_has (u == v) safe k (2, refl) h
  change_has p v (defer_call u) k among h = if_has (u == v) safe k (2, refl) h
  change_has p v (pass u f n) k among h = if_has ((u.number == v) && p.calls f n) safe k (2, refl) h
  change_has p v (defer_pass u f n) k among h = if_has ((u.number == v) && p.calls f n) safe k (2, refl) h
  change_has p v (lend g f n) k among h = h
  change_has p v (start g literal) k among h = started_has p v g literal k among h
  change_has p v (try g literal) k among h = h
  change_has p v (wait g) k among h = ended_has g k h
  change_has p v (defer_wait g) k among h = h
  change_has p v (make g state) k among h = ended_has g.number k h
  change_has p v (defer_literal literal) k among h = if_has (p.credits literal v) safe k (2, refl) h
  change_has p v (go work) k among h = taken_has p v work k h
  change_has p v (return_event handed) k among h = h
