-- Where no event keeps anything, no class is kept.
use Rattle.std.proofs.Common.{◌≡◌, ℕ, ◌/◌, ◌%◌, ◌<◌, Bool, true, false, if◌then◌else◌, [], ◌∷◌, Option, Some, None, refl, subst, arith, true≢false, inl, inr}
use Rattle.std.specs.Prelude.{◌==◌, ◌&&◌, slice_get}
use Rattle.std.specs.List.{list_any}
use Rattle.std.proofs.lemmas.Bool.{cases_lt, eq-eqb}
use Rattle.bodies.specs.Carried.{IsReached, starts, goes}
use Rattle.bodies.specs.Masks.{is_set}
use Rattle.certificates.proofs.ListsToNodes.{only}
use Rattle.certificates.specs.LeastLaws.{keeps}
use Rattle.flow.specs.Walks.{Graph}
use Rattle.meaning.specs.BodyEvents.{VariableRole, own_parameter, own_receiver, declared_in_body, captured}
use Rattle.meaning.specs.Classes.{Promises, CancelClass, unset, opened, kept, safe, pending, entry_cancel, change_cancel, left_to, ended, started, given_back, settled_from_kept, settled_from_open, waited_over, taken_over}
use Rattle.meaning.specs.Code.{Occurrence}
use Rattle.meaning.specs.Uses.{Work, go_call, go_pass, go_literal, Event, other, obtain, obtain_kept, renew, keep, call_kept, defer_kept, give, give_field, clear, call, defer_call, pass, defer_pass, lend, start, try, wait, defer_wait, make, defer_literal, go, return_event}

abbrev pub is_kept_class : CancelClass → Bool
is_kept_class unset = false
is_kept_class opened = false
is_kept_class kept = true
is_kept_class safe = false
is_kept_class (pending g) = false

abbrev pub IsUnkept : CancelClass → Type 0
IsUnkept k = is_kept_class k ≡ false

pub kept_is_not : IsUnkept kept → ⊥
kept_is_not e = true≢false e

if_unkept : (b : Bool) (k l : CancelClass) → IsUnkept k → IsUnkept l → IsUnkept (if b then k else l)
if_unkept true k l h i = h
if_unkept false k l h i = i

left_unkept : (g : ℕ) (k : CancelClass) → IsUnkept k → IsUnkept (left_to g k)
left_unkept g unset h = refl
left_unkept g opened h = refl
left_unkept g kept h = h
left_unkept g safe h = refl
left_unkept g (pending x) h = refl

ended_unkept : (g : ℕ) (k : CancelClass) → IsUnkept k → IsUnkept (ended g k)
ended_unkept g unset h = refl
ended_unkept g opened h = refl
ended_unkept g kept h = h
ended_unkept g safe h = refl
ended_unkept g (pending x) h = if_unkept (g == x) safe (pending x) refl refl

started_unkept : (p : Promises) (v g : ℕ) (literal : Option ℕ) (k : CancelClass) → IsUnkept k
    → IsUnkept (started p v g literal k)
started_unkept p v g None k h = h
started_unkept p v g (Some at) k h = if_unkept (p.credits at v) (left_to g k) k (left_unkept g k h) h

given_back_unkept : (k : CancelClass) → IsUnkept (given_back k)
given_back_unkept unset = refl
given_back_unkept opened = refl
given_back_unkept kept = refl
given_back_unkept safe = refl
given_back_unkept (pending g) = refl

settled_unkept : (k : CancelClass) → IsUnkept (settled_from_kept k)
settled_unkept unset = refl
settled_unkept opened = refl
settled_unkept kept = refl
settled_unkept safe = refl
settled_unkept (pending g) = refl

given_unkept : (k : CancelClass) → IsUnkept k → IsUnkept (settled_from_open k)
given_unkept unset h = refl
given_unkept opened h = refl
given_unkept kept h = h
given_unkept safe h = refl
given_unkept (pending g) h = refl

waited_unkept : (p : Promises) (literal : ℕ) (k : CancelClass) → IsUnkept k → IsUnkept (waited_over p literal k)
waited_unkept p literal unset h = refl
waited_unkept p literal opened h = refl
waited_unkept p literal kept h = h
waited_unkept p literal safe h = refl
waited_unkept p literal (pending g) h = if_unkept (p.credits literal g) safe (pending g) refl refl

taken_unkept : (p : Promises) (v : ℕ) (work : Work) (k : CancelClass) → IsUnkept k → IsUnkept (taken_over p v work k)
taken_unkept p v (go_call u) k h = if_unkept (u == v) safe k refl h
taken_unkept p v (go_pass f xs) k h =
    if_unkept (list_any (λ x. (x.number == v) && p.calls f x.position) xs) safe k refl h
taken_unkept p v (go_literal literal) k h =
    if_unkept (p.credits literal v) safe (waited_over p literal k) refl (waited_unkept p literal k h)

change_unkept : (p : Promises) (v : ℕ) (e : Event) (k : CancelClass) → keeps e ≡ false → IsUnkept k
    → IsUnkept (change_cancel p v e k)
change_unkept p v other k none h = h
change_unkept p v (obtain u f n is_declared) k none h = if_unkept (u.number == v) opened k refl h
change_unkept p v (obtain_kept u f n x) k none h = absurd (true≢false none)
change_unkept p v (renew u x) k none h = if_unkept (u == v) (given_back k) k (given_back_unkept k) h
change_unkept p v (keep u x) k none h = absurd (true≢false none)
change_unkept p v (call_kept u x) k none h = if_unkept (u == v) (settled_from_kept k) k (settled_unkept k) h
change_unkept p v (defer_kept u x) k none h = if_unkept (u == v) (settled_from_kept k) k (settled_unkept k) h
change_unkept p v (give u x) k none h = if_unkept (u == v) (settled_from_kept k) k (settled_unkept k) h
change_unkept p v (give_field u) k none h = if_unkept (u == v) (settled_from_open k) k (given_unkept k h) h
change_unkept p v (clear u) k none h = if_unkept (u.number == v) unset k refl h
change_unkept p v (call u) k none h = if_unkept (u == v) safe k refl h
change_unkept p v (defer_call u) k none h = if_unkept (u == v) safe k refl h
change_unkept p v (pass u f n) k none h = if_unkept ((u.number == v) && p.calls f n) safe k refl h
change_unkept p v (defer_pass u f n) k none h = if_unkept ((u.number == v) && p.calls f n) safe k refl h
change_unkept p v (lend g f n) k none h = h
change_unkept p v (start g literal) k none h = started_unkept p v g literal k h
change_unkept p v (try g literal) k none h = h
change_unkept p v (wait g) k none h = ended_unkept g k h
change_unkept p v (defer_wait g) k none h = h
change_unkept p v (make g state) k none h = ended_unkept g.number k h
change_unkept p v (defer_literal literal) k none h = if_unkept (p.credits literal v) safe k refl h
change_unkept p v (go work) k none h = taken_unkept p v work k h
change_unkept p v (return_event handed) k none h = h

entry_unkept : (role : VariableRole) → IsUnkept (entry_cancel role)
entry_unkept (own_parameter k) = refl
entry_unkept own_receiver = refl
entry_unkept declared_in_body = refl
entry_unkept captured = refl

-- no class that is carried to a node is kept, where no node keeps anything
pub reached_unkept : (g : Graph Event) (p : Promises) (v : ℕ) (role : VariableRole)
    → ((n : ℕ) (o : Occurrence Event) → slice_get g.nodes n ≡ Some o → keeps o.event ≡ false)
    → (n : ℕ) (k : CancelClass)
    → IsReached g (change_cancel p v) (entry_cancel role ∷ []) n k
    → IsUnkept k
reached_unkept g p v role none n k (starts a b) =
    subst IsUnkept (only (entry_cancel role) k b) (entry_unkept role)
reached_unkept g p v role none n k (goes {n = m} {k = j} {o = o} {ms = ms} r a b c) =
    change_unkept p v o.event j (none m o a) (reached_unkept g p v role none m j r)

-- a mask without the last bit
pub without_last : (mask : ℕ) → mask < 65536 → (is_set mask 15 ≡ true → ⊥) → mask < 32768
without_last mask fits none =
    elim (cases_lt mask 32768) [
      | inl low ↦ low
      | inr past ↦ absurd (none (eq-eqb (mask / 32768 % 2) 1 (omega (arith, past, fits))))
    ]
