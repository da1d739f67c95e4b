-- What is kept stays so, event by event.
use Rattle.std.proofs.Common.{◌≡◌, ℕ, Bool, true, false, true≢false, if◌then◌else◌, List, [], ◌∷◌, Some, None, inl, inr, refl, sym, ap, ◌∙◌}
use Rattle.std.specs.Prelude.{◌==◌, ◌||◌}
use Rattle.std.proofs.lemmas.Bool.Decides.{eqb_tells}
use Rattle.std.specs.List.{list_any}
use Rattle.meaning.specs.Code.{Occurrence}
use Rattle.meaning.specs.Uses.{Work, go_call, go_pass, go_literal, Event, other, obtain, obtain_kept, renew, keep, call_kept, defer_kept, give, give_field, clear, call, defer_call, pass, defer_pass, lend, start, try, wait, defer_wait, make, defer_literal, go, return_event}
use Rattle.meaning.specs.Classes.{Promises, CancelClass, opened, kept, safe, unset, change_cancel, cancel_after}
use Rattle.meaning.specs.KeptLaws.{takes_over, touches, is_of_object, KeptIsOwed}

same : (k : CancelClass) (b : Bool) → (if b then k else k) ≡ k
same k true = refl
same k false = refl

or_other : (k l : CancelClass) (b : Bool) → b ≡ false → (if b then l else k) ≡ k
or_other k l b h = ap (λ c. if c then l else k) h

not_taken : (p : Promises) (v : ℕ) (work : Work)
    → takes_over p v work ≡ false
    → change_cancel p v (go work) kept ≡ kept
not_taken p v (go_call u) h = or_other kept safe _ h
not_taken p v (go_pass f xs) h = or_other kept safe _ h
not_taken p v (go_literal literal) h = or_other kept safe _ h

stays_kept : (p : Promises) (v : ℕ) (e : Event) → touches p v e ≡ false → change_cancel p v e kept ≡ kept
stays_kept p v other h = refl
stays_kept p v (obtain u f n is_declared) h = or_other kept opened _ h
stays_kept p v (obtain_kept u f n x) h = same kept (u.number == v)
stays_kept p v (renew u x) h = or_other kept opened _ h
stays_kept p v (keep u x) h = same kept (u == v)
stays_kept p v (call_kept u x) h = or_other kept safe _ h
stays_kept p v (defer_kept u x) h = or_other kept safe _ h
stays_kept p v (give u x) h = or_other kept safe _ h
stays_kept p v (give_field u) h = same kept (u == v)
stays_kept p v (clear u) h = or_other kept unset _ h
stays_kept p v (call u) h = or_other kept safe _ h
stays_kept p v (defer_call u) h = or_other kept safe _ h
stays_kept p v (pass u f n) h = or_other kept safe _ h
stays_kept p v (defer_pass u f n) h = or_other kept safe _ h
stays_kept p v (lend g f n) h = refl
stays_kept p v (start g None) h = refl
stays_kept p v (start g (Some literal)) h = same kept (p.credits literal v)
stays_kept p v (try g literal) h = refl
stays_kept p v (wait g) h = refl
stays_kept p v (defer_wait g) h = refl
stays_kept p v (make g state) h = refl
stays_kept p v (defer_literal literal) h = or_other kept safe _ h
stays_kept p v (go work) h = not_taken p v work h
stays_kept p v (return_event handed) h = refl

neither : (a b : Bool) → (a || b) ≡ false → (a ≡ false) × (b ≡ false)
neither true b h = absurd (true≢false h)
neither false b h = (refl, h)

all_stay : (p : Promises) (v : ℕ) (t : List (Occurrence Event))
    → list_any (λ o. touches p v o.event) t ≡ false
    → cancel_after p v kept t ≡ kept
all_stay p v [] h = refl
all_stay p v (o ∷ t) h =
    let both = neither (touches p v o.event) (list_any (λ o. touches p v o.event) t) h in
    ap (λ k. cancel_after p v k t) (stays_kept p v o.event both.0) ∙ all_stay p v t both.1

itself : (a : ℕ) → (a == a) ≡ true
itself a = elim (eqb_tells a a) [ inl c ↦ c.0 | inr c ↦ absurd (c.1 refl) ]

stays_open : (p : Promises) (v : ℕ) (e : Event) → is_of_object e ≡ true → change_cancel p v e opened ≡ opened
stays_open p v (renew u x) h = same opened (u == v)
stays_open p v (call_kept u x) h = same opened (u == v)
stays_open p v (defer_kept u x) h = same opened (u == v)
stays_open p v (give u x) h = same opened (u == v)
stays_open p v other h = absurd (true≢false (sym h))
stays_open p v (obtain u f n is_declared) h = absurd (true≢false (sym h))
stays_open p v (obtain_kept u f n x) h = absurd (true≢false (sym h))
stays_open p v (keep u x) h = absurd (true≢false (sym h))
stays_open p v (give_field u) h = absurd (true≢false (sym h))
stays_open p v (clear u) h = absurd (true≢false (sym h))
stays_open p v (call u) h = absurd (true≢false (sym h))
stays_open p v (defer_call u) h = absurd (true≢false (sym h))
stays_open p v (pass u f n) h = absurd (true≢false (sym h))
stays_open p v (defer_pass u f n) h = absurd (true≢false (sym h))
stays_open p v (lend g f n) h = absurd (true≢false (sym h))
stays_open p v (start g literal) h = absurd (true≢false (sym h))
stays_open p v (try g literal) h = absurd (true≢false (sym h))
stays_open p v (wait g) h = absurd (true≢false (sym h))
stays_open p v (defer_wait g) h = absurd (true≢false (sym h))
stays_open p v (make g state) h = absurd (true≢false (sym h))
stays_open p v (defer_literal literal) h = absurd (true≢false (sym h))
stays_open p v (go work) h = absurd (true≢false (sym h))
stays_open p v (return_event handed) h = absurd (true≢false (sym h))

pub kept_is_owed : KeptIsOwed
kept_is_owed = record {
  begins = λ p v x. ap (λ b. if b then kept else opened) (itself v);
  stays = all_stay;
  comes_back = λ p v x. ap (λ b. if b then opened else kept) (itself v);
  open_stays = stays_open;
}
