-- What is proved of cancel functions that are kept: what is kept stays so until it is called, or others get it, or it
-- is lost. So what is kept and given to nobody is owed: a return finds it kept. And what becomes of an object settles
-- nothing that it doesn't keep.
use Rattle.std.specs.Prelude.{ℕ, ◌≡◌, ◌==◌, Bool, true, false, ◌&&◌, List}
use Rattle.std.specs.List.{list_any}
use Rattle.meaning.specs.Code.{Occurrence}
use Rattle.meaning.specs.Uses.{Work, go_call, go_pass, go_literal, Event, obtain, obtain_kept, renew, keep, call_kept, defer_kept, give, clear, call, defer_call, pass, defer_pass, defer_literal, go}
use Rattle.meaning.specs.Classes.{Promises, opened, kept, change_cancel, cancel_after}

-- the goroutine that starts sees to what the variable holds
abbrev pub takes_over : Promises → ℕ → Work → Bool
takes_over p v (go_call u) = u == v
takes_over p v (go_pass f xs) = list_any (λ x. (x.number == v) && p.calls f x.position) xs
takes_over p v (go_literal literal) = p.credits literal v

-- the event calls what the variable or its object holds, binds it, gives it to others, or makes the object anew
abbrev pub touches : Promises → ℕ → Event → Bool
touches p v (obtain u f n is_declared) = u.number == v
touches p v (obtain_kept u f n x) = u.number == v
touches p v (renew u x) = u == v
touches p v (call_kept u x) = u == v
touches p v (defer_kept u x) = u == v
touches p v (give u x) = u == v
touches p v (clear u) = u.number == v
touches p v (call u) = u == v
touches p v (defer_call u) = u == v
touches p v (pass u f n) = (u.number == v) && p.calls f n
touches p v (defer_pass u f n) = (u.number == v) && p.calls f n
touches p v (defer_literal literal) = p.credits literal v
touches p v (go work) = takes_over p v work
touches p v e = false

-- it is about the object in which a variable is kept
abbrev pub is_of_object : Event → Bool
is_of_object (renew u x) = true
is_of_object (call_kept u x) = true
is_of_object (defer_kept u x) = true
is_of_object (give u x) = true
is_of_object e = false

pub record KeptIsOwed : Type 0 where
  -- to keep is not to call
  pub begins : (p : Promises) (v x : ℕ) → change_cancel p v (keep v x) opened ≡ kept
  pub stays : (p : Promises) (v : ℕ) (t : List (Occurrence Event))
      → list_any (λ o. touches p v o.event) t ≡ false
      → cancel_after p v kept t ≡ kept
  -- the new object holds nothing of what the old one kept
  pub comes_back : (p : Promises) (v x : ℕ) → change_cancel p v (renew v x) kept ≡ opened
  pub open_stays : (p : Promises) (v : ℕ) (e : Event)
      → is_of_object e ≡ true
      → change_cancel p v e opened ≡ opened
