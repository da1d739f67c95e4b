-- Where more is known of what functions call, a variable whose call the paths kept is kept still.
use Rattle.std.proofs.Common.{◌≡◌, ℕ, ◌⊎◌, inl, inr, Bool, true, false, ◌&&◌, if◌then◌else◌, List, [], ◌∷◌, Option, Some, None, refl, sym, ap, ◌∙◌}
use Rattle.std.specs.Prelude.{◌==◌}
use Rattle.std.specs.List.{list_any}
use Rattle.std.proofs.lemmas.Bool.{false≢true, and_parts, and_from, or_cases, or_left, or_right}
use Rattle.meaning.specs.Code.{Occurrence}
use Rattle.meaning.specs.Mentions.{BodyPlace}
use Rattle.meaning.specs.Uses.{Callee, Sent, Work, go_call, go_pass, go_literal, Event, other, obtain, obtain_kept, renew, keep, call_kept, defer_kept, give, give_field, clear, call, defer_call, pass, defer_pass, lend, start, try, wait, defer_wait, make, defer_literal, go, return_event, Seen}
use Rattle.meaning.specs.BodyEvents.{Variable}
use Rattle.meaning.specs.Classes.{Promises, CancelClass, unset, opened, kept, safe, pending, entry_cancel, left_to, ended, started, given_back, kept_from, settled_from_kept, settled_from_open, waited_over, taken_over, change_cancel, cancel_after, GroupClass, entry_group, change_group, group_after}
use Rattle.meaning_packages.specs.PathFaults.{paths_of, KeepsCall}
use Rattle.meaning_packages.specs.Credits.{Credits, promises_in, begun_after}
use Rattle.meaning_packages.specs.CallsFlags.{Flags, flag_of, calls_by}

-- where one list of events leaves the variable so, with more known it is left the same, or safe
abbrev pub NoWorse : CancelClass → CancelClass → Type 0
NoWorse k j = (j ≡ k) ⊎ (j ≡ safe)

chosen : (t : Bool) (x k j : CancelClass) → NoWorse k j → NoWorse (if t then x else k) (if t then x else j)
chosen true x k j h = inl refl
chosen false x k j h = h

passed : (t b c : Bool) (k j : CancelClass) → (b ≡ true → c ≡ true) → NoWorse k j
    → NoWorse (if t && b then safe else k) (if t && c then safe else j)
passed false b c k j more h = h
passed true false false k j more h = h
passed true false true k j more h = inr refl
passed true true c k j more h = inr (ap (λ x. if x then safe else j) (more refl))

moved : (f : CancelClass → CancelClass) (k j : CancelClass) → f safe ≡ safe → NoWorse k j → NoWorse (f k) (f j)
moved f k j stays (inl e) = inl (ap f e)
moved f k j stays (inr e) = inr (ap f e ∙ stays)

moved_if : (t : Bool) (f : CancelClass → CancelClass) (k j : CancelClass) → f safe ≡ safe → NoWorse k j
    → NoWorse (if t then f k else k) (if t then f j else j)
moved_if true f k j stays h = moved f k j stays h
moved_if false f k j stays h = h

module _ (fewer more : Callee → ℕ → Bool) (grows : (f : Callee) (k : ℕ) → fewer f k ≡ true → more f k ≡ true)
    (credits : ℕ → ℕ → Bool) where
  abbrev pub before : Promises
  before = record { calls = fewer; credits = credits }

  abbrev pub after : Promises
  after = record { calls = more; credits = credits }

  started_no_worse : (v g : ℕ) (literal : Option ℕ) (k j : CancelClass) → NoWorse k j
      → NoWorse (started before v g literal k) (started after v g literal j)
  started_no_worse v g None k j h = h
  started_no_worse v g (Some literal) k j h = moved_if (credits literal v) (left_to g) k j refl h

  sent_grows : (v : ℕ) (f : Callee) (xs : List Sent) → list_any (λ x. (x.number == v) && fewer f x.position) xs ≡ true
      → list_any (λ x. (x.number == v) && more f x.position) xs ≡ true
  sent_grows v f [] e = absurd (false≢true e)
  sent_grows v f (x ∷ xs) e =
      elim (or_cases ((x.number == v) && fewer f x.position) _ e) [
        | inl here ↦
            let parts = and_parts (x.number == v) (fewer f x.position) here in
            or_left ((x.number == v) && more f x.position) _
            (and_from (x.number == v) (more f x.position) parts.0 (grows f x.position parts.1))
        | inr later ↦ or_right ((x.number == v) && more f x.position) _ (sent_grows v f xs later)
      ]

  waited_no_worse : (literal : ℕ) (k j : CancelClass) → NoWorse k j
      → NoWorse (waited_over before literal k) (waited_over after literal j)
  waited_no_worse literal k j (inl e) = inl (ap (waited_over after literal) e ∙ same_wait k)
    where
      same_wait : (k : CancelClass) → waited_over after literal k ≡ waited_over before literal k
      same_wait unset = refl
      same_wait opened = refl
      same_wait kept = refl
      same_wait safe = refl
      same_wait (pending g) = refl
  waited_no_worse literal k j (inr e) = inr (ap (waited_over after literal) e)

  either_no_worse : (t : Bool) (l m : CancelClass) → NoWorse l m → NoWorse (if t then safe else l) (if t then safe else m)
  either_no_worse true l m h = inr refl
  either_no_worse false l m h = h

  work_no_worse : (v : ℕ) (work : Work) (k j : CancelClass) → NoWorse k j
      → NoWorse (taken_over before v work k) (taken_over after v work j)
  work_no_worse v (go_call u) k j h = chosen (u == v) safe k j h
  work_no_worse v (go_pass f xs) k j h =
      passed true (list_any (λ x. (x.number == v) && fewer f x.position) xs)
      (list_any (λ x. (x.number == v) && more f x.position) xs) k j (sent_grows v f xs) h
  work_no_worse v (go_literal literal) k j h =
      either_no_worse (credits literal v) _ _ (waited_no_worse literal k j h)

  change_no_worse : (v : ℕ) (e : Event) (k j : CancelClass) → NoWorse k j
      → NoWorse (change_cancel before v e k) (change_cancel after v e j)
  change_no_worse v other k j h = h
  change_no_worse v (obtain u f n is_declared) k j h = chosen (u.number == v) opened k j h
  change_no_worse v (obtain_kept u f n x) k j h = chosen (u.number == v) kept k j h
  change_no_worse v (renew u x) k j h = moved_if (u == v) given_back k j refl h
  change_no_worse v (keep u x) k j h = moved_if (u == v) kept_from k j refl h
  change_no_worse v (call_kept u x) k j h = moved_if (u == v) settled_from_kept k j refl h
  change_no_worse v (defer_kept u x) k j h = moved_if (u == v) settled_from_kept k j refl h
  change_no_worse v (give u x) k j h = moved_if (u == v) settled_from_kept k j refl h
  change_no_worse v (give_field u) k j h = moved_if (u == v) settled_from_open k j refl h
  change_no_worse v (clear u) k j h = chosen (u.number == v) unset k j h
  change_no_worse v (call u) k j h = chosen (u == v) safe k j h
  change_no_worse v (defer_call u) k j h = chosen (u == v) safe k j h
  change_no_worse v (pass u f n) k j h = passed (u.number == v) (fewer f n) (more f n) k j (grows f n) h
  change_no_worse v (defer_pass u f n) k j h = passed (u.number == v) (fewer f n) (more f n) k j (grows f n) h
  change_no_worse v (lend g f n) k j h = h
  change_no_worse v (start g literal) k j h = started_no_worse v g literal k j h
  change_no_worse v (try g literal) k j h = h
  change_no_worse v (wait g) k j h = moved (ended g) k j refl h
  change_no_worse v (defer_wait g) k j h = h
  change_no_worse v (make g state) k j h = moved (ended g.number) k j refl h
  change_no_worse v (defer_literal literal) k j h = chosen (credits literal v) safe k j h
  change_no_worse v (go work) k j h = work_no_worse v work k j h
  change_no_worse v (return_event handed) k j h = h

  pub after_no_worse : (v : ℕ) (k j : CancelClass) (t : List (Occurrence Event)) → NoWorse k j
      → NoWorse (cancel_after before v k t) (cancel_after after v j t)
  after_no_worse v k j [] h = h
  after_no_worse v k j (o ∷ t) h =
      after_no_worse v (change_cancel before v o.event k) (change_cancel after v o.event j) t
      (change_no_worse v o.event k j h)

  same_change : (v : ℕ) (e : Event) (k : GroupClass) → change_group before v e k ≡ change_group after v e k
  same_change v other k = refl
  same_change v (obtain u f n is_declared) k = refl
  same_change v (obtain_kept u f n x) k = refl
  same_change v (renew u x) k = refl
  same_change v (keep u x) k = refl
  same_change v (call_kept u x) k = refl
  same_change v (defer_kept u x) k = refl
  same_change v (give u x) k = refl
  same_change v (give_field u) k = refl
  same_change v (clear u) k = refl
  same_change v (call u) k = refl
  same_change v (defer_call u) k = refl
  same_change v (pass u f n) k = refl
  same_change v (defer_pass u f n) k = refl
  same_change v (lend g f n) k = refl
  same_change v (start g literal) k = refl
  same_change v (try g literal) k = refl
  same_change v (wait g) k = refl
  same_change v (defer_wait g) k = refl
  same_change v (make g state) k = refl
  same_change v (defer_literal literal) k = refl
  same_change v (go (go_call u)) k = refl
  same_change v (go (go_pass f xs)) k = refl
  same_change v (go (go_literal literal)) k = refl
  same_change v (return_event handed) k = refl

  pub same_group : (v : ℕ) (k : GroupClass) (t : List (Occurrence Event))
      → group_after before v k t ≡ group_after after v k t
  same_group v k [] = refl
  same_group v k (o ∷ t) =
      same_group v (change_group before v o.event k) t
      ∙ ap (λ j. group_after after v j t) (same_change v o.event k)

module _ (fewer more : Callee → ℕ → Bool) (grows : (f : Callee) (k : ℕ) → fewer f k ≡ true → more f k ≡ true)
    (seen : Seen) (credits : Credits) (b : BodyPlace) (v : Variable) where
  no_worse : (t : List (Occurrence Event))
      → NoWorse (cancel_after (promises_in fewer credits b.at) v.number (entry_cancel v.role) t)
      (cancel_after (promises_in more credits b.at) v.number (entry_cancel v.role) t)
  no_worse t =
      after_no_worse fewer more grows (begun_after b.at credits) v.number (entry_cancel v.role) (entry_cancel v.role) t
      (inl refl)

  abbrev not_safe : CancelClass → Type 0
  not_safe k = k ≡ safe → ⊥

  -- a class that is not safe was the same before
  was_so : (t : List (Occurrence Event)) (k : CancelClass) → not_safe k
      → cancel_after (promises_in more credits b.at) v.number (entry_cancel v.role) t ≡ k
      → cancel_after (promises_in fewer credits b.at) v.number (entry_cancel v.role) t ≡ k
  was_so t k none e = elim (no_worse t) [
    | inl same ↦ sym same ∙ e
    | inr saved ↦ absurd (none (sym e ∙ saved))
  ]

  pub keeps_still : KeepsCall (paths_of seen (promises_in fewer credits b.at) b) v
      → KeepsCall (paths_of seen (promises_in more credits b.at) b) v
  keeps_still h = record {
    never_open = λ handed t o comes is_open.
        h.never_open handed t o (record { reaches = comes.reaches; is_return = comes.is_return })
        (was_so t opened (λ e. cc) is_open);
    never_kept = λ handed t o comes is_kept.
        h.never_kept handed t o (record { reaches = comes.reaches; is_return = comes.is_return })
        (was_so t kept (λ e. cc) is_kept);
    never_left = λ handed t o comes left.
        h.never_left handed t o (record { reaches = comes.reaches; is_return = comes.is_return })
        (record {
          left_to = left.left_to;
          other_list = left.other_list;
          there = left.there;
          is_pending = was_so t (pending left.left_to.number) (λ e. cc) left.is_pending;
          reaches = left.reaches;
          same_offset = left.same_offset;
          same_order = left.same_order;
          is_live = record {
            is_of_body = left.is_live.is_of_body;
            is_group_variable = left.is_live.is_group_variable;
            is_live =
                same_group fewer more grows (begun_after b.at credits) left.left_to.number (entry_group left.left_to.role)
                left.other_list
                ∙ left.is_live.is_live;
          };
        });
  }

-- with more flags more is known
module _ (fewer more : Flags) (grow : (name : List ℕ) (k : ℕ) → fewer name k ≡ true → more name k ≡ true)
    (imported : List ℕ → Flags) where
  flag_still : (path : Option (List ℕ)) (name : List ℕ) (k : ℕ) → flag_of fewer imported path name k ≡ true
      → flag_of more imported path name k ≡ true
  flag_still None name k e = grow name k e
  flag_still (Some path) name k e = e

  pub calls_still : (f : Callee) (k : ℕ) → calls_by fewer imported f k ≡ true → calls_by more imported f k ≡ true
  calls_still f k e = flag_still f.path f.name k e
