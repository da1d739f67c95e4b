-- Credits by certificates hold under themselves, whatever is known of functions: the classes of a variable that a
-- literal captures do not depend on that, since no event of the literal passes it on.
use Rattle.std.proofs.Common.{◌≡◌, ℕ, Bool, true, false, inl, inr, List, [], ◌∷◌, ◌++◌, Some, Contains, refl, sym, ap, ◌∙◌, subst}
use Rattle.std.specs.Prelude.{◌==◌, ◌&&◌, ◌||◌, not, if◌then◌else◌}
use Rattle.std.specs.List.{list_any}
use Rattle.std.proofs.lemmas.Bool.Decides.{Decides-eqb}
use Rattle.std.proofs.lemmas.List.Elements.{Contains-append_left}
use Rattle.calls_flags.proofs.ComesBack.{back_alone}
use Rattle.checker.specs.CheckerLaws.{SettlesWhatItSays}
use Rattle.meaning.proofs.Membership.{contains_here, contains_there}
use Rattle.meaning.specs.BodyEvents.{Variable, captured, bodies_of, sites_of, variables_of}
use Rattle.meaning.specs.Classes.{CancelClass, safe, entry_cancel, change_cancel, cancel_after, GroupClass, entry_group, change_group, group_after}
use Rattle.meaning.specs.Code.{Occurrence}
use Rattle.meaning.specs.FunctionFacts.{VariableKind, cancel, group}
use Rattle.meaning.specs.Lists.{stopped, Reaches}
use Rattle.meaning.specs.Mentions.{BodyPlace}
use Rattle.meaning.specs.Uses.{Callee, Seen, Sent, go_call, go_pass, go_literal, goes_off, Event, other, obtain, obtain_kept, renew, keep, call_kept, defer_kept, give, give_field, clear, call, defer_call, pass, defer_pass, lend, start, try, wait, defer_wait, make, defer_literal, go, return_event}
use Rattle.meaning_packages.specs.CallsFlags.{Flags, FileWithCredits}
use Rattle.meaning_packages.specs.Credits.{Credits, body_at, begun_after, promises_in, no_calls, is_safe, is_live, is_settled, Settles, IsCredited}
use Rattle.meaning_packages.specs.PathFaults.{paths_of}
use Rattle.meaning_runs.proofs.EventSources.{list_has, of_body, marked}
use Rattle.meaning_runs.specs.Bodies.{Body, code_of}
use Rattle.meaning_runs.specs.EventSources.{HasSource, says_nothing, falls_off, of_mark}
use Rattle.path_faults.proofs.Places.{contains_at}
use Rattle.verifier.proofs.CertifiedBodies.{is_of}
use Rattle.verifier.proofs.OneVerified.{at_its_offset}
use Rattle.verifier.proofs.OwnPasses.{HandsOn, captured_is_not_passed}
use Rattle.verifier.specs.Verified.{Given, nothing_known, flags_of_body, checked, IsCreditedBy}
use Rattle.verifier.specs.VerifierLaws.{CreditsAreFair}

-- Classes by what is known of functions

module _ (calls others : Callee → ℕ → Bool) (credits : Credits) (v : ℕ) where
  unpassed : (n : ℕ) (known known_too : Bool) (k : CancelClass) → (n ≡ v → ⊥)
      → (if (n == v) && known then safe else k) ≡ (if (n == v) && known_too then safe else k)
  unpassed n known known_too k apart = by (n == v) (Decides-eqb n v).0
    where
      by : (t : Bool) → (t ≡ true → n ≡ v)
          → (if t && known then safe else k) ≡ (if t && known_too then safe else k)
      by true same = absurd (apart (same refl))
      by false same = refl

  unsent : (f : Callee) (xs : List Sent) → ((x : Sent) → Contains xs x → x.number ≡ v → ⊥) → (k : CancelClass)
      → (if list_any (λ x. (x.number == v) && calls f x.position) xs then safe else k)
      ≡ (if list_any (λ x. (x.number == v) && others f x.position) xs then safe else k)
  unsent f xs none k =
      ap (λ b. if b then safe else k) (none_of f calls xs none) ∙ sym (ap (λ b. if b then safe else k) (none_of f others xs none))
    where
      none_of : (f : Callee) (known : Callee → ℕ → Bool) (xs : List Sent)
          → ((x : Sent) → Contains xs x → x.number ≡ v → ⊥)
          → list_any (λ x. (x.number == v) && known f x.position) xs ≡ false
      none_of f known [] none = refl
      none_of f known (x ∷ xs) none =
          by (x.number == v) (Decides-eqb x.number v).0 (none_of f known xs (λ y h. none y (contains_there x y xs h)))
        where
          by : (t : Bool) → (t ≡ true → x.number ≡ v)
              → list_any (λ x. (x.number == v) && known f x.position) xs ≡ false
              → ((t && known f x.position) || list_any (λ x. (x.number == v) && known f x.position) xs) ≡ false
          by true same rest = absurd (none x (contains_here x xs) (same refl))
          by false same rest = rest

  one_change : (e : Event) → (HandsOn e v → ⊥) → (k : CancelClass)
      → change_cancel (record { calls = calls; credits = credits }) v e k
      ≡ change_cancel (record { calls = others; credits = credits }) v e k
  one_change other none k = refl
  one_change (obtain u f n is_declared) none k = refl
  one_change (obtain_kept u f n x) none k = refl
  one_change (renew u x) none k = refl
  one_change (keep u x) none k = refl
  one_change (call_kept u x) none k = refl
  one_change (defer_kept u x) none k = refl
  one_change (give u x) none k = refl
  one_change (give_field u) none k = refl
  one_change (clear u) none k = refl
  one_change (call u) none k = refl
  one_change (defer_call u) none k = refl
  one_change (pass u f n) none k = unpassed u.number (calls f n) (others f n) k λ same. none (inl (ap Some same))
  one_change (defer_pass u f n) none k = unpassed u.number (calls f n) (others f n) k λ same. none (inl (ap Some same))
  one_change (lend g f n) none k = refl
  one_change (start g literal) none k = refl
  one_change (try g literal) none k = refl
  one_change (wait g) none k = refl
  one_change (defer_wait g) none k = refl
  one_change (make g state) none k = refl
  one_change (defer_literal literal) none k = refl
  one_change (go (go_call u)) none k = refl
  one_change (go (go_pass f xs)) none k =
      unsent f xs
      (λ x h same. none (inr record { callee = f; sent = xs; one = x; is_event = refl; is_sent = h; is_it = same })) k
  one_change (go (go_literal literal)) none k = refl
  one_change (return_event handed) none k = refl

  same_cancel : (t : List (Occurrence Event)) → ((o : Occurrence Event) → Contains t o → HandsOn o.event v → ⊥)
      → (k : CancelClass)
      → cancel_after (record { calls = calls; credits = credits }) v k t
      ≡ cancel_after (record { calls = others; credits = credits }) v k t
  same_cancel [] none k = refl
  same_cancel (o ∷ t) none k =
      ap (λ j. cancel_after (record { calls = calls; credits = credits }) v j t)
      (one_change o.event (none o (contains_here o t)) k)
      ∙ same_cancel t (λ x h. none x (contains_there o x t h))
      (change_cancel (record { calls = others; credits = credits }) v o.event k)

  group_change : (e : Event) (k : GroupClass)
      → change_group (record { calls = calls; credits = credits }) v e k
      ≡ change_group (record { calls = others; credits = credits }) v e k
  group_change other k = refl
  group_change (obtain u f n is_declared) k = refl
  group_change (obtain_kept u f n x) k = refl
  group_change (renew u x) k = refl
  group_change (keep u x) k = refl
  group_change (call_kept u x) k = refl
  group_change (defer_kept u x) k = refl
  group_change (give u x) k = refl
  group_change (give_field u) k = refl
  group_change (clear u) k = refl
  group_change (call u) k = refl
  group_change (defer_call u) k = refl
  group_change (pass u f n) k = refl
  group_change (defer_pass u f n) k = refl
  group_change (lend g f n) k = refl
  group_change (start g literal) k = refl
  group_change (try g literal) k = refl
  group_change (wait g) k = refl
  group_change (defer_wait g) k = refl
  group_change (make g state) k = refl
  group_change (defer_literal literal) k = refl
  group_change (go (go_call u)) k = refl
  group_change (go (go_pass f xs)) k = refl
  group_change (go (go_literal literal)) k = refl
  group_change (return_event handed) k = refl

  same_group : (t : List (Occurrence Event)) (k : GroupClass)
      → group_after (record { calls = calls; credits = credits }) v k t
      ≡ group_after (record { calls = others; credits = credits }) v k t
  same_group [] k = refl
  same_group (o ∷ t) k =
      ap (λ j. group_after (record { calls = calls; credits = credits }) v j t) (group_change o.event k)
      ∙ same_group t (change_group (record { calls = others; credits = credits }) v o.event k)

-- What a literal settles

module _ (seen : Seen) (b : BodyPlace) (v : Variable) (among : Contains (variables_of seen b.at) v)
    (is_captured : v.role ≡ captured) (calls : Callee → ℕ → Bool) (credits : Credits) where
  abbrev here : Body
  here = record { home = 0; file = seen; place = b }

  no_pass : (t : List (Occurrence Event)) (o : Occurrence Event) → Reaches (code_of here) t o
      → (x : Occurrence Event) → Contains t x → HandsOn x.event v.number
      → ⊥
  no_pass t o reached x there =
      captured_is_not_passed here x.event
      (list_has (HasSource here) (code_of here) (t ++ o ∷ []) stopped reached
      (of_body (HasSource here) (sites_of seen b.at) says_nothing falls_off
      (λ at e h. let r = marked seen b.at seen.marks at e h in of_mark r.0 r.1 r.2 r.3)
      record { statements = b.statements; braces = b.braces })
      x (Contains-append_left t (o ∷ []) x there))
      v among is_captured

  settled_too : (t : List (Occurrence Event)) (o : Occurrence Event) → Reaches (code_of here) t o
      → (kind : VariableKind) → is_settled (paths_of seen (promises_in calls credits b.at) b) v t kind ≡ true
      → is_settled (paths_of seen (promises_in no_calls credits b.at) b) v t kind ≡ true
  settled_too t o reached cancel is =
      ap is_safe (same_cancel no_calls calls (begun_after b.at credits) v.number t (no_pass t o reached) (entry_cancel v.role))
      ∙ is
  settled_too t o reached group is =
      ap (λ k. not (is_live k)) (same_group no_calls calls (begun_after b.at credits) v.number t (entry_group v.role)) ∙ is

  pub settles_too : Settles (paths_of seen (promises_in calls credits b.at) b) v
      → Settles (paths_of seen (promises_in no_calls credits b.at) b) v
  settles_too h = record {
    at_returns = λ handed t o comes.
        settled_too t o comes.reaches v.kind
        (h.at_returns handed t o (record { reaches = comes.reaches; is_return = comes.is_return }));
  }

-- Credits

module _ (settles : SettlesWhatItSays) (given : Given) (own : Flags) (calls : Callee → ℕ → Bool) (number : ℕ)
    (file : FileWithCredits) where
  credited : (literal variable : ℕ) → IsCreditedBy given own calls number file literal variable
      → IsCredited file.seen file.credits literal variable
  credited literal variable h =
      let b = h.body in
      let paths = paths_of file.seen (promises_in calls file.credits b.at) b in
      let k = h.relied.settles in
      let c = k.certified in
      let same = at_its_offset literal (bodies_of file.seen) b h.is_there in
      let among = contains_at (variables_of file.seen b.at) k.place k.found k.is_of_body in
      let settled = settles paths (checked paths (flags_of_body own b) c.order) c.rows
      (is_of paths (flags_of_body own b) c.order) c.holds k.place k.found k.is_of_body k.settles in
      subst (λ at. IsCredited file.seen file.credits at variable) same (record {
        body = b;
        variable = k.found;
        is_there = subst (λ at. body_at at (bodies_of file.seen) ≡ Some b) (sym same) h.is_there;
        is_followed = c.is_followed;
        is_of_body = among;
        is_captured = k.is_captured;
        is_it = k.is_it;
        binds_none = h.relied.binds_none;
        comes_back = back_alone file.seen.known.edition (goes_off b.literal) file.seen nothing_known
            (promises_in no_calls file.credits b.at) b h.relied.comes_back;
        settles = settles_too file.seen b k.found among k.is_captured calls file.credits settled;
      })

pub credits_are_fair : SettlesWhatItSays → CreditsAreFair
credits_are_fair settles given own calls number file are = record {
  each = λ literal variable e. credited settles given own calls number file literal variable ((are literal variable).0 e);
}
