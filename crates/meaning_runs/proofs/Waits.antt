-- A Wait ends only where its group has no member.
use Rattle.std.proofs.Common.{◌≡◌, ℕ, inl, inr, true, false, List, [], ◌∷◌, Option, Some, None, Contains, refl, sym, ap, ◌∙◌, subst}
use Rattle.meaning.specs.Code.{Occurrence, Code}
use Rattle.meaning.specs.Uses.{Event, wait}
use Rattle.meaning.proofs.Membership.{contains_here, contains_cases, contains_nil}
use Rattle.meaning_runs.specs.Bodies.{Program}
use Rattle.meaning_runs.specs.World.{Value, Place, Store, itself, IsDone, ending, MayEndWait, waiting_for, Passing, Closure, Saved, saved_call, saved_pass, saved_literal, saved_wait, runs, Frame, held_group}
use Rattle.meaning_runs.specs.Steps.{GoesOn, ComesTo, RunsSaved, ComesToCall, at_once, saved_before, Acts, moves_on, does_other, obtains_one, clears_one, calls_one, saves_call, makes_group, tries_nothing, ends_wait, saves_wait, evaluates, evaluates_deferred, lends, makes_call, calls_outside, saves_pass, saves_literal, comes_to_return, runs_call, runs_pass, runs_literal, runs_wait, returns_now, obtains_into, keeps_one, renews_object, calls_kept, saves_kept, gives_object, gives_in_field}
use Rattle.meaning_runs.specs.RunLists.{events_of_act, is_wait}
use Rattle.meaning_runs.specs.Waits.{EndsWait, AllWaitsWait}
use Rattle.meaning_runs.proofs.Places.{exits≢runs}

ended : (s : Store) (o : Option ℕ) (a : ℕ) → o ≡ Some a → IsDone (ending s o) a
ended s None a e = let bad : None ≡ Some a = e in absurd cc
ended s (Some b) a e =
    let same : b ≡ a = cc in
    record { context = a; was_ended = subst (λ n. Contains (b ∷ s.ended) n) same (contains_here b s.ended); comes_from = itself }

ends_so : (s : Store) (o : Option ℕ) (group : ℕ) → o ≡ Some group → MayEndWait s o → EndsWait s (waiting_for s o) group
ends_so s o group e h =
    subst (λ x. EndsWait s (waiting_for s x) group) (sym e) record { no_member = subst (MayEndWait s) e h; context_is_done = λ a c. ended s (s.group_context group) a c }

-- an event that is no Wait
no_wait : (x o : Occurrence Event) (v : ℕ) → is_wait x.event ≡ false → Contains (x ∷ []) o → o.event ≡ wait v → ⊥
no_wait x o v none h e = elim (contains_cases x o [] h) [
  | inl same ↦ wrong (sym none ∙ ap (λ (q : Occurrence Event). is_wait q.event) same ∙ ap is_wait e)
  | inr n ↦ contains_nil o n
]
  where
    wrong : false ≡ true → ⊥
    wrong q = cc

same_wait : (x o : Occurrence Event) (u v : ℕ) → x.event ≡ wait u → Contains (x ∷ []) o → o.event ≡ wait v → u ≡ v
same_wait x o u v is h e = elim (contains_cases x o [] h) [
  | inl same ↦ variable (sym is ∙ ap (λ (q : Occurrence Event). q.event) same ∙ e)
  | inr n ↦ absurd (contains_nil o n)
]
  where
    variable : wait u ≡ wait v → u ≡ v
    variable q = cc

module _ (p : Program) (s : Store) (place : Place) (f : Frame) where
  by_event : (after : Store) (frames : List Frame) (act : Acts p s place f after frames) (o : Occurrence Event) (v group : ℕ) → Contains (events_of_act act) o → o.event ≡ wait v → held_group s f v ≡ Some group → EndsWait s after group
  by_event after frames (moves_on g) o v group h e is = absurd (contains_nil o h)
  by_event after frames (does_other d) o v group h e is = absurd (no_wait _ o v refl h e)
  by_event after frames (obtains_one d k) o v group h e is = absurd (no_wait _ o v refl h e)
  by_event after frames (clears_one d) o v group h e is = absurd (no_wait _ o v refl h e)
  by_event after frames (obtains_into d k) o v group h e is = absurd (no_wait _ o v refl h e)
  by_event after frames (keeps_one d) o v group h e is = absurd (no_wait _ o v refl h e)
  by_event after frames (renews_object d) o v group h e is = absurd (no_wait _ o v refl h e)
  by_event after frames (calls_kept d) o v group h e is = absurd (no_wait _ o v refl h e)
  by_event after frames (saves_kept d) o v group h e is = absurd (no_wait _ o v refl h e)
  by_event after frames (gives_object d) o v group h e is = absurd (no_wait _ o v refl h e)
  by_event after frames (gives_in_field d) o v group h e is = absurd (no_wait _ o v refl h e)
  by_event after frames (calls_one d) o v group h e is = absurd (no_wait _ o v refl h e)
  by_event after frames (saves_call d) o v group h e is = absurd (no_wait _ o v refl h e)
  by_event after frames (makes_group d m) o v group h e is = absurd (no_wait _ o v refl h e)
  by_event after frames (tries_nothing d) o v group h e is = absurd (no_wait _ o v refl h e)
  by_event after frames (ends_wait {v = u} d m) o v group h e is =
      ends_so s (held_group s f u) group (ap (held_group s f) (same_wait _ o u v refl h e) ∙ is) m
  by_event after frames (saves_wait d) o v group h e is = absurd (no_wait _ o v refl h e)
  by_event after frames (evaluates d j) o v group h e is = absurd (no_wait _ o v refl h e)
  by_event after frames (evaluates_deferred d j) o v group h e is = absurd (no_wait _ o v refl h e)
  by_event after frames (lends d j) o v group h e is = absurd (no_wait _ o v refl h e)
  by_event after frames (makes_call u n b) o v group h e is = absurd (contains_nil o h)
  by_event after frames (calls_outside c x) o v group h e is = absurd (contains_nil o h)
  by_event after frames (saves_pass u d) o v group h e is = absurd (contains_nil o h)
  by_event after frames (saves_literal b d i q) o v group h e is = absurd (no_wait _ o v refl h e)
  by_event after frames (comes_to_return d) o v group h e is = absurd (no_wait _ o v refl h e)
  by_event after frames (runs_call r) o v group h e is = absurd (contains_nil o h)
  by_event after frames (runs_pass r b) o v group h e is = absurd (contains_nil o h)
  by_event after frames (runs_literal values groups r foreign) o v group h e is = absurd (contains_nil o h)
  by_event after frames (runs_wait r m) o v group h e is = absurd (contains_nil o h)
  by_event after frames (returns_now n) o v group h e is = absurd (contains_nil o h)

  module _ (group : ℕ) (left : List Saved) (waits : RunsSaved f (saved_wait (Some group)) left) where
    not_running : (c : Code Event) → f.stage ≡ runs c → ⊥
    not_running c e = exits≢runs c (sym waits.stage ∙ e)

    goes_nowhere : {o : Option (Occurrence Event)} {rest : Code Event} → GoesOn f o rest → ⊥
    goes_nowhere d = not_running d.code d.stage

    comes_nowhere : {e : Event} {rest : Code Event} → ComesTo f e rest → ⊥
    comes_nowhere d = goes_nowhere d.goes_on

    first_is : (x : Saved) (more : List Saved) → RunsSaved f x more → x ≡ saved_wait (Some group)
    first_is x more r = same (sym r.saved ∙ waits.saved)
      where
        same : x ∷ more ≡ saved_wait (Some group) ∷ left → x ≡ saved_wait (Some group)
        same q = cc

    no_call : (value : Value) → saved_call value ≡ saved_wait (Some group) → ⊥
    no_call value e = cc

    no_pass : (passing : Passing) → saved_pass passing ≡ saved_wait (Some group) → ⊥
    no_pass passing e = cc

    no_literal : (c : Closure) → saved_literal c ≡ saved_wait (Some group) → ⊥
    no_literal c e = cc

    same_group : (o : Option ℕ) → saved_wait o ≡ saved_wait (Some group) → o ≡ Some group
    same_group o e = cc

    none_left : f.saved ≡ [] → ⊥
    none_left e = let bad : [] ≡ saved_wait (Some group) ∷ left = sym e ∙ waits.saved in cc

    no_outside : (passing : Passing) → ComesToCall f passing → ⊥
    no_outside passing (at_once {code = code} u d) = not_running code u.stage
    no_outside passing (saved_before {left = more} r) = no_pass passing (first_is (saved_pass passing) more r)

    by_saved : (after : Store) (frames : List Frame) → Acts p s place f after frames → EndsWait s after group
    by_saved after frames (moves_on g) = absurd (goes_nowhere g)
    by_saved after frames (does_other d) = absurd (comes_nowhere d.comes_to)
    by_saved after frames (obtains_one d k) = absurd (comes_nowhere d.comes_to)
    by_saved after frames (clears_one d) = absurd (comes_nowhere d.comes_to)
    by_saved after frames (obtains_into d k) = absurd (comes_nowhere d.comes_to)
    by_saved after frames (keeps_one d) = absurd (comes_nowhere d.comes_to)
    by_saved after frames (renews_object d) = absurd (comes_nowhere d.comes_to)
    by_saved after frames (calls_kept d) = absurd (comes_nowhere d.comes_to)
    by_saved after frames (saves_kept d) = absurd (comes_nowhere d.comes_to)
    by_saved after frames (gives_object d) = absurd (comes_nowhere d.comes_to)
    by_saved after frames (gives_in_field d) = absurd (comes_nowhere d.comes_to)
    by_saved after frames (calls_one d) = absurd (comes_nowhere d.comes_to)
    by_saved after frames (saves_call d) = absurd (comes_nowhere d.comes_to)
    by_saved after frames (makes_group d m) = absurd (comes_nowhere d.comes_to)
    by_saved after frames (tries_nothing d) = absurd (comes_nowhere d.comes_to)
    by_saved after frames (ends_wait d m) = absurd (comes_nowhere d.comes_to)
    by_saved after frames (saves_wait d) = absurd (comes_nowhere d.comes_to)
    by_saved after frames (evaluates d j) = absurd (comes_nowhere d)
    by_saved after frames (evaluates_deferred d j) = absurd (comes_nowhere d)
    by_saved after frames (lends d j) = absurd (comes_nowhere d)
    by_saved after frames (makes_call {code = code} u n b) = absurd (not_running code u.stage)
    by_saved after frames (calls_outside {passing = passing} c x) = absurd (no_outside passing c.comes_to_it)
    by_saved after frames (saves_pass {code = code} u d) = absurd (not_running code u.stage)
    by_saved after frames (saves_literal b d i q) = absurd (comes_nowhere d.comes_to)
    by_saved after frames (comes_to_return d) = absurd (comes_nowhere d.comes_to)
    by_saved after frames (runs_call {value = value} {left = more} r) = absurd (no_call value (first_is (saved_call value) more r))
    by_saved after frames (runs_pass {passing = passing} {left = more} r b) = absurd (no_pass passing (first_is (saved_pass passing) more r))
    by_saved after frames (runs_literal {c = c} {left = more} values groups r foreign) = absurd (no_literal c (first_is (saved_literal c) more r))
    by_saved after frames (runs_wait {group = o} {left = more} r m) = ends_so s o group (same_group o (first_is (saved_wait o) more r)) m
    by_saved after frames (returns_now n) = absurd (none_left n.saved)

pub waits_wait : AllWaitsWait
waits_wait p s place f after frames = record {
  by_event = λ act o v group h e is. by_event p s place f after frames act o v group h e is;
  by_saved_wait = λ {group} {left} act r. by_saved p s place f group left r after frames act;
}
