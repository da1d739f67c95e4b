-- How a run goes on while goroutines keep what they run: by steps of the environment, or by one step of the program.
use Rattle.std.proofs.Common.{◌≡◌, ℕ, ◌⊎◌, inl, inr, Bool, true, false, List, [], ◌∷◌, Option, Some, None, Contains, refl, sym, ap, ◌∙◌, subst}
use Rattle.std.proofs.lemmas.Bool.{false≢true, cases_eq}
use Rattle.meaning.proofs.Membership.{contains_cases}
use Rattle.meaning_runs.specs.Bodies.{Program}
use Rattle.meaning_runs.specs.World.{put_at, nothing_around, Frame, World}
use Rattle.meaning_runs.specs.Steps.{ChangesMembers, starts_member, starts_stranger, starts_outside, starts_beside, leaves_group, StartsGoroutine, starts_call, starts_function, starts_foreign, starts_its_literal, Surrounds, starts, evaluates_literal, starts_literal, makes_cells, makes_one, ends_one, calls_any, makes_outside, joins_outside, Step, of_goroutine, of_members, of_go, of_environment}
use Rattle.meaning_runs.specs.Runs.{Run, step_more, started_outside, started_after, was_started, Started, started_with, and_step, started_in, KeepsRunning, not_yet, runs_on}
use Rattle.meaning_runs.proofs.Contexts.{put_at-same, put_at-other}

abbrev pub IsSome : List Frame → Type 0
IsSome fs = fs ≡ [] → ⊥

pub cons_is_some : (f : Frame) (fs : List Frame) → IsSome (f ∷ fs)
cons_is_some f fs e = cc

-- one goroutine gets a frame, and was some before or has one now
pub put_some : (st : ℕ → List Frame) (h : ℕ) (fs : List Frame) (g : ℕ) → IsSome fs → IsSome (st g)
    → IsSome (put_at st h fs g)
put_some st h fs g new old e = elim (cases_eq g h) [
  | inl same ↦ new (sym (put_at-same st h fs) ∙ (sym (ap (put_at st h fs) same) ∙ e))
  | inr ne ↦ old (sym (put_at-other st h fs g ne) ∙ e)
]

-- where it ran before
put_running : (st : ℕ → List Frame) (h : ℕ) (fs : List Frame) (g : ℕ) → IsSome (st h) → IsSome (put_at st h fs g)
    → IsSome (st g)
put_running st h fs g running now e = elim (cases_eq g h) [
  | inl same ↦ running (ap st (sym same) ∙ e)
  | inr ne ↦ now (put_at-other st h fs g ne ∙ e)
]

running_some : (fs : List Frame) (f : Frame) (others : List Frame) → fs ≡ f ∷ others → IsSome fs
running_some fs f others running e = cons_is_some f others (sym running ∙ e)

starts_so : (st : ℕ → List Frame) (was : ℕ → Bool) (g h : ℕ) (fs : List Frame) → put_at was h false g ≡ true
    → IsSome (put_at st h fs g)
    → (was g ≡ true) × IsSome (st g)
starts_so st was g h fs e some = elim (cases_eq g h) [
  | inl same ↦ absurd (false≢true (sym (put_at-same was h false) ∙ (sym (ap (put_at was h false) same) ∙ e)))
  | inr ne ↦ (sym (put_at-other was h false g ne) ∙ e, λ none. some (put_at-other st h fs g ne ∙ none))
]

-- by the environment

module _ {p : Program} {x : World} where
  pub surrounds_keeps : {next : World} (does : Surrounds p x next) (g : ℕ) → IsSome (x.stacks g)
      → IsSome (next.stacks g)
  surrounds_keeps (starts h b values groups free of outermost foreign) g some =
      put_some x.stacks h _ g (cons_is_some _ []) some
  surrounds_keeps (evaluates_literal h f b among escapes) g some = some
  surrounds_keeps (starts_literal h c values groups free among foreign) g some =
      put_some x.stacks h _ g (cons_is_some _ []) some
  surrounds_keeps (makes_cells values groups foreign) g some = some
  surrounds_keeps (makes_one parent earlier) g some = some
  surrounds_keeps (ends_one a within) g some = some
  surrounds_keeps (calls_any a within) g some = some
  surrounds_keeps (makes_outside context earlier) g some = some
  surrounds_keeps (joins_outside h a free made) g some = some

  module _ (was : ℕ → Bool) (g : ℕ) where
    surrounds_was : {next : World} (does : Surrounds p x next) → started_outside does was g ≡ true
        → IsSome (next.stacks g)
        → (was g ≡ true) × IsSome (x.stacks g)
    surrounds_was (starts h b values groups free of outermost foreign) e some = starts_so x.stacks was g h _ e some
    surrounds_was (evaluates_literal h f b among escapes) e some = (e, some)
    surrounds_was (starts_literal h c values groups free among foreign) e some = starts_so x.stacks was g h _ e some
    surrounds_was (makes_cells values groups foreign) e some = (e, some)
    surrounds_was (makes_one parent earlier) e some = (e, some)
    surrounds_was (ends_one a within) e some = (e, some)
    surrounds_was (calls_any a within) e some = (e, some)
    surrounds_was (makes_outside context earlier) e some = (e, some)
    surrounds_was (joins_outside h a free made) e some = (e, some)

-- what is new, if anything
abbrev pub IsNew : Option (ℕ × Started) → ℕ → Type 0
IsNew None g = ⊥
IsNew (Some k) g = g ≡ k.0

abbrev pub IsBegun : Option (ℕ × Started) → Started → Type 0
IsBegun None s = ⊥
IsBegun (Some k) s = k.1 ≡ s

pub record FollowedBy (p : Program) (w : World) (run : Run p w) (x : World) : Type 0 where
  pub more : Run p x
  pub stays : (g : ℕ) → IsSome (w.stacks g) → IsSome (x.stacks g)
  pub keeps : (g : ℕ) → IsSome (w.stacks g) → KeepsRunning p g w run x more
  pub was : (g : ℕ) → was_started more g ≡ true → IsSome (x.stacks g) → (was_started run g ≡ true) × IsSome (w.stacks g)
  pub starts : started_in more ≡ started_in run

-- by one step, by which at most this goroutine is new, started with this
pub record Followed (p : Program) (w : World) (run : Run p w) (new : Option (ℕ × Started)) (x : World) : Type 0 where
  pub more : Run p x
  pub keeps : (g : ℕ) → IsSome (w.stacks g) → IsSome (x.stacks g) → KeepsRunning p g w run x more
  pub was : (g : ℕ) → was_started more g ≡ true → IsSome (x.stacks g)
      → ((was_started run g ≡ true) × IsSome (w.stacks g)) ⊎ IsNew new g
  pub starts : (k : Started) → Contains (started_in more) k → Contains (started_in run) k ⊎ IsBegun new k

module _ {p : Program} {w : World} where
  abbrev pub new_members : {next : World} → ChangesMembers p w next → Option (ℕ × Started)
  new_members (starts_member {f = f} g h b values groups work free is_in is_at foreign) =
      Some (h, started_with w.store b groups f.newest)
  new_members (starts_stranger g h work free) = None
  new_members (starts_outside g h running call lent is free) = None
  new_members (starts_beside g h member none free) = None
  new_members (leaves_group g member none) = None

  abbrev pub new_goings : {next : World} → StartsGoroutine p w next → Option (ℕ × Started)
  new_goings (starts_call g sets) = None
  new_goings (starts_function g h b values groups sets free is fits) =
      Some (h, started_with w.store b groups nothing_around)
  new_goings (starts_foreign g sets no_body) = None
  new_goings (starts_its_literal {f = f} g h b values groups sets free is_in is_at foreign) =
      Some (h, started_with w.store b groups f.newest)

  abbrev pub new_in : {next : World} → Step p w next → Option (ℕ × Started)
  new_in (of_goroutine g running acts) = None
  new_in (of_members changes) = new_members changes
  new_in (of_go going) = new_goings going
  new_in (of_environment surrounds) = None

module _ {p : Program} {w : World} (run : Run p w) where
  pub nothing_yet : FollowedBy p w run w
  nothing_yet = record {
    more = run;
    stays = λ g some. some;
    keeps = λ g some. not_yet;
    was = λ g e some. (e, some);
    starts = refl;
  }

  pub environment_more : {x next : World} → FollowedBy p w run x → Surrounds p x next → FollowedBy p w run next
  environment_more r does = record {
    more = step_more r.more (of_environment does);
    stays = λ g some. surrounds_keeps does g (r.stays g some);
    keeps = λ g some. runs_on (r.keeps g some) (of_environment does) (surrounds_keeps does g (r.stays g some));
    was = λ g e some. let k = surrounds_was (was_started r.more) g does e some in r.was g k.0 k.1;
    starts = r.starts;
  }

  pub by_some : (new : Option (ℕ × Started)) {x : World} → FollowedBy p w run x → Followed p w run new x
  by_some new r = record {
    more = r.more;
    keeps = λ g some now. r.keeps g some;
    was = λ g e some. inl (r.was g e some);
    starts = λ k c. inl (subst (λ l. Contains l k) r.starts c);
  }

  -- what the step itself tells of who is new
  abbrev Tells : (next : World) → (ℕ → Bool) → Option (ℕ × Started) → Type 0
  Tells next now new = (g : ℕ) → now g ≡ true → IsSome (next.stacks g)
      → ((was_started run g ≡ true) × IsSome (w.stacks g)) ⊎ IsNew new g

  one_step : {next : World} (step : Step p w next) (new : Option (ℕ × Started))
      → Tells next (started_after step (was_started run)) new
      → ((k : Started) → Contains (and_step step (started_in run)) k → Contains (started_in run) k ⊎ IsBegun new k)
      → Followed p w run new next
  one_step step new tells begins = record {
    more = step_more run step;
    keeps = λ g some now. runs_on not_yet step now;
    was = tells;
    starts = begins;
  }

  -- the running frame goes on, and the other begins
  both_tell : (g h : ℕ) (fs new : List Frame) → IsSome (w.stacks g) → (k : ℕ) → put_at (was_started run) h true k ≡ true
      → IsSome (put_at (put_at w.stacks g fs) h new k)
      → ((was_started run k ≡ true) × IsSome (w.stacks k)) ⊎ (k ≡ h)
  both_tell g h fs new running k e some = elim (cases_eq k h) [
    | inl same ↦ inr same
    | inr ne ↦ inl (
      sym (put_at-other (was_started run) h true k ne) ∙ e,
      put_running w.stacks g fs k running (λ none. some (put_at-other (put_at w.stacks g fs) h new k ne ∙ none)),
    )
  ]

  one_more : (h : ℕ) (new : Started) (k : Started) → Contains (new ∷ started_in run) k
      → Contains (started_in run) k ⊎ IsBegun (Some (h, new)) k
  one_more h new k c = elim (contains_cases new k (started_in run) c) [ inl same ↦ inr same | inr more ↦ inl more ]

  none_more : (k : Started) → Contains (started_in run) k → Contains (started_in run) k ⊎ IsBegun None k
  none_more k c = inl c

  pub members_more : {next : World} (changes : ChangesMembers p w next) → Followed p w run (new_members changes) next
  members_more (starts_member {f = f} {others = others} g h b values groups work free is_in is_at foreign) =
      one_step (of_members (starts_member g h b values groups work free is_in is_at foreign)) (Some (h, started_with w.store b groups f.newest))
      (λ k e some. both_tell g h _ _ (running_some (w.stacks g) f others work.is_running) k e some)
      (one_more h (started_with w.store b groups f.newest))
  members_more (starts_stranger {f = f} {others = others} g h work free) =
      one_step (of_members (starts_stranger g h work free)) None
      (λ k e some. inl (e, put_running w.stacks g _ k (running_some (w.stacks g) f others work.is_running) some)) none_more
  members_more (starts_outside g h running call lent is free) =
      one_step (of_members (starts_outside g h running call lent is free)) None (λ k e some. inl (e, some)) none_more
  members_more (starts_beside g h member none free) =
      one_step (of_members (starts_beside g h member none free)) None (λ k e some. inl (e, some)) none_more
  members_more (leaves_group g member none) =
      one_step (of_members (leaves_group g member none)) None (λ k e some. inl (e, some)) none_more

  pub goings_more : {next : World} (going : StartsGoroutine p w next) → Followed p w run (new_goings going) next
  goings_more (starts_call {f = f} {others = others} g sets) =
      one_step (of_go (starts_call g sets)) None
      (λ k e some. inl (e, put_running w.stacks g _ k (running_some (w.stacks g) f others sets.is_running) some)) none_more
  goings_more (starts_function {f = f} {others = others} g h b values groups sets free is fits) =
      one_step (of_go (starts_function g h b values groups sets free is fits)) (Some (h, started_with w.store b groups nothing_around))
      (λ k e some. both_tell g h _ _ (running_some (w.stacks g) f others sets.is_running) k e some)
      (one_more h (started_with w.store b groups nothing_around))
  goings_more (starts_foreign {f = f} {others = others} g sets no_body) =
      one_step (of_go (starts_foreign g sets no_body)) None
      (λ k e some. inl (e, put_running w.stacks g _ k (running_some (w.stacks g) f others sets.is_running) some)) none_more
  goings_more (starts_its_literal {f = f} {others = others} g h b values groups sets free is_in is_at foreign) =
      one_step (of_go (starts_its_literal g h b values groups sets free is_in is_at foreign)) (Some (h, started_with w.store b groups f.newest))
      (λ k e some. both_tell g h _ _ (running_some (w.stacks g) f others sets.is_running) k e some)
      (one_more h (started_with w.store b groups f.newest))

  pub goroutine_more : {next : World} (step : Step p w next) (g : ℕ) (f : Frame) (others fs : List Frame)
      → w.stacks g ≡ f ∷ others
      → next.stacks ≡ put_at w.stacks g fs
      → started_after step (was_started run) ≡ was_started run
      → and_step step (started_in run) ≡ started_in run
      → Followed p w run None next
  goroutine_more step g f others fs running same started begun =
      one_step step None (λ k e some. inl (
        ap (λ (z : ℕ → Bool). z k) (sym started) ∙ e,
        put_running w.stacks g fs k (running_some (w.stacks g) f others running)
            (subst (λ (z : ℕ → List Frame). IsSome (z k)) same some),
      )) (λ k c. inl (subst (λ l. Contains l k) begun c))

-- one after another
pub keeps_then : (p : Program) (g : ℕ) (w : World) (run : Run p w) (x : World) (more : Run p x) (last : World) (end : Run p last)
    → KeepsRunning p g w run x more
    → KeepsRunning p g x more last end
    → KeepsRunning p g w run last end
keeps_then p g w run x more last end first not_yet = first
keeps_then p g w run x more last end first (runs_on then step some) =
    runs_on (keeps_then p g w run x more _ _ first then) step some
