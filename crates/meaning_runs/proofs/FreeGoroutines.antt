-- In every world of a run some goroutine is free, so work can be started in a group.
use Rattle.std.proofs.Common.{◌≡◌, ℕ, ◌+◌, ◌≤◌, List, [], ◌∷◌, length, Option, Some, None, refl, sym, ap, ◌∙◌, arith}
use Rattle.meaning.specs.Tracked.{GroupState}
use Rattle.meaning.specs.Code.{Code}
use Rattle.meaning.specs.Uses.{Callee, Event}
use Rattle.meaning.proofs.Membership.{contains_here}
use Rattle.meaning_runs.specs.Bodies.{Program}
use Rattle.meaning_runs.specs.World.{put_at, itself, held_group, new_frame, nothing_around, Value, nothing, cancel_function, any_nothing, outside_none, AreForeign, Place, Store, calling, ending, waiting_for, with_member, Frame, World, with_stack}
use Rattle.meaning_runs.specs.Steps.{StartsGoroutine, starts_call, starts_function, starts_foreign, starts_its_literal, of_go, DoesNext, at_code, Starts, Obtains, new_one, earlier_one, none_at_all, Makes, zero_group, with_context, of_function, of_none, Acts, moves_on, does_other, obtains_one, clears_one, calls_one, saves_call, makes_group, tries_nothing, ends_wait, saves_wait, evaluates, evaluates_deferred, lends, makes_call, calls_outside, saves_pass, saves_literal, comes_to_return, runs_call, runs_pass, runs_literal, runs_wait, returns_now, IsFree, ChangesMembers, starts_member, starts_stranger, starts_outside, starts_beside, leaves_group, Surrounds, starts, evaluates_literal, starts_literal, makes_cells, makes_one, ends_one, calls_any, makes_outside, joins_outside, of_goroutine, of_members, of_environment, obtains_into, keeps_one, renews_object, calls_kept, saves_kept, gives_object, gives_in_field}
use Rattle.meaning_runs.specs.Runs.{Run, no_step, step_more}
use Rattle.meaning_runs.specs.Laws.{HasFreeGoroutine, IsThere, Joins, RunsLiteral, GoroutinesAreFree, GroupsGetMembers, MembersMayLeave, TheEnvironmentMay}
use Rattle.meaning_runs.proofs.Contexts.{put_at-same, put_at-other}

-- What a frame does changes no membership.

pub calling_members : (s : Store) (x : Value) → (calling s x).member ≡ s.member
calling_members s nothing = refl
calling_members s (cancel_function a) = refl

ending_members : (s : Store) (context : Option ℕ) → (ending s context).member ≡ s.member
ending_members s None = refl
ending_members s (Some a) = refl

pub waiting_members : (s : Store) (group : Option ℕ) → (waiting_for s group).member ≡ s.member
waiting_members s None = refl
waiting_members s (Some a) = ending_members s (s.group_context a)

obtaining_members : (s made : Store) (c : Callee) (x : Value) → Obtains s c x made → made.member ≡ s.member
obtaining_members s made c x (new_one parent earlier) = refl
obtaining_members s made c x (earlier_one a m l) = refl
obtaining_members s made c x (none_at_all m) = refl

making_members : (s made : Store) (state : GroupState) (context : Option ℕ) → Makes s state context made → made.member ≡ s.member
making_members s made state context zero_group = refl
making_members s made state context (with_context parent earlier) = refl

pub acting_members : (p : Program) (s : Store) (place : Place) (f : Frame) (after : Store) (frames : List Frame) → Acts p s place f after frames → after.member ≡ s.member
acting_members p s place f after frames (moves_on d) = refl
acting_members p s place f after frames (does_other d) = refl
acting_members p s place f after frames (obtains_one {c = c} {value = value} {made = made} d o) = obtaining_members s made c value o
acting_members p s place f after frames (clears_one d) = refl
acting_members p s place f after frames (obtains_into {c = c} {value = value} {made = made} d o) = obtaining_members s made c value o
acting_members p s place f after frames (keeps_one d) = refl
acting_members p s place f after frames (renews_object d) = refl
acting_members p s place f after frames (calls_kept d) = calling_members s _
acting_members p s place f after frames (saves_kept d) = refl
acting_members p s place f after frames (gives_object d) = refl
acting_members p s place f after frames (gives_in_field d) = refl
acting_members p s place f after frames (calls_one d) = calling_members s _
acting_members p s place f after frames (saves_call d) = refl
acting_members p s place f after frames (makes_group {state = state} {context = context} {made = made} d m) = making_members s made state context m
acting_members p s place f after frames (tries_nothing d) = refl
acting_members p s place f after frames (ends_wait d e) = waiting_members s _
acting_members p s place f after frames (saves_wait d) = refl
acting_members p s place f after frames (evaluates d m) = refl
acting_members p s place f after frames (evaluates_deferred d m) = refl
acting_members p s place f after frames (lends d m) = refl
acting_members p s place f after frames (makes_call u d (of_function b values groups is fits)) = refl
acting_members p s place f after frames (makes_call u d (of_none none holds)) = refl
acting_members p s place f after frames (calls_outside c i) = calling_members s _
acting_members p s place f after frames (saves_pass u d) = refl
acting_members p s place f after frames (saves_literal b d i e) = refl
acting_members p s place f after frames (comes_to_return d) = refl
acting_members p s place f after frames (runs_call r) = calling_members s _
acting_members p s place f after frames (runs_pass r (of_function b values groups is fits)) = refl
acting_members p s place f after frames (runs_pass r (of_none none holds)) = refl
acting_members p s place f after frames (runs_literal values groups r foreign) = refl
acting_members p s place f after frames (runs_wait r e) = waiting_members s _
acting_members p s place f after frames (returns_now e) = refl

-- All goroutines from some number on are free.

record AreFreeFrom (n : ℕ) (w : World) : Type 0 where
  each : (g : ℕ) → n ≤ g → IsFree w g

-- a goroutine gets another stack, in a store with these members
stacked : (n : ℕ) (w : World) (after : Store) (g : ℕ) (stack : List Frame) → after.member ≡ w.store.member → AreFreeFrom n w → AreFreeFrom (n + g + 1) (with_stack w after g stack)
stacked n w after g stack members h = record {
  each = λ k l. record {
    has_no_frame = put_at-other w.stacks g stack k (λ q. omega (arith, l, q)) ∙ (h.each k (omega (arith, l))).has_no_frame;
    is_no_member = ap (λ (f : ℕ → Option ℕ). f k) members ∙ (h.each k (omega (arith, l))).is_no_member;
  };
}

-- it becomes a member, or is none any more
joined : (n : ℕ) (w : World) (g : ℕ) (group : Option ℕ) → AreFreeFrom n w → AreFreeFrom (n + g + 1) (record w { store = with_member w.store g group })
joined n w g group h = record {
  each = λ k l. record {
    has_no_frame = (h.each k (omega (arith, l))).has_no_frame;
    is_no_member = put_at-other w.store.member g group k (λ q. omega (arith, l, q)) ∙ (h.each k (omega (arith, l))).is_no_member;
  };
}

-- neither changes
stored : (n : ℕ) (w : World) (after : Store) → after.member ≡ w.store.member → AreFreeFrom n w → AreFreeFrom n (record w { store = after })
stored n w after members h = record {
  each = λ k l. record {
    has_no_frame = (h.each k l).has_no_frame;
    is_no_member = ap (λ (f : ℕ → Option ℕ). f k) members ∙ (h.each k l).is_no_member;
  };
}

-- what is to be called says nothing of it
with_calls : {w : World} (n : ℕ) (calls : List ℕ) → AreFreeFrom n w → AreFreeFrom n (record w { to_call = calls })
with_calls n calls h = record {
  each = λ k l. record { has_no_frame = (h.each k l).has_no_frame; is_no_member = (h.each k l).is_no_member };
}

abbrev SomeAreFree : World → Type 0
SomeAreFree w = (n : ℕ) × AreFreeFrom n w

by_members : (p : Program) (w next : World) → ChangesMembers p w next → SomeAreFree w → SomeAreFree next
by_members p w next (starts_member {f = f} {others = others} {rest = rest} {group = group} g k b values groups d free i at foreign) h =
    let on = stacked h.0 w w.store g _ refl h.1 in
    let member = joined _ _ k (Some group) on in
    (_, stacked _ (record (with_stack w w.store g _) { store = with_member w.store k (Some group) }) _ k _ refl member)
by_members p w next (starts_stranger {group = group} g k d free) h =
    (_, joined _ _ k (Some group) (stacked h.0 w w.store g _ refl h.1))
by_members p w next (starts_outside {group = group} g k at c lent is free) h = (_, joined h.0 w k (Some group) h.1)
by_members p w next (starts_beside {group = group} g k member none free) h = (_, joined h.0 w k (Some group) h.1)
by_members p w next (leaves_group g member none) h = (_, joined h.0 w g None h.1)

by_go : (p : Program) (w next : World) → StartsGoroutine p w next → SomeAreFree w → SomeAreFree next
by_go p w next (starts_call g sets) h = let on = stacked h.0 w w.store g _ refl h.1 in (_, with_calls _ _ on)
by_go p w next (starts_function g k b values groups sets free is fits) h =
    let on = stacked h.0 w w.store g _ refl h.1 in (_, stacked _ _ _ k _ refl on)
by_go p w next (starts_foreign g sets none) h = let on = stacked h.0 w w.store g _ refl h.1 in (_, with_calls _ _ on)
by_go p w next (starts_its_literal g k b values groups sets free is_in is_at foreign) h =
    let on = stacked h.0 w w.store g _ refl h.1 in (_, stacked _ _ _ k _ refl on)

by_environment : (p : Program) (w next : World) → Surrounds p w next → SomeAreFree w → SomeAreFree next
by_environment p w next (starts g b values groups free of d foreign) h = (_, stacked h.0 w _ g _ refl h.1)
by_environment p w next (evaluates_literal g f b c i) h = (h.0, record { each = λ k l. record { has_no_frame = (h.1.each k l).has_no_frame; is_no_member = (h.1.each k l).is_no_member } })
by_environment p w next (starts_literal g c values groups free i foreign) h = (_, stacked h.0 w _ g _ refl h.1)
by_environment p w next (makes_cells values groups foreign) h = (_, stored h.0 w _ refl h.1)
by_environment p w next (makes_one parent earlier) h = (_, stored h.0 w _ refl h.1)
by_environment p w next (ends_one a l) h = (_, stored h.0 w _ refl h.1)
by_environment p w next (calls_any a l) h = (_, stored h.0 w _ refl h.1)
by_environment p w next (makes_outside context earlier) h = (_, stored h.0 w _ refl h.1)
by_environment p w next (joins_outside g a free outside) h = (_, joined h.0 w g (Some a) h.1)

run_leaves_free : (p : Program) (w : World) → Run p w → SomeAreFree w
run_leaves_free p w no_step = (0, record { each = λ k l. record { has_no_frame = refl; is_no_member = refl } })
run_leaves_free p w (step_more {w = before} run (of_goroutine {f = f} {others = others} {after = after} {frames = frames} g at a)) =
    let h = run_leaves_free p before run in
    (_, stacked h.0 before after g _ (acting_members p before.store (g, length others) f after frames a) h.1)
run_leaves_free p w (step_more {w = before} run (of_members c)) = by_members p before w c (run_leaves_free p before run)
run_leaves_free p w (step_more {w = before} run (of_go s)) = by_go p before w s (run_leaves_free p before run)
run_leaves_free p w (step_more {w = before} run (of_environment s)) = by_environment p before w s (run_leaves_free p before run)

pub goroutines_are_free : GoroutinesAreFree
goroutines_are_free p w run = let h = run_leaves_free p w run in (h.0, h.1.each h.0 (omega arith))

pub none_given : (s : Store) → AreForeign s (λ v. nothing) (λ v. None)
none_given s = record { any = λ v. any_nothing; foreign = λ v. outside_none }

-- a free goroutine is none of those that run
pub apart : (w : World) (g h : ℕ) (f : Frame) (others : List Frame) → w.stacks g ≡ f ∷ others → IsFree w h → h ≡ g → ⊥
apart w g h f others at free q = let bad : [] ≡ f ∷ others = sym free.has_no_frame ∙ (ap w.stacks q ∙ at) in cc

pub starts_one : (p : Program) (w : World) (g : ℕ) (f : Frame) (others : List Frame) (e : Event) (rest : Code Event)
    (v group : ℕ) (literal : Option ℕ)
    → w.stacks g ≡ f ∷ others
    → DoesNext f e rest
    → Starts e v literal
    → held_group w.store f v ≡ Some group
    → IsThere f.body literal
    → HasFreeGoroutine w
    → Joins p w group (RunsLiteral w f literal) g (at_code f rest ∷ others)
starts_one p w g f others e rest v group None at d is holds there free = record {
  next = _;
  step =
      of_members (starts_stranger g free.0
      record { event = e; variable = v; is_running = at; does_next = d; is_start = is; is_held = holds } free.1);
  goroutine = free.0;
  was_free = free.1;
  is_member = put_at-same w.store.member free.0 (Some group);
  begins =
      put_at-other w.stacks g (at_code f rest ∷ others) free.0 (apart w g free.0 f others at free.1)
      ∙ free.1.has_no_frame;
  goes_on = put_at-same w.stacks g (at_code f rest ∷ others);
}
starts_one p w g f others e rest v group (Some offset) at d is holds there free =
    let stacks = put_at w.stacks g (at_code f rest ∷ others) in
    let stack = new_frame w.store there.0 f.newest ∷ [] in
    record {
      next = _;
      step =
          of_members (starts_member g free.0 there.0 (λ v. nothing) (λ v. None)
          record { event = e; variable = v; is_running = at; does_next = d; is_start = is; is_held = holds }
          free.1 there.1 there.2 (none_given w.store));
      goroutine = free.0;
      was_free = free.1;
      is_member = put_at-same w.store.member free.0 (Some group);
      begins = (there.0, there.1, there.2, put_at-same stacks free.0 stack);
      goes_on =
          put_at-other stacks free.0 stack g (λ q. apart w g free.0 f others at free.1 (sym q))
          ∙ put_at-same w.stacks g (at_code f rest ∷ others);
    }

pub groups_get_members : GroupsGetMembers
groups_get_members p w g f others e rest v group literal run at d is holds there =
    starts_one p w g f others e rest v group literal at d is holds there (goroutines_are_free p w run)

pub members_may_leave : MembersMayLeave
members_may_leave p w g group member none = record {
  next = _;
  step = of_members (leaves_group g member none);
  is_no_member = put_at-same w.store.member g None;
  others_stay = λ h other. put_at-other w.store.member g None h other;
  same_frames = refl;
}

pub the_environment_may : TheEnvironmentMay
the_environment_may p w = record {
  call_any = λ g b values groups free of outermost foreign. (
    _,
    of_environment (starts g b values groups free of outermost foreign),
    put_at-same w.stacks g (new_frame w.store b nothing_around ∷ []),
  );
  get_any_literal = λ g f b among escapes. (
    _,
    of_environment (evaluates_literal g f b among escapes),
    contains_here record { literal = b; newest = f.newest } w.escaped,
  );
  call_any_literal = λ g c values groups free among foreign. (
    _,
    of_environment (starts_literal g c values groups free among foreign),
    put_at-same w.stacks g (new_frame w.store c.literal c.newest ∷ []),
  );
  end_any = λ a l. (
    _,
    of_environment (ends_one a l),
    record { context = a; was_ended = contains_here a w.store.ended; comes_from = itself },
  );
  call_any_cancel = λ a l. (_, of_environment (calls_any a l), contains_here a w.store.called);
  start_in_any = λ g group free made. (
    _,
    of_environment (joins_outside g group free made),
    put_at-same w.store.member g (Some group),
  );
  start_beside = λ g h group member none free. (
    _,
    of_members (starts_beside g h member none free),
    put_at-same w.store.member h (Some group),
  );
}
