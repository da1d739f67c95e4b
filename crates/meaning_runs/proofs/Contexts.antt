-- What holds of the contexts of every world of a run.
use Rattle.std.proofs.Common.{◌≡◌, ℕ, ◌+◌, ◌<◌, ◌⊎◌, inl, inr, cond, List, ◌∷◌, length, Option, Some, None, Contains, refl, sym, ap, ◌∙◌, subst, arith}
use Rattle.std.proofs.lemmas.Bool.{eq-eqb, ne_eqb, cases_eq}
use Rattle.meaning.proofs.Membership.{contains_here, contains_there, contains_cases, contains_nil}
use Rattle.meaning.specs.Tracked.{GroupState}
use Rattle.meaning.specs.Uses.{Callee}
use Rattle.meaning_runs.specs.Bodies.{Program}
use Rattle.meaning_runs.specs.World.{Value, nothing, cancel_function, Place, Store, put_at, ComesFrom, itself, made_from, IsDone, with_new, calling, ending, waiting_for, Frame, World, Passing}
use Rattle.meaning_runs.specs.Steps.{StartsGoroutine, starts_call, starts_function, starts_foreign, starts_its_literal, of_go, Obtains, new_one, earlier_one, none_at_all, Makes, zero_group, with_context, Begins, of_function, of_none, Acts, moves_on, does_other, obtains_one, clears_one, calls_one, saves_call, makes_group, tries_nothing, ends_wait, saves_wait, evaluates, evaluates_deferred, lends, makes_call, calls_outside, saves_pass, saves_literal, comes_to_return, runs_call, runs_pass, runs_literal, runs_wait, returns_now, ChangesMembers, starts_member, starts_stranger, starts_outside, starts_beside, leaves_group, Surrounds, starts, evaluates_literal, starts_literal, makes_cells, makes_one, ends_one, calls_any, makes_outside, joins_outside, Step, of_goroutine, of_members, of_environment, obtains_into, keeps_one, renews_object, calls_kept, saves_kept, gives_object, gives_in_field}
use Rattle.meaning_runs.specs.Runs.{Run, no_step, step_more}
use Rattle.meaning_runs.specs.Laws.{ContextsAreSound}

pub put_at-same : {A : Type 0} (f : ℕ → A) (n : ℕ) (x : A) → put_at f n x n ≡ x
put_at-same f n x = ap (λ b. cond b x (f n)) (eq-eqb n n refl)

pub put_at-other : {A : Type 0} (f : ℕ → A) (n : ℕ) (x : A) (m : ℕ) → (m ≡ n → ⊥) → put_at f n x m ≡ f m
put_at-other f n x m ne = ap (λ b. cond b x (f m)) (ne_eqb m n ne)

-- Each function that was called has ended its context; what a context was made from was there before it.
pub record IsSound (s : Store) : Type 0 where
  pub called_is_ended : (a : ℕ) → Contains s.called a → Contains s.ended a
  pub made_in : (b parent : ℕ) → s.parent b ≡ Some parent → b < s.context_count

-- a store that a sound one became: parents stay, what was called or ended stays so
pub record Follows (s after : Store) : Type 0 where
  pub same_parent : (b parent : ℕ) → s.parent b ≡ Some parent → after.parent b ≡ Some parent
  pub ended : (a : ℕ) → Contains s.ended a → Contains after.ended a
  pub called : (a : ℕ) → Contains s.called a → Contains after.called a
  pub is_sound : IsSound after

-- contexts that are the same
same_contexts : (s after : Store) → IsSound s → after.parent ≡ s.parent → after.context_count ≡ s.context_count → after.ended ≡ s.ended → after.called ≡ s.called → Follows s after
same_contexts s after h parents count ended called = record {
  same_parent = λ b parent e. ap (λ (f : ℕ → Option ℕ). f b) parents ∙ e;
  ended = λ a c. subst (λ l. Contains l a) (sym ended) c;
  called = λ a c. subst (λ l. Contains l a) (sym called) c;
  is_sound = record {
    called_is_ended = λ a c. subst (λ l. Contains l a) (sym ended) (h.called_is_ended a (subst (λ l. Contains l a) called c));
    made_in = λ b parent e. subst (λ n. b < n) (sym count) (h.made_in b parent (ap (λ (f : ℕ → Option ℕ). f b) (sym parents) ∙ e));
  };
}

after_calling : (s : Store) (value : Value) → IsSound s → Follows s (calling s value)
after_calling s nothing h = same_contexts s s h refl refl refl refl
after_calling s (cancel_function x) h = record {
  same_parent = λ b parent e. e;
  ended = λ a c. contains_there x a s.ended c;
  called = λ a c. contains_there x a s.called c;
  is_sound = record {
    called_is_ended = λ a c. by_name a (contains_cases x a s.called c);
    made_in = h.made_in;
  };
}
  where
    by_name : (a : ℕ) → (x ≡ a) ⊎ Contains s.called a → Contains (x ∷ s.ended) a
    by_name a (inl e) = subst (λ n. Contains (x ∷ s.ended) n) e (contains_here x s.ended)
    by_name a (inr c) = contains_there x a s.ended (h.called_is_ended a c)

after_ending : (s : Store) (context : Option ℕ) → IsSound s → Follows s (ending s context)
after_ending s None h = same_contexts s s h refl refl refl refl
after_ending s (Some x) h = record {
  same_parent = λ b parent e. e;
  ended = λ a c. contains_there x a s.ended c;
  called = λ a c. c;
  is_sound = record { called_is_ended = λ a c. contains_there x a s.ended (h.called_is_ended a c); made_in = h.made_in };
}

after_waiting : (s : Store) (group : Option ℕ) → IsSound s → Follows s (waiting_for s group)
after_waiting s None h = same_contexts s s h refl refl refl refl
after_waiting s (Some a) h = after_ending s (s.group_context a) h

after_new : (s : Store) (parent : Option ℕ) → IsSound s → Follows s (with_new s parent)
after_new s parent h = record {
  same_parent = λ b q e. let older = h.made_in b q e in put_at-other s.parent s.context_count parent b (λ n. omega (arith, older, n)) ∙ e;
  ended = λ a c. c;
  called = λ a c. c;
  is_sound = record {
    called_is_ended = h.called_is_ended;
    made_in = λ b q e. by_name b q e (cases_eq b s.context_count);
  };
}
  where
    by_name : (b q : ℕ) → put_at s.parent s.context_count parent b ≡ Some q → (b ≡ s.context_count) ⊎ (b ≡ s.context_count → ⊥) → b < s.context_count + 1
    by_name b q e (inl n) = omega (arith, n)
    by_name b q e (inr n) = let older = h.made_in b q (sym (put_at-other s.parent s.context_count parent b n) ∙ e) in omega (arith, older)

pub obtaining_follows : (s after : Store) (c : Callee) (value : Value) → Obtains s c value after → IsSound s → Follows s after
obtaining_follows s after c value (new_one parent earlier) h = after_new s parent h
obtaining_follows s after c value (earlier_one a m l) h = same_contexts s s h refl refl refl refl
obtaining_follows s after c value (none_at_all m) h = same_contexts s s h refl refl refl refl

making_follows : (s after : Store) (state : GroupState) (context : Option ℕ) → Makes s state context after → IsSound s → Follows s after
making_follows s after state context zero_group h = same_contexts s s h refl refl refl refl
making_follows s after state context (with_context parent earlier) h = after_new s parent h

beginning_follows : (p : Program) (s after : Store) (f : Frame) (call : Passing) (new : List Frame) → Begins p s f call after new → IsSound s → Follows s after
beginning_follows p s after f call new (of_function b values groups i fits) h = same_contexts s _ h refl refl refl refl
beginning_follows p s after f call new (of_none n holds) h = same_contexts s s h refl refl refl refl

-- only the cells differ
other_cells : (s t after : Store) → Follows s t → after.parent ≡ t.parent → after.context_count ≡ t.context_count → after.ended ≡ t.ended → after.called ≡ t.called → Follows s after
other_cells s t after k parents count ended called =
    let l = same_contexts t after k.is_sound parents count ended called in
    record {
      same_parent = λ b parent e. l.same_parent b parent (k.same_parent b parent e);
      ended = λ a c. l.ended a (k.ended a c);
      called = λ a c. l.called a (k.called a c);
      is_sound = l.is_sound;
    }

acting_follows : (p : Program) (s : Store) (place : Place) (f : Frame) (after : Store) (frames : List Frame) → Acts p s place f after frames → IsSound s → Follows s after
acting_follows p s place f after frames (moves_on d) h = same_contexts s s h refl refl refl refl
acting_follows p s place f after frames (does_other d) h = same_contexts s s h refl refl refl refl
acting_follows p s place f after frames (obtains_one {c = c} {value = value} {made = made} d o) h =
    other_cells s made _ (obtaining_follows s made c value o h) refl refl refl refl
acting_follows p s place f after frames (clears_one d) h = same_contexts s _ h refl refl refl refl
acting_follows p s place f after frames (obtains_into {c = c} {value = value} {made = made} d o) h =
    other_cells s made _ (obtaining_follows s made c value o h) refl refl refl refl
acting_follows p s place f after frames (keeps_one d) h = same_contexts s s h refl refl refl refl
acting_follows p s place f after frames (renews_object d) h = same_contexts s s h refl refl refl refl
acting_follows p s place f after frames (calls_kept d) h = after_calling s _ h
acting_follows p s place f after frames (saves_kept d) h = same_contexts s s h refl refl refl refl
acting_follows p s place f after frames (gives_object d) h = same_contexts s s h refl refl refl refl
acting_follows p s place f after frames (gives_in_field d) h = same_contexts s s h refl refl refl refl
acting_follows p s place f after frames (calls_one d) h = after_calling s _ h
acting_follows p s place f after frames (saves_call d) h = same_contexts s s h refl refl refl refl
acting_follows p s place f after frames (makes_group {state = state} {context = context} {made = made} d m) h =
    other_cells s made _ (making_follows s made state context m h) refl refl refl refl
acting_follows p s place f after frames (tries_nothing d) h = same_contexts s s h refl refl refl refl
acting_follows p s place f after frames (ends_wait d e) h = after_waiting s _ h
acting_follows p s place f after frames (saves_wait d) h = same_contexts s s h refl refl refl refl
acting_follows p s place f after frames (lends d m) h = same_contexts s s h refl refl refl refl
acting_follows p s place f after frames (calls_outside c i) h = after_calling s _ h
acting_follows p s place f after frames (evaluates d m) h = same_contexts s s h refl refl refl refl
acting_follows p s place f after frames (evaluates_deferred d m) h = same_contexts s s h refl refl refl refl
acting_follows p s place f after frames (makes_call {passing = call} {new = new} u d b) h = beginning_follows p s after f call new b h
acting_follows p s place f after frames (saves_pass u d) h = same_contexts s s h refl refl refl refl
acting_follows p s place f after frames (saves_literal b d i e) h = same_contexts s s h refl refl refl refl
acting_follows p s place f after frames (comes_to_return d) h = same_contexts s s h refl refl refl refl
acting_follows p s place f after frames (runs_call r) h = after_calling s _ h
acting_follows p s place f after frames (runs_pass {passing = call} {new = new} r b) h = beginning_follows p s after f call new b h
acting_follows p s place f after frames (runs_literal values groups r foreign) h = same_contexts s _ h refl refl refl refl
acting_follows p s place f after frames (runs_wait r e) h = after_waiting s _ h
acting_follows p s place f after frames (returns_now e) h = same_contexts s s h refl refl refl refl

surrounding_follows : (p : Program) (w next : World) → Surrounds p w next → IsSound w.store → Follows w.store next.store
surrounding_follows p w next (starts g b values groups e i d foreign) h = same_contexts w.store _ h refl refl refl refl
surrounding_follows p w next (evaluates_literal g f b c i) h = same_contexts w.store w.store h refl refl refl refl
surrounding_follows p w next (starts_literal g c values groups e i foreign) h = same_contexts w.store _ h refl refl refl refl
surrounding_follows p w next (makes_cells values groups foreign) h = same_contexts w.store _ h refl refl refl refl
surrounding_follows p w next (makes_one parent earlier) h = after_new w.store parent h
surrounding_follows p w next (ends_one x within) h = after_ending w.store (Some x) h
surrounding_follows p w next (calls_any a within) h = after_calling w.store (cancel_function a) h
surrounding_follows p w next (makes_outside context earlier) h = same_contexts w.store _ h refl refl refl refl
surrounding_follows p w next (joins_outside g a free outside) h = same_contexts w.store _ h refl refl refl refl

changing_follows : (p : Program) (w next : World) → ChangesMembers p w next → IsSound w.store → Follows w.store next.store
changing_follows p w next (starts_member g k b values groups d free i at foreign) h = same_contexts w.store _ h refl refl refl refl
changing_follows p w next (starts_stranger g k d free) h = same_contexts w.store _ h refl refl refl refl
changing_follows p w next (starts_outside g k at c lent is free) h = same_contexts w.store _ h refl refl refl refl
changing_follows p w next (starts_beside g k member none free) h = same_contexts w.store _ h refl refl refl refl
changing_follows p w next (leaves_group g member none) h = same_contexts w.store _ h refl refl refl refl

going_follows : (p : Program) (w next : World) → StartsGoroutine p w next → IsSound w.store → Follows w.store next.store
going_follows p w next (starts_call g sets) h = same_contexts w.store w.store h refl refl refl refl
going_follows p w next (starts_function g k b values groups sets free is fits) h =
    same_contexts w.store _ h refl refl refl refl
going_follows p w next (starts_foreign g sets none) h = same_contexts w.store w.store h refl refl refl refl
going_follows p w next (starts_its_literal g k b values groups sets free is_in is_at foreign) h =
    same_contexts w.store _ h refl refl refl refl

pub step_follows : (p : Program) (w next : World) → Step p w next → IsSound w.store → Follows w.store next.store
step_follows p w next (of_goroutine {f = f} {others = others} {after = after} {frames = frames} g at a) h = acting_follows p w.store (g, length others) f after frames a h
step_follows p w next (of_members c) h = changing_follows p w next c h
step_follows p w next (of_go s) h = going_follows p w next s h
step_follows p w next (of_environment s) h = surrounding_follows p w next s h

pub run_is_sound : (p : Program) (w : World) → Run p w → IsSound w.store
run_is_sound p w no_step = record {
  called_is_ended = λ a c. absurd (contains_nil a c);
  made_in = λ b parent e. let bad : None ≡ Some parent = e in cc;
}
run_is_sound p w (step_more {w = before} run step) = (step_follows p before w step (run_is_sound p before run)).is_sound

comes_still : (s after : Store) (a b : ℕ) → Follows s after → ComesFrom s a b → ComesFrom after a b
comes_still s after a b k itself = itself
comes_still s after a b k (made_from {parent = parent} e h) = made_from (k.same_parent b parent e) (comes_still s after a parent k h)

done_still : (s after : Store) (b : ℕ) → Follows s after → IsDone s b → IsDone after b
done_still s after b k d = record {
  context = d.context;
  was_ended = k.ended d.context d.was_ended;
  comes_from = comes_still s after d.context b k d.comes_from;
}

pub called_done : (s : Store) (a b : ℕ) → IsSound s → Contains s.called a → ComesFrom s a b → IsDone s b
called_done s a b h c from = record { context = a; was_ended = h.called_is_ended a c; comes_from = from }

born : (s : Store) (parent : ℕ) → IsSound s → IsDone s parent → IsDone (with_new s (Some parent)) s.context_count
born s parent h d =
    let still = done_still s (with_new s (Some parent)) parent (after_new s (Some parent) h) d in
    record { context = still.context; was_ended = still.was_ended; comes_from = made_from (put_at-same s.parent s.context_count (Some parent)) still.comes_from }

pub contexts_are_sound : ContextsAreSound
contexts_are_sound p w run =
    let h = run_is_sound p w run in
    record {
      called_is_done = λ a b c from. called_done w.store a b h c from;
      born_done = λ parent d. born w.store parent h d;
      stays_done = λ next b step d. done_still w.store next.store b (step_follows p w next step h) d;
    }
