-- Calls that get cancel functions have steps: in every world of a run what they give are values of the world.
use Rattle.std.proofs.Common.{◌≡◌, ℕ, ◌≤◌, ◌⊎◌, inl, inr, Bool, true, false, List, [], ◌∷◌, ◌++◌, length, Option, Some, None, Contains, refl, sym, ap, ◌∙◌, subst, arith}
use Rattle.std.proofs.lemmas.Bool.{cases_eq}
use Rattle.std.proofs.lemmas.List.Elements.{Contains-append_cases}
use Rattle.std.proofs.lemmas.Option.{same_Some}
use Rattle.meaning.specs.Code.{Code}
use Rattle.meaning.specs.Tracked.{GroupState}
use Rattle.meaning.specs.Uses.{Callee, VariableAt, Event}
use Rattle.meaning.proofs.Membership.{contains_here, contains_there, contains_cases, contains_nil}
use Rattle.meaning_runs.specs.Bodies.{Program, Body}
use Rattle.meaning_runs.specs.World.{Value, nothing, cancel_function, Place, Store, put_at, IsAny, any_nothing, any_function, with_new, calling, ending, with_member, waiting_for, Given, Passing, Saved, saved_call, saved_pass, saved_literal, saved_wait, Frame, World, with_stack, in_cell, held, held_group, with_cells, bound_cell, binding, new_frame, nothing_around, own_cell, kept_value}
use Rattle.meaning_runs.specs.Steps.{StartsGoroutine, starts_call, starts_function, starts_foreign, starts_its_literal, of_go, WasCalled, MayJoin, evaluating, lending, Obtains, new_one, earlier_one, none_at_all, Makes, zero_group, with_context, DeclaredIsTrue, at_code, IsOutsideCall, at_once, saved_before, Begins, of_function, of_none, Acts, moves_on, does_other, obtains_one, clears_one, calls_one, saves_call, makes_group, tries_nothing, ends_wait, saves_wait, evaluates, evaluates_deferred, lends, makes_call, calls_outside, saves_pass, saves_literal, comes_to_return, runs_call, runs_pass, runs_literal, runs_wait, returns_now, ChangesMembers, starts_member, starts_stranger, starts_outside, starts_beside, leaves_group, Surrounds, starts, evaluates_literal, starts_literal, makes_cells, makes_one, ends_one, calls_any, makes_outside, joins_outside, Step, of_goroutine, of_members, of_environment, obtains_into, keeps_one, renews_object, calls_kept, saves_kept, gives_object, gives_in_field}
use Rattle.meaning_runs.specs.Runs.{Run, no_step, step_more}
use Rattle.meaning_runs.specs.Laws.{GoesTo, Leads, stays, one_more, LeadsTo}
use Rattle.meaning_runs.specs.CallSteps.{CallsHaveSteps}
use Rattle.meaning_runs.proofs.Contexts.{put_at-same, put_at-other}
use Rattle.meaning_runs.proofs.FreeGoroutines.{goroutines_are_free}
use Rattle.meaning_runs.proofs.GivenValues.{IsGiven, joining_gives, joining_lends, given_values, given_groups, contents_are_given}
use Rattle.meaning_runs.proofs.Places.{called_it}

-- What is kept

-- values stay values of the world, for contexts stay
pub still_any : (s after : Store) → s.context_count ≤ after.context_count → (x : Value) → IsAny s x → IsAny after x
still_any s after more nothing h = any_nothing
still_any s after more (cancel_function a) (any_function l) = any_function (omega (arith, more, l))

still_given : (s after : Store) → s.context_count ≤ after.context_count → (q : Passing) → IsGiven s q → IsGiven after q
still_given s after more q h = record { any = λ x c. still_any s after more x.value (h.any x c); one = h.one; one_lent = h.one_lent }

abbrev pub AreAny : Store → Type 0
AreAny s = (k v : ℕ) → IsAny s (s.cells k v)

-- the calls of a frame, under way and saved, give values of the world
pub record AreGiven (s : Store) (waiting : Option Passing) (saved : List Saved) : Type 0 where
  pub waits : (q : Passing) → waiting ≡ Some q → IsGiven s q
  pub saves : (q : Passing) → Contains saved (saved_pass q) → IsGiven s q

abbrev pub IsFull : Store → Frame → Type 0
IsFull s f = AreGiven s f.waiting f.saved

still_full : (s after : Store) → s.context_count ≤ after.context_count → (f : Frame) → IsFull s f → IsFull after f
still_full s after more f h = record {
  waits = λ q e. still_given s after more q (h.waits q e);
  saves = λ q c. still_given s after more q (h.saves q c);
}

pub record AreKept (w : World) : Type 0 where
  pub cells : AreAny w.store
  pub full : (g : ℕ) (f : Frame) → Contains (w.stacks g) f → IsFull w.store f

-- what a step of a frame comes to
record Comes (s after : Store) (frames : List Frame) : Type 0 where
  more : s.context_count ≤ after.context_count
  cells : AreAny after
  full : (f : Frame) → Contains frames f → IsFull after f

-- Cells

any_in_cell : (s : Store) → AreAny s → (v : ℕ) (o : Option ℕ) → IsAny s (in_cell s v o)
any_in_cell s h v None = any_nothing
any_in_cell s h v (Some k) = h k v

pub any_held : (s : Store) → AreAny s → (f : Frame) (v : ℕ) → IsAny s (held s f v)
any_held s h f v = any_in_cell s h v (f.newest v)

-- a change at one number keeps what holds at all
all_at : {A : Type 0} (P : A → Type 0) (f : ℕ → A) (n : ℕ) (x : A) → ((m : ℕ) → P (f m)) → P x → (m : ℕ) → P (put_at f n x m)
all_at P f n x all one m = elim (cases_eq m n) [
  | inl q ↦ subst P (sym (ap (put_at f n x) q ∙ put_at-same f n x)) one
  | inr ne ↦ subst P (sym (put_at-other f n x m ne)) (all m)
]

any_with_cells : (s : Store) (values : ℕ → Value) (groups : ℕ → Option ℕ) → AreAny s → ((v : ℕ) → IsAny s (values v)) → AreAny (with_cells s values groups)
any_with_cells s values groups h any k v =
    still_any s (with_cells s values groups) (omega arith) _ (all_at (λ (c : ℕ → Value). (u : ℕ) → IsAny s (c u)) s.cells s.cell_count values h any k v)

any_binding : (s : Store) (f : Frame) (u : VariableAt) (x : Value) → AreAny s → IsAny s x → AreAny (binding s f u x)
any_binding s f u x h any k v =
    let cell = bound_cell s f u in
    still_any s (binding s f u x) (omega arith) _ (all_at (λ (c : ℕ → Value). (n : ℕ) → IsAny s (c n)) s.cells cell (put_at (s.cells cell) u.number x) h (all_at (IsAny s) (s.cells cell) u.number x (h cell) any) k v)

-- only contexts differ
any_other : (s after : Store) → s.context_count ≤ after.context_count → after.cells ≡ s.cells → AreAny s → AreAny after
any_other s after more cells h k v =
    still_any s after more (after.cells k v) (subst (IsAny s) (sym (ap (λ (c : ℕ → ℕ → Value). c k v) cells)) (h k v))

-- Frames

alone : (s after : Store) (f : Frame) → s.context_count ≤ after.context_count → AreAny after → IsFull after f → Comes s after (f ∷ [])
alone s after f more cells full = record {
  more = more;
  cells = cells;
  full = λ x c. elim (contains_cases f x [] c) [ inl q ↦ subst (IsFull after) q full | inr r ↦ absurd (contains_nil x r) ];
}

new_full : (s after : Store) (b : Body) (around : ℕ → Option ℕ) → IsFull after (new_frame s b around)
new_full s after b around = record {
  waits = λ q e. let bad : None ≡ Some q = e in cc;
  saves = λ q c. absurd (contains_nil (saved_pass q) c);
}

-- a frame stands on another one
both : (s after : Store) (f : Frame) (others : List Frame) → IsFull after f → Comes s after others → Comes s after (f ∷ others)
both s after f others full h = record {
  more = h.more;
  cells = h.cells;
  full = λ x c. elim (contains_cases f x others c) [ inl q ↦ subst (IsFull after) q full | inr r ↦ h.full x r ];
}

-- one more is saved
saving : (s : Store) (waiting : Option Passing) (saved : List Saved) (x : Saved) → ((q : Passing) → x ≡ saved_pass q → IsGiven s q) → AreGiven s waiting saved → AreGiven s waiting (x ∷ saved)
saving s waiting saved x its h = record {
  waits = h.waits;
  saves = λ q c. elim (contains_cases x (saved_pass q) saved c) [ inl e ↦ its q e | inr r ↦ h.saves q r ];
}

-- and one fewer
running : (s : Store) (waiting : Option Passing) (saved left : List Saved) (x : Saved) → saved ≡ x ∷ left → AreGiven s waiting saved → AreGiven s waiting left
running s waiting saved left x e h = record {
  waits = h.waits;
  saves = λ q c. h.saves q (subst (λ l. Contains l (saved_pass q)) (sym e) (contains_there x (saved_pass q) left c));
}

none_waiting : (s : Store) (waiting : Option Passing) (saved : List Saved) → AreGiven s waiting saved → AreGiven s None saved
none_waiting s waiting saved h = record { waits = λ q e. let bad : None ≡ Some q = e in cc; saves = h.saves }

same_passing : (q r : Passing) → saved_pass q ≡ saved_pass r → q ≡ r
same_passing q r e = cc

no_pass : (x : Value) (q : Passing) → saved_call x ≡ saved_pass q → ⊥
no_pass x q e = cc

no_wait : (group : Option ℕ) (q : Passing) → saved_wait group ≡ saved_pass q → ⊥
no_wait group q e = cc

-- Steps

calling_more : (s : Store) (x : Value) → (s.context_count ≤ (calling s x).context_count) × ((calling s x).cells ≡ s.cells)
calling_more s nothing = (omega arith, refl)
calling_more s (cancel_function a) = (omega arith, refl)

pub obtaining : (s made : Store) (c : Callee) (x : Value) → Obtains s c x made → AreAny s → (s.context_count ≤ made.context_count) × AreAny made × IsAny made x
obtaining s made c x (new_one parent earlier) h =
    (omega arith, any_other s (with_new s parent) (omega arith) refl h, any_function (omega arith))
obtaining s made c x (earlier_one a m l) h = (omega arith, h, any_function l)
obtaining s made c x (none_at_all m) h = (omega arith, h, any_nothing)

beginning : (p : Program) (s after : Store) (f x : Frame) (q : Passing) (new : List Frame) → Begins p s f q after new → AreAny s → IsFull s x → Comes s after (new ++ x ∷ [])
beginning p s after f x q new (of_function b values groups is fits) h full =
    let next = with_cells s values groups in
    both s next _ (x ∷ []) (new_full s next b nothing_around) (alone s next x (omega arith) (any_with_cells s values groups h fits.any) (still_full s next (omega arith) x full))
beginning p s after f x q new (of_none none holds) h full = alone s s x (omega arith) h full

-- the store stays
standing : (s : Store) (x : Frame) → AreAny s → IsFull s x → Comes s s (x ∷ [])
standing s x h full = alone s s x (omega arith) h full

calls_it : (s : Store) (value : Value) (x : Frame) → AreAny s → IsFull s x → Comes s (calling s value) (x ∷ [])
calls_it s value x h full =
    let m = calling_more s value in
    alone s (calling s value) x m.0 (any_other s (calling s value) m.0 m.1 h) (still_full s (calling s value) m.0 x full)

waiting_more : (s : Store) (group : Option ℕ) → (s.context_count ≤ (waiting_for s group).context_count) × ((waiting_for s group).cells ≡ s.cells)
waiting_more s None = (omega arith, refl)
waiting_more s (Some a) = by (s.group_context a)
  where
    by : (context : Option ℕ) → (s.context_count ≤ (ending s context).context_count) × ((ending s context).cells ≡ s.cells)
    by None = (omega arith, refl)
    by (Some c) = (omega arith, refl)

waits_it : (s : Store) (group : Option ℕ) (x : Frame) → AreAny s → IsFull s x → Comes s (waiting_for s group) (x ∷ [])
waits_it s group x h full =
    let m = waiting_more s group in
    alone s (waiting_for s group) x m.0 (any_other s (waiting_for s group) m.0 m.1 h) (still_full s (waiting_for s group) m.0 x full)

making : (s made : Store) (state : GroupState) (context : Option ℕ) → Makes s state context made → AreAny s → (s.context_count ≤ made.context_count) × AreAny made
making s made state context zero_group h = (omega arith, h)
making s made state context (with_context parent earlier) h =
    (omega arith, any_other s (with_new s parent) (omega arith) refl h)

-- one more argument is evaluated
evaluated : (s : Store) (f : Frame) (v : ℕ) (c : Callee) (position : ℕ) (is_deferred : Bool) (rest : Code Event) → MayJoin c is_deferred position f.waiting → AreAny s → IsFull s f → IsFull s (evaluating s f v c position is_deferred rest)
evaluated s f v c position is_deferred rest m h full =
    let one = joining_gives s f.waiting c is_deferred (record { position = position; value = held s f v }) full.waits m (any_held s h f v) in
    record {
      waits = λ q e. subst (IsGiven s) (same_Some _ q e) one;
      saves = full.saves;
    }

lent_one : (s : Store) (f : Frame) (v : ℕ) (c : Callee) (position : ℕ) (rest : Code Event) → MayJoin c false position f.waiting → IsFull s f → IsFull s (lending s f v c position rest)
lent_one s f v c position rest m full =
    let one = joining_lends s f.waiting c (record { position = position; group = held_group s f v }) full.waits m in
    record {
      waits = λ q e. subst (IsGiven s) (same_Some _ q e) one;
      saves = full.saves;
    }

acted : (p : Program) (s : Store) (place : Place) (f : Frame) (after : Store) (frames : List Frame) → Acts p s place f after frames → AreAny s → IsFull s f → Comes s after frames
acted p s place f after frames (moves_on d) h full = standing s _ h full
acted p s place f after frames (does_other d) h full = standing s _ h full
acted p s place f after frames (obtains_one {u = u} {c = c} {value = value} {made = made} d o) h full =
    let r = obtaining s made c value o h in
    let m = r.0 in
    let more : s.context_count ≤ (binding made f u value).context_count = omega (arith, m) in
    alone s (binding made f u value) _ more (any_binding made f u value r.1 r.2) (still_full s (binding made f u value) more f full)
acted p s place f after frames (clears_one {u = u} d) h full =
    alone s (binding s f u nothing) _ (omega arith) (any_binding s f u nothing h any_nothing) (still_full s (binding s f u nothing) (omega arith) f full)
acted p s place f after frames (obtains_into {u = u} {c = c} {value = value} {made = made} d o) h full =
    let r = obtaining s made c value o h in
    let m = r.0 in
    let cell = own_cell u.number in
    let more : s.context_count ≤ (binding made f cell value).context_count = omega (arith, m) in
    alone s (binding made f cell value) _ more (any_binding made f cell value r.1 r.2) (still_full s (binding made f cell value) more f full)
acted p s place f after frames (keeps_one d) h full = standing s _ h full
acted p s place f after frames (renews_object d) h full = standing s _ h full
acted p s place f after frames (calls_kept {v = v} {x = x} d) h full = calls_it s (kept_value f.kept v x) _ h full
acted p s place f after frames (saves_kept {v = v} {x = x} d) h full =
    let value = kept_value f.kept v x in
    standing s _ h (saving s f.waiting f.saved (saved_call value) (λ q e. absurd (no_pass value q e)) full)
acted p s place f after frames (gives_object d) h full = standing s _ h full
acted p s place f after frames (gives_in_field d) h full = standing s _ h full
acted p s place f after frames (calls_one {v = v} d) h full = calls_it s (held s f v) _ h full
acted p s place f after frames (saves_call {v = v} d) h full =
    standing s _ h (saving s f.waiting f.saved (saved_call (held s f v)) (λ q e. absurd (no_pass (held s f v) q e)) full)
acted p s place f after frames (makes_group {u = u} {state = state} {context = context} {made = made} d m) h full =
    let r = making s made state context m h in
    let more = r.0 in
    alone s _ _ more (any_other made _ (omega arith) refl r.1) (still_full s _ more f full)
acted p s place f after frames (tries_nothing d) h full = standing s _ h full
acted p s place f after frames (ends_wait {v = v} d e) h full = waits_it s (held_group s f v) _ h full
acted p s place f after frames (saves_wait {v = v} d) h full =
    standing s _ h (saving s f.waiting f.saved (saved_wait (held_group s f v)) (λ q bad. absurd (no_wait (held_group s f v) q bad)) full)
acted p s place f after frames (evaluates {u = u} {c = c} {position = position} {rest = rest} d m) h full =
    standing s _ h (evaluated s f u.number c position false rest m h full)
acted p s place f after frames (evaluates_deferred {u = u} {c = c} {position = position} {rest = rest} d m) h full =
    standing s _ h (evaluated s f u.number c position true rest m h full)
acted p s place f after frames (lends {v = v} {c = c} {position = position} {rest = rest} d m) h full =
    standing s _ h (lent_one s f v c position rest m full)
acted p s place f after frames (calls_outside {x = x} c i) h full = calls_it s x.value f h full
acted p s place f after frames (makes_call {passing = passing} {new = new} u d b) h full =
    beginning p s after f (record f { waiting = None }) passing new b h (none_waiting s f.waiting f.saved full)
acted p s place f after frames (saves_pass {passing = passing} u d) h full =
    standing s _ h (saving s None f.saved (saved_pass passing) (λ q e. subst (IsGiven s) (same_passing passing q e) (full.waits passing u.waits)) (none_waiting s f.waiting f.saved full))
acted p s place f after frames (saves_literal b d i e) h full =
    standing s _ h (saving s f.waiting f.saved (saved_literal record { literal = b; newest = f.newest }) (λ q bad. cc) full)
acted p s place f after frames (comes_to_return d) h full = standing s _ h full
acted p s place f after frames (runs_call {value = value} {left = left} r) h full =
    calls_it s value _ h (running s f.waiting f.saved left (saved_call value) r.saved full)
acted p s place f after frames (runs_pass {passing = passing} {left = left} {new = new} r b) h full =
    beginning p s after f (record f { saved = left }) passing new b h (running s f.waiting f.saved left (saved_pass passing) r.saved full)
acted p s place f after frames (runs_wait {group = group} {left = left} r e) h full =
    waits_it s group _ h (running s f.waiting f.saved left (saved_wait group) r.saved full)
acted p s place f after frames (runs_literal {c = c} {left = left} values groups r foreign) h full =
    let x = record f { saved = left } in
    let next = with_cells s values groups in
    both s next _ _ (new_full s next c.literal c.newest) (alone s next x (omega arith) (any_with_cells s values groups h foreign.any) (still_full s next (omega arith) x (running s f.waiting f.saved left (saved_literal c) r.saved full)))
acted p s place f after frames (returns_now e) h full =
    record { more = omega arith; cells = h; full = λ x c. absurd (contains_nil x c) }

-- Worlds

-- one goroutine gets another stack
stacked : (w : World) (after : Store) (g : ℕ) (stack : List Frame) → AreKept w → w.store.context_count ≤ after.context_count → AreAny after → ((f : Frame) → Contains stack f → IsFull after f) → AreKept (with_stack w after g stack)
stacked w after g stack k more cells full = record {
  cells = cells;
  full = all_at (λ (l : List Frame). (f : Frame) → Contains l f → IsFull after f) w.stacks g stack (λ h f c. still_full w.store after more f (k.full h f c)) full;
}

-- no stack changes
stored : (w : World) (after : Store) → AreKept w → w.store.context_count ≤ after.context_count → after.cells ≡ w.store.cells → AreKept (record w { store = after })
stored w after k more cells = record {
  cells = any_other w.store after more cells k.cells;
  full = λ g f c. still_full w.store after more f (k.full g f c);
}

started : (w : World) (g : ℕ) (b : Body) (around : ℕ → Option ℕ) (values : ℕ → Value) (groups : ℕ → Option ℕ) → ((v : ℕ) → IsAny w.store (values v)) → AreKept w → AreKept (with_stack w (with_cells w.store values groups) g (new_frame w.store b around ∷ []))
started w g b around values groups any k =
    let after = with_cells w.store values groups in
    let c = alone w.store after _ (omega arith) (any_with_cells w.store values groups k.cells any) (new_full w.store after b around) in
    stacked w after g _ k c.more c.cells c.full

-- a frame goes on
goes_on : (w : World) (g : ℕ) (f : Frame) (others : List Frame) (rest : Code Event) → w.stacks g ≡ f ∷ others → AreKept w → AreKept (with_stack w w.store g (at_code f rest ∷ others))
goes_on w g f others rest at k =
    let here = λ (x : Frame) (c : Contains (f ∷ others) x). k.full g x (subst (λ l. Contains l x) (sym at) c) in
    stacked w w.store g _ k (omega arith) k.cells (λ x c. elim (contains_cases (at_code f rest) x others c) [
      | inl q ↦ subst (IsFull w.store) q (here f (contains_here f others))
      | inr r ↦ here x (contains_there f x others r)
    ])

-- and a goroutine is a member
joined : (w : World) (h : ℕ) (group : Option ℕ) → AreKept w → AreKept (record w { store = with_member w.store h group })
joined w h group k = stored w _ k (omega arith) refl

by_members : (p : Program) (w next : World) → ChangesMembers p w next → AreKept w → AreKept next
by_members p w next (starts_member {f = f} {others = others} {rest = rest} {group = group} g h b values groups d free i at foreign) k =
    let on = goes_on w g f others rest d.is_running k in
    let member = joined _ h (Some group) on in
    started (record (with_stack w w.store g (at_code f rest ∷ others)) { store = with_member w.store h (Some group) }) h b f.newest values groups (λ v. still_any w.store (with_member w.store h (Some group)) (omega arith) (values v) (foreign.any v)) member
by_members p w next (starts_stranger {f = f} {others = others} {rest = rest} {group = group} g h d free) k =
    joined _ h (Some group) (goes_on w g f others rest d.is_running k)
by_members p w next (starts_outside {group = group} g h at c lent is free) k = joined w h (Some group) k
by_members p w next (starts_beside {group = group} g h member none free) k = joined w h (Some group) k
by_members p w next (leaves_group g member none) k = joined w g None k

by_environment : (p : Program) (w next : World) → Surrounds p w next → AreKept w → AreKept next
by_environment p w next (starts g b values groups free of d foreign) k = started w g b nothing_around values groups foreign.any k
by_environment p w next (evaluates_literal g f b c i) k = record { cells = k.cells; full = k.full }
by_environment p w next (starts_literal g c values groups free h foreign) k = started w g c.literal c.newest values groups foreign.any k
by_environment p w next (makes_cells values groups foreign) k = record {
  cells = any_with_cells w.store values groups k.cells foreign.any;
  full = λ g f c. still_full w.store (with_cells w.store values groups) (omega arith) f (k.full g f c);
}
by_environment p w next (makes_one parent earlier) k = stored w _ k (omega arith) refl
by_environment p w next (ends_one a l) k = stored w _ k (omega arith) refl
by_environment p w next (calls_any a l) k = stored w _ k (omega arith) refl
by_environment p w next (makes_outside context earlier) k = stored w _ k (omega arith) refl
by_environment p w next (joins_outside g a free outside) k = joined w g (Some a) k

by_goroutine : (p : Program) (w : World) (g : ℕ) (f : Frame) (others : List Frame) (after : Store) (frames : List Frame) → w.stacks g ≡ f ∷ others → Acts p w.store (g, length others) f after frames → AreKept w → AreKept (with_stack w after g (frames ++ others))
by_goroutine p w g f others after frames at a k =
    let here = λ (x : Frame) (c : Contains (f ∷ others) x). k.full g x (subst (λ l. Contains l x) (sym at) c) in
    let c = acted p w.store (g, length others) f after frames a k.cells (here f (contains_here f others)) in
    stacked w after g (frames ++ others) k c.more c.cells (λ x m. elim (Contains-append_cases frames others x m) [
      | inl q ↦ c.full x q
      | inr r ↦ still_full w.store after c.more x (here x (contains_there f x others r))
    ])

-- what is to be called says nothing of it
with_calls : {w : World} (calls : List ℕ) → AreKept w → AreKept (record w { to_call = calls })
with_calls calls k = record { cells = k.cells; full = k.full }

by_go : (p : Program) (w next : World) → StartsGoroutine p w next → AreKept w → AreKept next
by_go p w next (starts_call {f = f} {others = others} {rest = rest} g sets) k =
    with_calls _ (goes_on w g f others rest sets.is_running k)
by_go p w next (starts_function {f = f} {others = others} {rest = rest} g h b values groups sets free is fits) k =
    started (with_stack w w.store g (at_code f rest ∷ others)) h b nothing_around values groups fits.any
    (goes_on w g f others rest sets.is_running k)
by_go p w next (starts_foreign {f = f} {others = others} {rest = rest} g sets none) k =
    with_calls _ (goes_on w g f others rest sets.is_running k)
by_go p w next (starts_its_literal {f = f} {others = others} {rest = rest} g h b values groups sets free i at foreign) k =
    started (with_stack w w.store g (at_code f rest ∷ others)) h b f.newest values groups foreign.any
    (goes_on w g f others rest sets.is_running k)

step_kept : (p : Program) (w next : World) → Step p w next → AreKept w → AreKept next
step_kept p w next (of_goroutine {f = f} {others = others} {after = after} {frames = frames} g at a) k =
    by_goroutine p w g f others after frames at a k
step_kept p w next (of_members c) k = by_members p w next c k
step_kept p w next (of_go s) k = by_go p w next s k
step_kept p w next (of_environment s) k = by_environment p w next s k

pub run_kept : (p : Program) (w : World) → Run p w → AreKept w
run_kept p w no_step = record { cells = λ k v. any_nothing; full = λ g f c. absurd (contains_nil f c) }
run_kept p w (step_more {w = before} run step) = step_kept p before w step (run_kept p before run)

-- Calls

leads_on : (p : Program) (w next last : World) → Leads p w next → Step p next last → Leads p w last
leads_on p w next last stays step = one_more step stays
leads_on p w next last (one_more {next = between} first l) step = one_more first (leads_on p between next last l step)

module _ (p : Program) (g : ℕ) (f : Frame) (others : List Frame) where
  acts : (w : World) → w.stacks g ≡ f ∷ others → (after : Store) (frames : List Frame)
      → Acts p w.store (g, length others) f after frames
      → GoesTo p w g (λ fs. fs ≡ frames ++ others)
  acts w at after frames a = (_, of_goroutine g at a, put_at-same w.stacks g (frames ++ others))

  still_called : (s : Store) (x y : Value) → WasCalled s y → WasCalled (calling s x) y
  still_called s x nothing h = tt
  still_called s nothing (cancel_function a) h = h
  still_called s (cancel_function b) (cancel_function a) h = contains_there b a s.called h

  -- steps to a world where the frame stands as before, and each argument was called
  record CallsAll (w : World) (passing : Passing) : Type 0 where
    last : World
    leads : Leads p w last
    at : last.stacks g ≡ f ∷ others
    called : (x : Given) → Contains passing.given x → WasCalled last.store x.value

  module _ (passing : Passing) (c : IsOutsideCall p f passing) where
    call_all : (w : World) (xs : List Given) → w.stacks g ≡ f ∷ others
        → ((x : Given) → Contains xs x → Contains passing.given x)
        → ((x : Given) → Contains passing.given x → Contains xs x ⊎ WasCalled w.store x.value)
        → CallsAll w passing
    call_all w [] at are all = record {
      last = w;
      leads = stays;
      at = at;
      called = λ x i. elim (all x i) [ inl h ↦ absurd (contains_nil x h) | inr h ↦ h ];
    }
    call_all w (x ∷ xs) at are all =
        let next = with_stack w (calling w.store x.value) g (f ∷ others) in
        let step : Step p w next = of_goroutine g at (calls_outside {x = x} c (are x (contains_here x xs))) in
        let rest = call_all next xs (put_at-same w.stacks g (f ∷ others)) (λ y i. are y (contains_there x y xs i))
        (λ y i. elim (all y i) [
          | inl h ↦ elim (contains_cases x y xs h) [
            | inl q ↦ inr (subst (λ (z : Given). WasCalled (calling w.store x.value) z.value) q (called_it w.store x.value))
            | inr r ↦ inl r
          ]
          | inr h ↦ inr (still_called w.store x.value y.value h)
        ]) in
        record { last = rest.last; leads = one_more step rest.leads; at = rest.at; called = rest.called }

    comes_back : (w : World) → w.stacks g ≡ f ∷ others → (frame : Frame)
        → ((s : Store) → DeclaredIsTrue p s passing → Acts p s (g, length others) f s (frame ∷ []))
        → LeadsTo p w g (frame ∷ others)
    comes_back w at frame returns =
        let all = call_all w passing.given at (λ x i. i) (λ x i. inl i) in
        let last = acts all.last all.at _ _ (returns all.last.store (λ x i declared. all.called x i)) in
        (last.0, leads_on p w all.last last.0 all.leads last.1, last.2)

pub calls_have_steps : CallsHaveSteps
calls_have_steps p w g f others run at =
    let k = run_kept p w run in
    let full = k.full g f (subst (λ l. Contains l f) (sym at) (contains_here f others)) in
    record {
      under_way = λ {code} {passing} u now b is.
          acts p g f others w at _ _ (makes_call u now (of_function b (given_values b passing) (given_groups b passing) is
          (contents_are_given w.store b passing (full.waits passing u.waits))));
      under_way_of_none = λ {code} {passing} u now none.
          comes_back p g f others passing record { comes_to_it = at_once u now; has_no_body = none } w at
          (record f { waiting = None }) (λ s holds. makes_call u now (of_none none holds));
      is_saved = λ u later. acts p g f others w at _ _ (saves_pass u later);
      by_saved_pass = λ {passing} {left} r b is.
          acts p g f others w at _ _ (runs_pass r (of_function b (given_values b passing) (given_groups b passing) is
          (contents_are_given w.store b passing
          (full.saves passing (subst (λ l. Contains l (saved_pass passing)) (sym r.saved) (contains_here (saved_pass passing) left))))));
      by_saved_pass_of_none = λ {passing} {left} r none.
          comes_back p g f others passing record { comes_to_it = saved_before r; has_no_body = none } w at
          (record f { saved = left }) (λ s holds. runs_pass r (of_none none holds));
      may_start = λ {passing} {y} {group} c among is.
          let free = goroutines_are_free p w run in
          record {
            next = _;
            step = of_members (starts_outside {y = y} g free.0 at c among is free.1);
            goroutine = free.0;
            was_free = free.1;
            is_member = put_at-same w.store.member free.0 (Some group);
            begins = free.1.has_no_frame;
            goes_on = at;
          };
    }
