-- What a frame does that is not shown, the environment does where only some packages run.
use Rattle.std.proofs.Common.{◌≡◌, ℕ, ◌<◌, ◌⊎◌, inl, inr, Bool, true, false, List, [], ◌∷◌, ◌++◌, map, Option, Some, None, Contains, refl, sym, ap, subst, ◌∙◌, arith}
use Rattle.std.specs.Prelude.{if◌then◌else◌}
use Rattle.std.proofs.lemmas.Option.{none-some}
use Rattle.meaning.specs.Code.{Occurrence, Code}
use Rattle.meaning.specs.Tracked.{GroupState}
use Rattle.meaning.specs.Uses.{Callee, VariableAt, Event}
use Rattle.meaning.proofs.Membership.{contains_cases, contains_nil}
use Rattle.meaning_reports.specs.Loaded.{HaveDistinctPaths}
use Rattle.meaning_reports.specs.UsedImports.{passes, defers, lends as lends_it}
use Rattle.meaning_runs.specs.Bodies.{Program}
use Rattle.meaning_runs.specs.Promise.{all_run}
use Rattle.meaning_runs.specs.World.{Value, nothing, cancel_function, outside, frame_at, Place, Store, put_at, IsAny, any_nothing, any_function, IsOutside, outside_none, outside_group, IsEarlier, calling, ending, waiting_for, with_group, with_cells, AreForeign, binding, binding_group, binds, held, held_group, kept_value, without_kept, handed_by as handed_value, own_cell, Given, Lent, Passing, Closure, saved_call, saved_pass, saved_literal, saved_wait, runs, exits, InObject, Frame, World, new_frame, nothing_around}
use Rattle.meaning_runs.specs.Steps.{GoesOn, at_code, Obtains, new_one, earlier_one, none_at_all, with_function, Makes, zero_group, with_context, evaluating, lending, IsLentTo, ComesToCall, at_once, saved_before, Begins, of_function, of_none, Acts, moves_on, does_other, obtains_one, obtains_into, keeps_one, renews_object, calls_kept, saves_kept, gives_object, gives_in_field, clears_one, calls_one, saves_call, makes_group, tries_nothing, ends_wait, saves_wait, evaluates, evaluates_deferred, lends, makes_call, calls_outside, saves_pass, saves_literal, comes_to_return, runs_call, runs_pass, runs_literal, runs_wait, returns_now, Surrounds, starts, makes_cells, makes_one, ends_one, calls_any, makes_outside}
use Rattle.meaning_runs.proofs.CallSteps.{AreAny, any_held, obtaining}
use Rattle.meaning_runs.proofs.Contexts.{put_at-same}
use Rattle.meaning_runs.proofs.NamedOutermost.{named_is_outermost}
use Rattle.meaning_runs.proofs.Shown.{AreAmong, Shadow, shadow_store, IsOut, IsShadow, Grown, FinePass, FineCells, T, FineFrame, FineKept, kept_any, kept_more, kept_less, any_grows, tops, FineStack, cells_grow, frame_grows, new_is_fine, group_out, with_new_cells, cells_grown, cells_shown}
use Rattle.meaning_runs.proofs.ShownCells.{newest_behind, with_empty, value_hidden, group_hidden}
use Rattle.meaning_runs.proofs.ShownActs.{earlier_shown, any_shown, outside_shown, no_context, calling_contextual, waiting_contextual, obtains_contextual, makes_contextual, group_made, grown_then, keeps_now, goes_on, saves_more, pops, popped, waits_no_more, saves_its_pass, returns, joins}
use Rattle.meaning_runs.proofs.ShownSteps.{chosen_true, chosen_false, W, put_none, of_run, foreign_shown, out_of, literal_fine, handed_by}

abbrev no_values : ℕ → Value
no_values v = nothing

abbrev no_groups : ℕ → Option ℕ
no_groups v = None

pub none_foreign : (s : Store) → AreForeign s no_values no_groups
none_foreign s = record { any = λ v. any_nothing; foreign = λ v. outside_none }

-- whatever is said of worlds, and stays so by what the environment does
module _ (p : Program) (R : World → Type 0) (more : (w next : World) → R w → Surrounds p w next → R next) where
  module _ (st : ℕ → List Frame) (e : List Closure) (calls : List ℕ) where
    pub calls_so : (s : Store) (x : Shadow) (value : Value) → IsAny s value → R (W (shadow_store s x) st e calls)
        → R (W (shadow_store (calling s value) x) st e calls)
    calls_so s x nothing h run = run
    calls_so s x (cancel_function a) (any_function l) run = more _ _ run (calls_any a l)

    ends_so : (s : Store) (x : Shadow) (o : Option ℕ) → ((a : ℕ) → o ≡ Some a → a < s.context_count)
        → R (W (shadow_store s x) st e calls)
        → R (W (shadow_store (ending s o) x) st e calls)
    ends_so s x None h run = run
    ends_so s x (Some a) h run = more _ _ run (ends_one a (h a refl))

    pub waits_so : (s : Store) (x : Shadow) → IsShadow s x → (o : Option ℕ) → R (W (shadow_store s x) st e calls)
        → R (W (shadow_store (waiting_for s o) x) st e calls)
    waits_so s x is None run = run
    waits_so s x is (Some a) run = ends_so s x (s.group_context a) (λ b i. is.contexts a b i) run

    pub obtains_so : (s : Store) (x : Shadow) (c : Callee) (value : Value) (made : Store) → Obtains s c value made
        → R (W (shadow_store s x) st e calls)
        → R (W (shadow_store made x) st e calls)
    obtains_so s x c value made (new_one parent earlier) run =
        more _ _ run (makes_one parent (earlier_shown s x parent earlier))
    obtains_so s x c value made (earlier_one a m l) run = run
    obtains_so s x c value made (none_at_all m) run = run

    pub makes_so : (s : Store) (x : Shadow) (state : GroupState) (context : Option ℕ) (made : Store)
        → Makes s state context made
        → R (W (shadow_store s x) st e calls)
        → R (W (shadow_store made x) st e calls)
    makes_so s x state context made zero_group run = run
    makes_so s x state context made (with_context parent earlier) run =
        more _ _ run (makes_one parent (earlier_shown s x parent earlier))

below_earlier : (s : Store) (context : Option ℕ) → ((b : ℕ) → context ≡ Some b → b < s.context_count)
    → IsEarlier s context
below_earlier s None h = tt
below_earlier s (Some b) h = h b refl

module _ (p : Program) (closed : AreAmong p) (distinct : HaveDistinctPaths p.packages)
    (s : Store) (x : Shadow) (is : IsShadow s x) (kept : AreAny s) (f : Frame) (it : FineFrame p s x f)
    (hidden : T p f.body.home ≡ false) (g : ℕ)
    (R : World → Type 0) (more : (w next : World) → R w → Surrounds p w next → R next) where
  abbrev S : Store
  S = shadow_store s x

  pub record HiddenAct (after : Store) (frames : List Frame) : Type 0 where
    pub y : Shadow
    pub grown : Grown s x after y
    pub is_shadow : IsShadow after y
    pub goes : (st : ℕ → List Frame) (e : List Closure) (calls : List ℕ) → st g ≡ [] → R (W S st e calls)
        → R (W (shadow_store after y) (put_at st g (tops p frames)) e calls)
    pub stack : (others : List Frame) → FineStack p after y others → tops p others ≡ []
        → FineStack p after y (frames ++ others)
    pub shape : (others : List Frame) → tops p others ≡ [] → tops p (frames ++ others) ≡ tops p frames

  abbrev Goes : Store → Shadow → Type 0
  Goes after y =
      (st : ℕ → List Frame) (e : List Closure) (calls : List ℕ) → R (W S st e calls) → R (W (shadow_store after y) st e calls)

  one : (after : Store) (y : Shadow) (h : Frame) → Grown s x after y → IsShadow after y → FineFrame p after y h
      → T p h.body.home ≡ false
      → Goes after y
      → HiddenAct after (h ∷ [])
  one after y h grown its fine off goes = record {
    y = y;
    grown = grown;
    is_shadow = its;
    goes = λ st e calls none run.
        subst (λ z. R (W (shadow_store after y) z e calls))
        (put_none st g (tops p (h ∷ [])) none (chosen_false (T p h.body.home) (h ∷ []) [] off)) (goes st e calls run);
    stack = λ others rest none. (fine, λ o. none, rest);
    shape = λ others none. chosen_false (T p h.body.home) (h ∷ tops p others) [] off
        ∙ sym (chosen_false (T p h.body.home) (h ∷ []) [] off);
  }

  abbrev still : Grown s x s x
  still = (no_context s x is).grown

  same_store : (h : Frame) → FineFrame p s x h → T p h.body.home ≡ false → HiddenAct s (h ∷ [])
  same_store h fine off = one s x h still is fine off (λ st e calls run. run)

  binds_one : (made : Store) (c_is : IsShadow made x) (grown : Grown s x made x) (u : VariableAt) (value : Value)
      (rest : Code Event) (obtained : List ℕ) (keeping : List InObject) {o : Option (Occurrence Event)}
      → GoesOn f o rest
      → FineKept made keeping
      → Goes made x
      → HiddenAct (binding made f u value)
      ((record (binds made f u) { stage = runs rest; obtained = obtained; kept = keeping }) ∷ [])
  binds_one made c_is grown u value rest obtained keeping d fine goes =
      let t = T p f.body.home in
      let its = cells_grow p grown t f.newest it.newest in
      let y = with_empty made x c_is f u t its hidden in
      let after = binding made f u value in
      let new = cells_grown made x c_is false no_values no_groups in
      let last : Grown made x after y = record {
        cells = new.cells;
        contexts = new.contexts;
        shown = new.shown;
        out = new.out;
      } in
      let whole = grown_then grown last in
      let now = frame_grows p whole f it in
      one after y (record (binds made f u) { stage = runs rest; obtained = obtained; kept = keeping }) whole
      (value_hidden made x c_is f u t its hidden value) record {
        is_of = it.is_of;
        newest = newest_behind made x c_is f u t its after y refl (ap (put_at x.is_shown made.cell_count) (sym hidden));
        waits = now.waits;
        saves = now.saves;
        keeps = λ k c. any_grows p last k.value (fine k c);
        code = (goes_on p it whole d).code;
      } hidden
      (λ st e calls run. more _ _ (goes st e calls run) (makes_cells no_values no_groups (none_foreign (shadow_store made x))))

  -- a call begins
  begins_one : (passing : Passing) (after : Store) (new : List Frame) (h : Frame)
      → FinePass (T p) s x f.body passing
      → T p h.body.home ≡ false
      → ((later : Store) (y : Shadow) → Grown s x later y → FineFrame p later y h)
      → Begins (all_run p) s f passing after new
      → HiddenAct after (new ++ h ∷ [])
  begins_one passing after new h fine off grows (of_none none true_there) = same_store h (grows s x still) off
  begins_one passing after new h fine off grows (of_function b values groups is_it fits) =
      by (T p b.home) refl
    where
      foreign : AreForeign S values groups
      foreign =
          record { any = λ v. any_shown s x (values v) (fits.any v); foreign = λ v. outer v (fits.other_groups v) }
        where
          by_group : (o : Option ℕ) → ((a : ℕ) → o ≡ Some a → IsOut x a) → IsOutside S o
          by_group None out = outside_none
          by_group (Some a) out = outside_group (out a refl)

          outer : (v : ℕ) → IsLentTo b passing.lent v ⊎ IsOutside s (groups v) → IsOutside S (groups v)
          outer v (inr out) = outside_shown s x is (groups v) out
          outer v (inl lent) =
              let same : groups v ≡ lent.argument.group =
              ap groups (sym lent.is_its_number)
              ∙ fits.same_group lent.parameter lent.argument lent.is_of_body lent.is_lent lent.is_its_position in
              by_group (groups v) (λ a e. fine.lent hidden lent.argument a lent.is_lent (sym same ∙ e))

      by : (run : Bool) → T p b.home ≡ run
          → HiddenAct (with_cells s values groups) (new_frame s b nothing_around ∷ h ∷ [])
      by run e =
          let y = with_new_cells s x is run values groups in
          let next = with_cells s values groups in
          let grown = cells_grown s x is run values groups in
          record {
            y = y;
            grown = grown;
            is_shadow =
                cells_shown s x is run values groups (λ o v a i. out_of p closed distinct s x is kept (groups v) a (foreign.foreign v) i);
            goes = goes run e;
            stack = λ others rest none. (
              new_is_fine p s next y b nothing_around is_it.is_of (omega arith)
                  (put_at-same x.is_shown s.cell_count run ∙ sym e) (λ v k i. absurd (none-some k i)),
              λ o. chosen_false (T p h.body.home) (h ∷ tops p others) [] off,
              (grows next y grown, λ o. none, rest),
            );
            shape = λ others none.
                ap (λ l. if T p b.home then new_frame s b nothing_around ∷ l else [])
                (chosen_false (T p h.body.home) (h ∷ tops p others) [] off
                ∙ sym (chosen_false (T p h.body.home) (h ∷ []) [] off));
          }
        where
          goes : (run : Bool) → T p b.home ≡ run → (st : ℕ → List Frame) (e : List Closure) (calls : List ℕ) → st g ≡ []
              → R (W S st e calls)
              → R (W (shadow_store (with_cells s values groups) (with_new_cells s x is run values groups))
              (put_at st g (tops p (new_frame s b nothing_around ∷ h ∷ []))) e calls)
          goes true i st e calls none there =
              subst (λ z. R (W (with_cells S values groups) (put_at st g z) e calls))
              (sym (chosen_true (T p b.home) (new_frame s b nothing_around ∷ tops p (h ∷ [])) [] i
              ∙ ap (λ l. new_frame s b nothing_around ∷ l) (chosen_false (T p h.body.home) (h ∷ []) [] off)))
              (more _ _ there (starts g b values groups none (of_run p closed distinct b is_it.is_of i)
              (named_is_outermost (all_run p) b is_it.is_of passing.callee.name is_it.has_name) foreign))
          goes false i st e calls none there =
              subst (λ z. R (W (with_cells S values groups) z e calls))
              (put_none st g (tops p (new_frame s b nothing_around ∷ h ∷ [])) none
              (chosen_false (T p b.home) (new_frame s b nothing_around ∷ tops p (h ∷ [])) [] i))
              (more _ _ there (makes_cells values groups foreign))

  given_any : (position v : ℕ) (z : Given) → Contains (record { position = position; value = held s f v } ∷ []) z
      → IsAny s z.value
  given_any position v z h = elim (contains_cases record { position = position; value = held s f v } z [] h) [
    | inl q ↦ subst (λ (i : Given). IsAny s i.value) q (any_held s kept f v)
    | inr n ↦ absurd (contains_nil z n)
  ]

  lent_out : (position v : ℕ) (l : Lent) (a : ℕ)
      → Contains (record { position = position; group = held_group s f v } ∷ []) l
      → l.group ≡ Some a
      → IsOut x a
  lent_out position v l a h i = elim (contains_cases record { position = position; group = held_group s f v } l [] h) [
    | inl q ↦ group_out s x is (T p f.body.home) f.newest it.newest hidden v a (ap (λ (z : Lent). z.group) q ∙ i)
    | inr n ↦ absurd (contains_nil l n)
  ]

  its_pass : (passing : Passing) → ComesToCall f passing → FinePass (T p) s x f.body passing
  its_pass passing (at_once way now) = it.waits passing way.waits
  its_pass passing (saved_before r) = popped p it still r

  pub hidden_acts : (old : Place) (after : Store) (frames : List Frame) → Acts (all_run p) s old f after frames
      → HiddenAct after frames
  hidden_acts old after frames (moves_on {rest = rest} d) = same_store (at_code f rest) (goes_on p it still d) hidden
  hidden_acts old after frames (does_other {rest = rest} d) =
      same_store (at_code f rest) (goes_on p it still d.comes_to.goes_on) hidden
  hidden_acts old after frames (obtains_one {u = u} {c = c} {rest = rest} {value = value} {made = made} d gives) =
      let k = obtains_contextual s x is c value made gives in
      binds_one made k.is k.grown u value rest (with_function value f.obtained) f.kept d.comes_to.goes_on
      (frame_grows p k.grown f it).keeps (λ st e calls run. obtains_so p R more st e calls s x c value made gives run)
  hidden_acts old after frames (obtains_into {u = u} {c = c} {x = object} {rest = rest} {value = value} {made = made} d
      gives) =
      let k = obtains_contextual s x is c value made gives in
      let one_more : InObject = record { variable = u.number; object = object; value = value } in
      binds_one made k.is k.grown (own_cell u.number) value rest (with_function value f.obtained) (one_more ∷ f.kept)
      d.comes_to.goes_on
      (kept_more made f.kept one_more (obtaining s made c value gives kept).2 (frame_grows p k.grown f it).keeps)
      (λ st e calls run. obtains_so p R more st e calls s x c value made gives run)
  hidden_acts old after frames (keeps_one {v = v} {x = object} {rest = rest} d) =
      let one_more : InObject = record { variable = v; object = object; value = held s f v } in
      same_store (record (at_code f rest) { kept = one_more ∷ f.kept })
      (keeps_now p (goes_on p it still d.comes_to.goes_on) (one_more ∷ f.kept) f.given_away
      (kept_more s f.kept one_more (any_held s kept f v) it.keeps)) hidden
  hidden_acts old after frames (renews_object {v = v} {x = object} {rest = rest} d) =
      same_store (record f { stage = runs rest; kept = without_kept f.kept v object })
      (keeps_now p (goes_on p it still d.comes_to.goes_on) (without_kept f.kept v object) f.given_away
      (kept_less s f.kept v object it.keeps)) hidden
  hidden_acts old after frames (calls_kept {v = v} {x = object} {rest = rest} d) =
      let value = kept_value f.kept v object in
      let k = calling_contextual s x is value in
      one (calling s value) x (at_code f rest) k.grown k.is (goes_on p it k.grown d.comes_to.goes_on) hidden
      (λ st e calls run. calls_so p R more st e calls s x value (kept_any s f.kept it.keeps v object) run)
  hidden_acts old after frames (saves_kept {v = v} {x = object} {rest = rest} d) =
      let call = saved_call (kept_value f.kept v object) in
      same_store (record f { stage = runs rest; saved = call ∷ f.saved })
      (saves_more p it still d.comes_to.goes_on call (kept_any s f.kept it.keeps v object)) hidden
  hidden_acts old after frames (gives_object {v = v} {x = object} {rest = rest} d) =
      let given = kept_value f.kept v object ∷ f.given_away in
      same_store (record (at_code f rest) { given_away = given })
      (keeps_now p (goes_on p it still d.comes_to.goes_on) f.kept given it.keeps) hidden
  hidden_acts old after frames (gives_in_field {v = v} {rest = rest} d) =
      same_store (record (at_code f rest) { given_away = held s f v ∷ f.given_away })
      (keeps_now p (goes_on p it still d.comes_to.goes_on) f.kept (held s f v ∷ f.given_away) it.keeps) hidden
  hidden_acts old after frames (clears_one {u = u} {rest = rest} d) =
      binds_one s is still u nothing rest f.obtained f.kept d.comes_to.goes_on it.keeps (λ st e calls run. run)
  hidden_acts old after frames (calls_one {v = v} {rest = rest} d) =
      let k = calling_contextual s x is (held s f v) in
      one (calling s (held s f v)) x (at_code f rest) k.grown k.is (goes_on p it k.grown d.comes_to.goes_on) hidden
      (λ st e calls run. calls_so p R more st e calls s x (held s f v) (any_held s kept f v) run)
  hidden_acts old after frames (saves_call {v = v} {rest = rest} d) =
      same_store (record f { stage = runs rest; saved = saved_call (held s f v) ∷ f.saved })
      (saves_more p it still d.comes_to.goes_on (saved_call (held s f v)) (any_held s kept f v)) hidden
  hidden_acts old after frames (makes_group {u = u} {state = state} {context = context} {made = made} {rest = rest} d gives) =
      let t = T p f.body.home in
      let k = makes_contextual s x is state context made gives in
      let m = group_made made x k.0.is (frame_at old) outside context (λ e. refl) k.1 in
      let x1 : Shadow = record x { maker = put_at x.maker made.group_count outside } in
      let s1 = with_group made (frame_at old) context in
      let first = grown_then k.0.grown m.grown in
      let its = cells_grow p first t f.newest it.newest in
      let y = with_empty s1 x1 m.is f u t its hidden in
      let last_store = binding_group s1 f u made.group_count in
      let new = cells_grown s1 x1 m.is false no_values no_groups in
      let last : Grown s1 x1 last_store y = record {
        cells = new.cells;
        contexts = new.contexts;
        shown = new.shown;
        out = new.out;
      } in
      let whole = grown_then first last in
      let now = frame_grows p whole f it in
      one last_store y (record (binds made f u) { stage = runs rest; made = made.group_count ∷ f.made }) whole
      (group_hidden s1 x1 m.is f u t its hidden made.group_count (put_at-same x.maker made.group_count outside)) record {
        is_of = it.is_of;
        newest =
            newest_behind s1 x1 m.is f u t its last_store y refl (ap (put_at x.is_shown made.cell_count) (sym hidden));
        waits = now.waits;
        saves = now.saves;
        keeps = now.keeps;
        code = (goes_on p it whole d.comes_to.goes_on).code;
      } hidden
      (λ st e calls run. more _ _
      (more _ _ (makes_so p R more st e calls s x state context made gives run)
      (makes_outside context (earlier_shown made x context (below_earlier made context k.1))))
      (makes_cells no_values no_groups (none_foreign (shadow_store s1 x1))))
  hidden_acts old after frames (tries_nothing {rest = rest} d) =
      same_store (at_code f rest) (goes_on p it still d.comes_to.goes_on) hidden
  hidden_acts old after frames (ends_wait {v = v} {rest = rest} d ends) =
      let k = waiting_contextual s x is (held_group s f v) in
      one (waiting_for s (held_group s f v)) x (at_code f rest) k.grown k.is (goes_on p it k.grown d.comes_to.goes_on) hidden
      (λ st e calls run. waits_so p R more st e calls s x is (held_group s f v) run)
  hidden_acts old after frames (saves_wait {v = v} {rest = rest} d) =
      same_store (record f { stage = runs rest; saved = saved_wait (held_group s f v) ∷ f.saved })
      (saves_more p it still d.comes_to.goes_on (saved_wait (held_group s f v)) tt) hidden
  hidden_acts old after frames (evaluates {u = u} {c = c} {position = position} {rest = rest} d may) =
      same_store (evaluating s f u.number c position false rest)
      (joins p it still d.goes_on c false position (record { position = position; value = held s f u.number } ∷ []) [] may
      (handed_by p closed distinct s x is kept f it d c passes) (λ z h. given_any position u.number z h)
      (λ e l a h. absurd (contains_nil l h))) hidden
  hidden_acts old after frames (evaluates_deferred {u = u} {c = c} {position = position} {rest = rest} d may) =
      same_store (evaluating s f u.number c position true rest)
      (joins p it still d.goes_on c true position (record { position = position; value = held s f u.number } ∷ []) [] may
      (handed_by p closed distinct s x is kept f it d c defers) (λ z h. given_any position u.number z h)
      (λ e l a h. absurd (contains_nil l h))) hidden
  hidden_acts old after frames (lends {v = v} {c = c} {position = position} {rest = rest} d may) =
      same_store (lending s f v c position rest)
      (joins p it still d.goes_on c false position [] (record { position = position; group = held_group s f v } ∷ []) may
      (handed_by p closed distinct s x is kept f it d c lends_it) (λ z h. absurd (contains_nil z h))
      (λ e l a h i. lent_out position v l a h i)) hidden
  hidden_acts old after frames (makes_call {passing = passing} {after = later} {new = new} way now begins) =
      begins_one passing later new (record f { waiting = None }) (it.waits passing way.waits) hidden
      (λ next y grown. waits_no_more p it grown) begins
  hidden_acts old after frames (calls_outside {passing = passing} {x = z} way gets) =
      let k = calling_contextual s x is z.value in
      one (calling s z.value) x f k.grown k.is (frame_grows p k.grown f it) hidden
      (λ st e calls run. calls_so p R more st e calls s x z.value ((its_pass passing way.comes_to_it).any z gets) run)
  hidden_acts old after frames (saves_pass {passing = passing} way later) =
      same_store (record f { waiting = None; saved = saved_pass passing ∷ f.saved }) (saves_its_pass p it still passing way.waits)
      hidden
  hidden_acts old after frames (saves_literal {rest = rest} b d is_in is_at) =
      same_store (record f { stage = runs rest; saved = saved_literal record { literal = b; newest = f.newest } ∷ f.saved })
      (saves_more p it still d.comes_to.goes_on (saved_literal record { literal = b; newest = f.newest })
      (literal_fine p closed distinct s x is kept f it b is_in)) hidden
  hidden_acts old after frames (comes_to_return {handed = handed} {rest = rest} d) =
      same_store (record f { stage = exits; handed_on = map (handed_value s f) handed })
      (returns p it still (map (handed_value s f) handed)) hidden
  hidden_acts old after frames (runs_call {value = value} {left = left} r) =
      let k = calling_contextual s x is value in
      one (calling s value) x (record f { saved = left }) k.grown k.is (pops p it k.grown r) hidden
      (λ st e calls run. calls_so p R more st e calls s x value (popped p it still r) run)
  hidden_acts old after frames (runs_pass {passing = passing} {left = left} {after = later} {new = new} r begins) =
      begins_one passing later new (record f { saved = left }) (popped p it still r) hidden
      (λ next y grown. pops p it grown r) begins
  hidden_acts old after frames (runs_literal {c = c} {left = left} values groups r foreign) =
      let its = popped p it still r in
      let y = with_new_cells s x is false values groups in
      let next = with_cells s values groups in
      let grown = cells_grown s x is false values groups in
      let off = its.its ∙ hidden in
      let out = foreign_shown p closed distinct s x is kept values groups foreign in
      record {
        y = y;
        grown = grown;
        is_shadow =
            cells_shown s x is false values groups (λ o v a i. out_of p closed distinct s x is kept (groups v) a (out.foreign v) i);
        goes = λ st e calls none run.
            subst (λ z. R (W (shadow_store next y) z e calls))
            (put_none st g (tops p (new_frame s c.literal c.newest ∷ (record f { saved = left }) ∷ [])) none
            (chosen_false (T p c.literal.home) (new_frame s c.literal c.newest ∷ tops p ((record f { saved = left }) ∷ [])) [] off))
            (more _ _ run (makes_cells values groups out));
        stack = λ others rest none. (
          new_is_fine p s next y c.literal c.newest its.is_of (omega arith)
              (put_at-same x.is_shown s.cell_count false ∙ sym off)
              (subst (λ b. FineCells next y b c.newest) (sym its.its) (cells_grow p grown (T p f.body.home) c.newest its.newest)),
          λ o. chosen_false (T p f.body.home) ((record f { saved = left }) ∷ tops p others) [] hidden,
          (pops p it grown r, λ o. none, rest),
        );
        shape = λ others none.
            chosen_false (T p c.literal.home) (new_frame s c.literal c.newest ∷ tops p ((record f { saved = left }) ∷ others)) [] off
            ∙ sym (chosen_false (T p c.literal.home) (new_frame s c.literal c.newest ∷ tops p ((record f { saved = left }) ∷ [])) [] off);
      }
  hidden_acts old after frames (runs_wait {group = group} {left = left} r ends) =
      let k = waiting_contextual s x is group in
      one (waiting_for s group) x (record f { saved = left }) k.grown k.is (pops p it k.grown r) hidden
      (λ st e calls run. waits_so p R more st e calls s x is group run)
  hidden_acts old after frames (returns_now ended) = record {
    y = x;
    grown = still;
    is_shadow = is;
    goes = λ st e calls none run. subst (λ z. R (W S z e calls)) (put_none st g [] none refl) run;
    stack = λ others rest none. rest;
    shape = λ others none. none;
  }
