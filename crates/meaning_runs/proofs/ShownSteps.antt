-- Each thing that a frame does is done too where only some packages run: by the same frame where it is shown, and else by
-- the environment.
use Rattle.std.proofs.Common.{◌≡◌, ℕ, inl, inr, Bool, true, false, cond, List, [], ◌∷◌, ◌++◌, map, Option, Some, None, Contains, refl, sym, ap, subst, ◌∙◌, arith}
use Rattle.std.specs.Prelude.{if◌then◌else◌}
use Rattle.std.proofs.lemmas.Bool.{false≢true, cases_eq}
use Rattle.std.proofs.lemmas.Option.{none-some, same_Some}
use Rattle.meaning.specs.Code.{Occurrence, Code}
use Rattle.meaning.specs.Uses.{Callee, VariableAt, Handed, Event}
use Rattle.meaning.proofs.Membership.{contains_cases, contains_nil}
use Rattle.meaning_reports.specs.Loaded.{HaveDistinctPaths, counts}
use Rattle.meaning_reports.specs.UsedImports.{HandsTo, passes, defers, lends as lends_it, HandsThere}
use Rattle.meaning_runs.specs.Bodies.{Program, Body, IsOf, IsLiteralIn, IsFunction}
use Rattle.meaning_runs.specs.Promise.{all_run}
use Rattle.meaning_runs.specs.World.{Value, nothing, frame_at, Place, Store, put_at, IsAny, IsOutside, outside_group, calling, waiting_for, MayEndWait, with_group, with_cells, AreForeign, binding, binding_group, binds, held, held_group, kept_value, without_kept, value_handed, handed_by as handed_value, own_cell, Given, Passing, Closure, saved_call, saved_pass, saved_literal, saved_wait, runs, exits, InObject, Frame, World, new_frame, nothing_around}
use Rattle.meaning_runs.specs.Steps.{GoesOn, ComesTo, at_code, with_function, joining, evaluating, lending, HasNoBody, Begins, of_function, of_none, Acts, moves_on, does_other, obtains_one, obtains_into, keeps_one, renews_object, calls_kept, saves_kept, gives_object, gives_in_field, clears_one, calls_one, saves_call, makes_group, tries_nothing, ends_wait, saves_wait, evaluates, evaluates_deferred, lends, makes_call, calls_outside, saves_pass, saves_literal, comes_to_return, runs_call, runs_pass, runs_literal, runs_wait, returns_now}
use Rattle.meaning_runs.proofs.CallSteps.{AreAny, any_held, obtaining}
use Rattle.meaning_runs.proofs.Contexts.{put_at-same, put_at-other}
use Rattle.meaning_runs.proofs.HandedEvents.{from_source}
use Rattle.meaning_runs.proofs.HandedNames.{stays_trusted}
use Rattle.meaning_runs.proofs.HolderSteps.{literal_is_of}
use Rattle.meaning_runs.proofs.Shown.{AreAmong, Shadow, shadow_store, IsOut, IsShadow, Grown, FinePass, FineCells, T, FineClosure, FineFrame, FineKept, kept_any, kept_more, kept_less, any_grows, cells_grow, frame_grows, new_is_fine, held_same, group_same, with_new_cells, cells_grown, cells_shown}
use Rattle.meaning_runs.proofs.ShownCells.{newest_behind, with_value, with_its_group, value_shown, group_shown, marked_old}
use Rattle.meaning_runs.proofs.ShownActs.{calling_shown, waiting_shown, may_end_shown, any_shown, was_called_shown, outside_shown, obtains_shown, makes_shown, no_context, calling_contextual, waiting_contextual, obtains_contextual, makes_contextual, group_made, frame-outside, grown_then, past_it, keeps_now, goes_on, saves_more, pops, popped, waits_no_more, saves_its_pass, returns, joins}

not_both : (b : Bool) → b ≡ true → b ≡ false → ⊥
not_both b e g = false≢true (sym g ∙ e)

pub chosen_true : {A : Type 0} (b : Bool) (y z : A) → b ≡ true → (if b then y else z) ≡ y
chosen_true b y z e = ap (λ c. cond c y z) e

pub chosen_false : {A : Type 0} (b : Bool) (y z : A) → b ≡ false → (if b then y else z) ≡ z
chosen_false b y z e = ap (λ c. cond c y z) e

-- a world of these parts
abbrev pub W : Store → (ℕ → List Frame) → List Closure → List ℕ → World
W s st e calls = record { store = s; stacks = st; escaped = e; to_call = calls }

pub put_none : (st : ℕ → List Frame) (g : ℕ) (l : List Frame) → st g ≡ [] → l ≡ [] → st ≡ put_at st g l
put_none st g l none empty = λ j h. at h j
  where
    at : (h : ℕ) → st h ≡ put_at st g l h
    at h = elim (cases_eq h g) [
      | inl same ↦ ap st same ∙ (none ∙ (sym empty ∙ sym (ap (put_at st g l) same ∙ put_at-same st g l)))
      | inr ne ↦ sym (put_at-other st g l h ne)
    ]

module _ (p : Program) (closed : AreAmong p) (distinct : HaveDistinctPaths p.packages) where
  -- bodies and functions of packages that run

  pub of_run : (b : Body) → IsOf (all_run p) b → T p b.home ≡ true → IsOf p b
  of_run b of e = record { loaded = of.loaded; is_package = of.is_package; is_run = e; is_file = of.is_file; is_body = of.is_body }

  of_all : (b : Body) → IsOf p b → IsOf (all_run p) b
  of_all b of = record { loaded = of.loaded; is_package = of.is_package; is_run = ap counts of.is_package ∙ closed.are_counted b.home of.loaded of.is_run of.is_package; is_file = of.is_file; is_body = of.is_body }

  pub no_body : (caller : Body) (f : Callee) → HasNoBody (all_run p) caller f → HasNoBody p caller f
  no_body caller f none b is = none b record { is_of = of_all b is.is_of; is_of_package = is.is_of_package; has_name = is.has_name }

  -- what a shown frame calls is shown
  pub called_is_run : (caller b : Body) (f : Callee) → IsOf (all_run p) caller → T p caller.home ≡ true
      → HandsThere caller.file f
      → IsFunction (all_run p) caller f b
      → T p b.home ≡ true
  called_is_run caller b f of e hands is =
      stays_trusted p distinct closed.are_closed caller (of_run caller of e) f b.home hands is.is_of_package is.is_of.is_run

  module _ (s : Store) (x : Shadow) (is : IsShadow s x) (kept : AreAny s) where
    abbrev pub S : Store
    S = shadow_store s x

    pub foreign_shown : (values : ℕ → Value) (groups : ℕ → Option ℕ) → AreForeign s values groups → AreForeign S values groups
    foreign_shown values groups h = record {
      any = λ v. any_shown s x (values v) (h.any v);
      foreign = λ v. outside_shown s x is (groups v) (h.foreign v);
    }

    pub out_of : (o : Option ℕ) (a : ℕ) → IsOutside S o → o ≡ Some a → IsOut x a
    out_of None a h e = absurd (none-some a e)
    out_of (Some i) a (outside_group h) e = subst (IsOut x) (same_Some i a e) h

    module _ (f : Frame) (it : FineFrame p s x f) where
      abbrev t : Bool
      t = T p f.body.home

      -- a literal of the frame
      pub literal_fine : (b : Body) → IsLiteralIn f.body b → FineClosure p s x t record { literal = b; newest = f.newest }
      literal_fine b is_in = record {
        is_of = literal_is_of (all_run p) f.body b it.is_of is_in;
        its = ap (T p) is_in.same_home;
        newest = it.newest;
      }

      pub handed_by : {e : Event} {rest : Code Event} (d : ComesTo f e rest) (c : Callee) → HandsTo c e → HandsThere f.body.file c
      handed_by {e} {rest} d c hands =
          from_source f.body it.is_of.is_body c e (past_it p it (no_context s x is).grown d.goes_on).1 hands

      -- A frame that is shown

      pub record ShownAct (place : Place) (after : Store) (frames : List Frame) : Type 0 where
        pub y : Shadow
        pub acts : Acts p S place f (shadow_store after y) frames
        pub grown : Grown s x after y
        pub is_shadow : IsShadow after y
        pub fine : (g : Frame) → Contains frames g → FineFrame p after y g × (T p g.body.home ≡ true)

      module _ (shown : t ≡ true) (old place : Place) where
        same : (v : ℕ) → held S f v ≡ held s f v
        same v = held_same s x is t f.newest it.newest shown v

        same_handed : (h : Handed) → handed_value S f h ≡ handed_value s f h
        same_handed h = by h.number h.object
          where
            by : (v : ℕ) (o : Option ℕ) → value_handed S f v o ≡ value_handed s f v o
            by v None = same v
            by v (Some y) = refl

        same_group : (v : ℕ) → held_group S f v ≡ held_group s f v
        same_group v = group_same s x is t f.newest it.newest shown v

        one : (after : Store) (y : Shadow) (g : Frame) → Acts p S place f (shadow_store after y) (g ∷ [])
            → Grown s x after y
            → IsShadow after y
            → FineFrame p after y g
            → T p g.body.home ≡ true
            → ShownAct place after (g ∷ [])
        one after y g acts grown its fine e = record {
          y = y;
          acts = acts;
          grown = grown;
          is_shadow = its;
          fine = λ h c. elim (contains_cases g h [] c) [
            | inl q ↦ subst (λ i. FineFrame p after y i × (T p i.body.home ≡ true)) q (fine, e)
            | inr n ↦ absurd (contains_nil h n)
          ];
        }

        two : (after : Store) (y : Shadow) (g h : Frame) → Acts p S place f (shadow_store after y) (g ∷ h ∷ [])
            → Grown s x after y
            → IsShadow after y
            → FineFrame p after y g
            → T p g.body.home ≡ true
            → FineFrame p after y h
            → T p h.body.home ≡ true
            → ShownAct place after (g ∷ h ∷ [])
        two after y g h acts grown its fine e fine_h e_h = record {
          y = y;
          acts = acts;
          grown = grown;
          is_shadow = its;
          fine = λ i c. elim (contains_cases g i (h ∷ []) c) [
            | inl q ↦ subst (λ j. FineFrame p after y j × (T p j.body.home ≡ true)) q (fine, e)
            | inr more ↦ elim (contains_cases h i [] more) [
              | inl q ↦ subst (λ j. FineFrame p after y j × (T p j.body.home ≡ true)) q (fine_h, e_h)
              | inr n ↦ absurd (contains_nil i n)
            ]
          ];
        }

        same_store : (g : Frame) → Acts p S place f S (g ∷ [])
            → FineFrame p s x g
            → T p g.body.home ≡ true
            → ShownAct place s (g ∷ [])
        same_store g acts fine e = one s x g acts (no_context s x is).grown is fine e

        abbrev still : Grown s x s x
        still = (no_context s x is).grown

        -- a variable is bound, after contexts changed
        binds_one : (made : Store) (c_is : IsShadow made x) (grown : Grown s x made x) (u : VariableAt) (value : Value)
            (rest : Code Event) (obtained : List ℕ) (keeping : List InObject) {o : Option (Occurrence Event)}
            → GoesOn f o rest
            → FineKept made keeping
            → Acts p S place f (binding (shadow_store made x) f u value)
            ((record (binds made f u) { stage = runs rest; obtained = obtained; kept = keeping }) ∷ [])
            → ShownAct place (binding made f u value)
            ((record (binds made f u) { stage = runs rest; obtained = obtained; kept = keeping }) ∷ [])
        binds_one made c_is grown u value rest obtained keeping d fine acts =
            let its = cells_grow p grown t f.newest it.newest in
            let y = with_value made x c_is f u t its shown value in
            let after = binding made f u value in
            let last : Grown made x after y = record {
              cells = omega arith;
              contexts = omega arith;
              shown = λ k l. marked_old made x c_is f u t its k l;
              out = λ a h. h;
            } in
            let whole = grown_then grown last in
            let now = frame_grows p whole f it in
            one after y (record (binds made f u) { stage = runs rest; obtained = obtained; kept = keeping }) acts whole
            (value_shown made x c_is f u t its shown value) record {
              is_of = it.is_of;
              newest = newest_behind made x c_is f u t its after y refl refl;
              waits = now.waits;
              saves = now.saves;
              keeps = λ k c. any_grows p last k.value (fine k c);
              code = (goes_on p it whole d).code;
            } shown

        -- a call begins
        begins_one : (passing : Passing) (after : Store) (new : List Frame) (g : Frame)
            → FinePass (T p) s x f.body passing
            → T p g.body.home ≡ true
            → ((later : Store) (y : Shadow) → Grown s x later y → FineFrame p later y g)
            → ((target : Store) → Begins p S f passing target new → Acts p S place f target (new ++ g ∷ []))
            → Begins (all_run p) s f passing after new
            → ShownAct place after (new ++ g ∷ [])
        begins_one passing after new g fine e grows acts (of_none none true_there) =
            one s x g
            (acts S (of_none (no_body f.body passing.callee none)
            (λ z c h. was_called_shown s x z.value (true_there z c h))))
            still is (grows s x still) e
        begins_one passing after new g fine e grows acts (of_function b values groups is_it fits) =
            let run = called_is_run f.body b passing.callee it.is_of shown fine.handed is_it in
            let y = with_new_cells s x is (T p b.home) values groups in
            let next = with_cells s values groups in
            let grown = cells_grown s x is (T p b.home) values groups in
            two next y (new_frame s b nothing_around) g
            (acts (with_cells S values groups) (of_function b values groups record {
              is_of = of_run b is_it.is_of run;
              is_of_package = is_it.is_of_package;
              has_name = is_it.has_name;
            } record {
              same = fits.same;
              any = λ v. any_shown s x (values v) (fits.any v);
              same_group = fits.same_group;
              other_groups = λ v. elim (fits.other_groups v) [
                | inl lent ↦ inl lent
                | inr out ↦ inr (outside_shown s x is (groups v) out)
              ];
            }))
            grown (cells_shown s x is (T p b.home) values groups (λ hidden. absurd (not_both (T p b.home) run hidden)))
            (new_is_fine p s next y b nothing_around is_it.is_of (omega arith)
            (put_at-same x.is_shown s.cell_count (T p b.home)) (λ v k i. absurd (none-some k i))) run
            (grows next y grown) e

        pub shown_acts : (after : Store) (frames : List Frame) → Acts (all_run p) s old f after frames
            → ShownAct place after frames
        shown_acts after frames (moves_on {rest = rest} d) =
            same_store (at_code f rest) (moves_on d) (goes_on p it still d) shown
        shown_acts after frames (does_other {rest = rest} d) =
            same_store (at_code f rest) (does_other d) (goes_on p it still d.comes_to.goes_on) shown
        shown_acts after frames (obtains_one {u = u} {c = c} {rest = rest} {value = value} {made = made} d gives) =
            let k = obtains_contextual s x is c value made gives in
            binds_one made k.is k.grown u value rest (with_function value f.obtained) f.kept d.comes_to.goes_on
            (frame_grows p k.grown f it).keeps (obtains_one d (obtains_shown s x c value made gives))
        shown_acts after frames (obtains_into {u = u} {c = c} {x = object} {rest = rest} {value = value} {made = made} d
            gives) =
            let k = obtains_contextual s x is c value made gives in
            let one_more : InObject = record { variable = u.number; object = object; value = value } in
            binds_one made k.is k.grown (own_cell u.number) value rest (with_function value f.obtained) (one_more ∷ f.kept)
            d.comes_to.goes_on
            (kept_more made f.kept one_more (obtaining s made c value gives kept).2 (frame_grows p k.grown f it).keeps)
            (obtains_into d (obtains_shown s x c value made gives))
        shown_acts after frames (keeps_one {v = v} {x = object} {rest = rest} d) =
            let one_more : InObject = record { variable = v; object = object; value = held s f v } in
            same_store (record (at_code f rest) { kept = one_more ∷ f.kept })
            (subst (λ z. Acts p S place f S
            ((record (at_code f rest) { kept = record { variable = v; object = object; value = z } ∷ f.kept }) ∷ []))
            (same v) (keeps_one d))
            (keeps_now p (goes_on p it still d.comes_to.goes_on) (one_more ∷ f.kept) f.given_away
            (kept_more s f.kept one_more (any_held s kept f v) it.keeps)) shown
        shown_acts after frames (renews_object {v = v} {x = object} {rest = rest} d) =
            same_store (record f { stage = runs rest; kept = without_kept f.kept v object }) (renews_object d)
            (keeps_now p (goes_on p it still d.comes_to.goes_on) (without_kept f.kept v object) f.given_away
            (kept_less s f.kept v object it.keeps)) shown
        shown_acts after frames (calls_kept {v = v} {x = object} {rest = rest} d) =
            let value = kept_value f.kept v object in
            let k = calling_contextual s x is value in
            one (calling s value) x (at_code f rest)
            (subst (λ z. Acts p S place f z (at_code f rest ∷ [])) (calling_shown s x value) (calls_kept d))
            k.grown k.is (goes_on p it k.grown d.comes_to.goes_on) shown
        shown_acts after frames (saves_kept {v = v} {x = object} {rest = rest} d) =
            let call = saved_call (kept_value f.kept v object) in
            same_store (record f { stage = runs rest; saved = call ∷ f.saved }) (saves_kept d)
            (saves_more p it still d.comes_to.goes_on call (kept_any s f.kept it.keeps v object)) shown
        shown_acts after frames (gives_object {v = v} {x = object} {rest = rest} d) =
            let given = kept_value f.kept v object ∷ f.given_away in
            same_store (record (at_code f rest) { given_away = given }) (gives_object d)
            (keeps_now p (goes_on p it still d.comes_to.goes_on) f.kept given it.keeps) shown
        shown_acts after frames (gives_in_field {v = v} {rest = rest} d) =
            same_store (record (at_code f rest) { given_away = held s f v ∷ f.given_away })
            (subst (λ z. Acts p S place f S ((record (at_code f rest) { given_away = z ∷ f.given_away }) ∷ [])) (same v)
            (gives_in_field d))
            (keeps_now p (goes_on p it still d.comes_to.goes_on) f.kept (held s f v ∷ f.given_away) it.keeps) shown
        shown_acts after frames (clears_one {u = u} {rest = rest} d) =
            binds_one s is still u nothing rest f.obtained f.kept d.comes_to.goes_on it.keeps (clears_one d)
        shown_acts after frames (calls_one {v = v} {rest = rest} d) =
            let k = calling_contextual s x is (held s f v) in
            one (calling s (held s f v)) x (at_code f rest)
            (subst (λ z. Acts p S place f z (at_code f rest ∷ [])) (ap (calling S) (same v) ∙ calling_shown s x (held s f v))
            (calls_one d)) k.grown k.is (goes_on p it k.grown d.comes_to.goes_on) shown
        shown_acts after frames (saves_call {v = v} {rest = rest} d) =
            same_store (record f { stage = runs rest; saved = saved_call (held s f v) ∷ f.saved })
            (subst (λ z. Acts p S place f S ((record f { stage = runs rest; saved = saved_call z ∷ f.saved }) ∷ [])) (same v)
            (saves_call d)) (saves_more p it still d.comes_to.goes_on (saved_call (held s f v)) (any_held s kept f v)) shown
        shown_acts after frames (makes_group {u = u} {state = state} {context = context} {made = made} {rest = rest} d gives) =
            let k = makes_contextual s x is state context made gives in
            let m = group_made made x k.0.is (frame_at old) (frame_at place) context (λ e. absurd (frame-outside old e)) k.1 in
            let x1 : Shadow = record x { maker = put_at x.maker made.group_count (frame_at place) } in
            let s1 = with_group made (frame_at old) context in
            let first = grown_then k.0.grown m.grown in
            let its = cells_grow p first t f.newest it.newest in
            let y = with_its_group s1 x1 m.is f u t its shown made.group_count in
            let last_store = binding_group s1 f u made.group_count in
            let last : Grown s1 x1 last_store y = record {
              cells = omega arith;
              contexts = omega arith;
              shown = λ i l. marked_old s1 x1 m.is f u t its i l;
              out = λ a h. h;
            } in
            let whole = grown_then first last in
            let now = frame_grows p whole f it in
            one last_store y (record (binds made f u) { stage = runs rest; made = made.group_count ∷ f.made })
            (makes_group d (makes_shown s x state context made gives)) whole
            (group_shown s1 x1 m.is f u t its shown made.group_count) record {
              is_of = it.is_of;
              newest = newest_behind s1 x1 m.is f u t its last_store y refl refl;
              waits = now.waits;
              saves = now.saves;
              keeps = now.keeps;
              code = (goes_on p it whole d.comes_to.goes_on).code;
            } shown
        shown_acts after frames (tries_nothing {rest = rest} d) =
            same_store (at_code f rest) (tries_nothing d) (goes_on p it still d.comes_to.goes_on) shown
        shown_acts after frames (ends_wait {v = v} {rest = rest} d ends) =
            let k = waiting_contextual s x is (held_group s f v) in
            one (waiting_for s (held_group s f v)) x (at_code f rest)
            (subst (λ z. Acts p S place f z (at_code f rest ∷ [])) (waiting_shown s x (held_group s f v))
            (subst (λ z. MayEndWait S z → Acts p S place f (waiting_for S z) (at_code f rest ∷ [])) (same_group v)
            (λ m. ends_wait d m) (may_end_shown s x (held_group s f v) ends)))
            k.grown k.is (goes_on p it k.grown d.comes_to.goes_on) shown
        shown_acts after frames (saves_wait {v = v} {rest = rest} d) =
            same_store (record f { stage = runs rest; saved = saved_wait (held_group s f v) ∷ f.saved })
            (subst (λ z. Acts p S place f S ((record f { stage = runs rest; saved = saved_wait z ∷ f.saved }) ∷ []))
            (same_group v) (saves_wait d)) (saves_more p it still d.comes_to.goes_on (saved_wait (held_group s f v)) tt) shown
        shown_acts after frames (evaluates {u = u} {c = c} {position = position} {rest = rest} d may) =
            same_store (evaluating s f u.number c position false rest)
            (subst (λ z. Acts p S place f S ((record f {
              stage = runs rest;
              waiting = Some (joining f.waiting c false
                  (record { position = position; value = z } ∷ []) []);
            }) ∷ [])) (same u.number) (evaluates d may))
            (joins p it still d.goes_on c false position (record { position = position; value = held s f u.number } ∷ []) []
            may (handed_by d c passes) (λ g h. given_any position u.number g h) (λ e l a h. absurd (contains_nil l h))) shown
          where
            given_any : (position v : ℕ) (g : Given) → Contains (record { position = position; value = held s f v } ∷ []) g
                → IsAny s g.value
            given_any position v g h = elim (contains_cases record { position = position; value = held s f v } g [] h) [
              | inl q ↦ subst (λ (z : Given). IsAny s z.value) q (any_held s kept f v)
              | inr n ↦ absurd (contains_nil g n)
            ]
        shown_acts after frames (evaluates_deferred {u = u} {c = c} {position = position} {rest = rest} d may) =
            same_store (evaluating s f u.number c position true rest)
            (subst (λ z. Acts p S place f S ((record f {
              stage = runs rest;
              waiting = Some (joining f.waiting c true
                  (record { position = position; value = z } ∷ []) []);
            }) ∷ [])) (same u.number) (evaluates_deferred d may))
            (joins p it still d.goes_on c true position (record { position = position; value = held s f u.number } ∷ []) []
            may (handed_by d c defers) (λ g h. given_any position u.number g h) (λ e l a h. absurd (contains_nil l h))) shown
          where
            given_any : (position v : ℕ) (g : Given) → Contains (record { position = position; value = held s f v } ∷ []) g
                → IsAny s g.value
            given_any position v g h = elim (contains_cases record { position = position; value = held s f v } g [] h) [
              | inl q ↦ subst (λ (z : Given). IsAny s z.value) q (any_held s kept f v)
              | inr n ↦ absurd (contains_nil g n)
            ]
        shown_acts after frames (lends {v = v} {c = c} {position = position} {rest = rest} d may) =
            same_store (lending s f v c position rest)
            (subst (λ z. Acts p S place f S ((record f {
              stage = runs rest;
              waiting = Some (joining f.waiting c false []
                  (record { position = position; group = z } ∷ []));
            }) ∷ [])) (same_group v) (lends d may))
            (joins p it still d.goes_on c false position [] (record { position = position; group = held_group s f v } ∷ [])
            may (handed_by d c lends_it) (λ g h. absurd (contains_nil g h)) (λ e l a h i. absurd (not_both t shown e))) shown
        shown_acts after frames (makes_call {passing = passing} {after = later} {new = new} way now begins) =
            begins_one passing later new (record f { waiting = None }) (it.waits passing way.waits) shown
            (λ next y grown. waits_no_more p it grown) (λ target h. makes_call way now h) begins
        shown_acts after frames (calls_outside {passing = passing} {x = z} way gets) =
            let k = calling_contextual s x is z.value in
            one (calling s z.value) x f
            (subst (λ w. Acts p S place f w (f ∷ [])) (calling_shown s x z.value)
            (calls_outside record { comes_to_it = way.comes_to_it; has_no_body = no_body f.body passing.callee way.has_no_body } gets))
            k.grown k.is (frame_grows p k.grown f it) shown
        shown_acts after frames (saves_pass {passing = passing} way later) =
            same_store (record f { waiting = None; saved = saved_pass passing ∷ f.saved }) (saves_pass way later)
            (saves_its_pass p it still passing way.waits) shown
        shown_acts after frames (saves_literal {rest = rest} b d is_in is_at) =
            same_store
            (record f { stage = runs rest; saved = saved_literal record { literal = b; newest = f.newest } ∷ f.saved })
            (saves_literal b d is_in is_at)
            (saves_more p it still d.comes_to.goes_on (saved_literal record { literal = b; newest = f.newest })
            (literal_fine b is_in)) shown
        shown_acts after frames (comes_to_return {handed = handed} {rest = rest} d) =
            same_store (record f { stage = exits; handed_on = map (handed_value s f) handed })
            (subst (λ z. Acts p S place f S ((record f { stage = exits; handed_on = z }) ∷ []))
            (λ j. map (λ (h : Handed). same_handed h j) handed) (comes_to_return d))
            (returns p it still (map (handed_value s f) handed)) shown
        shown_acts after frames (runs_call {value = value} {left = left} r) =
            let k = calling_contextual s x is value in
            one (calling s value) x (record f { saved = left })
            (subst (λ w. Acts p S place f w ((record f { saved = left }) ∷ [])) (calling_shown s x value) (runs_call r))
            k.grown k.is (pops p it k.grown r) shown
        shown_acts after frames (runs_pass {passing = passing} {left = left} {after = later} {new = new} r begins) =
            begins_one passing later new (record f { saved = left }) (popped p it still r) shown
            (λ next y grown. pops p it grown r) (λ target h. runs_pass r h) begins
        shown_acts after frames (runs_literal {c = c} {left = left} values groups r foreign) =
            let its = popped p it still r in
            let y = with_new_cells s x is (T p c.literal.home) values groups in
            let next = with_cells s values groups in
            let grown = cells_grown s x is (T p c.literal.home) values groups in
            let run = its.its ∙ shown in
            two next y (new_frame s c.literal c.newest) (record f { saved = left })
            (runs_literal values groups r (foreign_shown values groups foreign)) grown
            (cells_shown s x is (T p c.literal.home) values groups (λ hidden. absurd (not_both (T p c.literal.home) run hidden)))
            (new_is_fine p s next y c.literal c.newest its.is_of (omega arith)
            (put_at-same x.is_shown s.cell_count (T p c.literal.home))
            (subst (λ b. FineCells next y b c.newest) (sym its.its) (cells_grow p grown t c.newest its.newest))) run
            (pops p it grown r) shown
        shown_acts after frames (runs_wait {group = group} {left = left} r ends) =
            let k = waiting_contextual s x is group in
            one (waiting_for s group) x (record f { saved = left })
            (subst (λ w. Acts p S place f w ((record f { saved = left }) ∷ [])) (waiting_shown s x group)
            (runs_wait r (may_end_shown s x group ends)))
            k.grown k.is (pops p it k.grown r) shown
        shown_acts after frames (returns_now ended) = record {
          y = x;
          acts = returns_now ended;
          grown = still;
          is_shadow = is;
          fine = λ g c. absurd (contains_nil g c);
        }
