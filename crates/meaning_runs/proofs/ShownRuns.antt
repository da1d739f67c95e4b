-- Each run of a whole program is shown as one where only some packages run: each frame of these does there what it does,
-- and what others do, the environment does. So a return that is quiet there is quiet in the whole program.
use Rattle.std.proofs.Common.{◌≡◌, ℕ, ◌<◌, inl, inr, Bool, true, false, List, [], ◌∷◌, ◌++◌, length, Option, Some, None, Contains, refl, sym, ap, subst, ◌∙◌, arith, map}
use Rattle.std.proofs.lemmas.Bool.{false≢true, cases_Bool, cases_eq}
use Rattle.std.proofs.lemmas.Option.{none-some, same_Some}
use Rattle.meaning.specs.Code.{Code}
use Rattle.meaning.specs.Uses.{Event, Callee, Sent, Work}
use Rattle.meaning.proofs.Membership.{contains_here, contains_there, contains_cases, contains_nil}
use Rattle.meaning_reports.specs.Loaded.{HaveDistinctPaths}
use Rattle.meaning_runs.specs.Bodies.{Program, Body, IsOf, is_parameter_of}
use Rattle.meaning_runs.specs.Promise.{all_run}
use Rattle.meaning_runs.specs.World.{Value, nothing, nobody, outside, Store, put_at, ComesFrom, itself, made_from, IsDone, IsEarlier, with_new, calling, ending, cancel_function, with_group, IsAny, any_nothing, any_function, IsOutside, outside_none, outside_group, with_member, with_cells, AreForeign, Passing, Closure, Frame, World, empty_world, with_stack, new_frame, nothing_around, held, to_call_too, Given}
use Rattle.meaning_runs.specs.Steps.{at_code, ComesToCall, at_once, saved_before, IsFree, StartsWork, Acts, ChangesMembers, starts_member, starts_stranger, starts_outside, starts_beside, leaves_group, Surrounds, starts, evaluates_literal, starts_literal, makes_cells, makes_one, ends_one, calls_any, makes_outside, joins_outside, Step, of_goroutine, of_members, of_environment, Fits, sending, declared_too, is_declared_to_call, SetsOff, past_go, StartsGoroutine, starts_call, starts_function, starts_foreign, starts_its_literal, of_go}
use Rattle.meaning_runs.specs.Runs.{Run, no_step, step_more, IsReturning, IsQuiet, Started, started_with}
use Rattle.meaning_runs.proofs.CallSteps.{AreKept, run_kept}
use Rattle.meaning_runs.proofs.Contexts.{put_at-same, put_at-other}
use Rattle.meaning_runs.proofs.Followed.{FollowedBy, Followed, new_members, new_goings, new_in, nothing_yet, environment_more, by_some, members_more, goings_more, goroutine_more}
use Rattle.meaning_runs.proofs.Shown.{AreAmong, Shadow, shadow_store, IsOut, IsShadow, Grown, FinePass, FineCells, T, FineClosure, FineFrame, tops, FineStack, closure_grows, cells_grow, stack_grows, new_is_fine, at_cell, group_same, group_out, with_new_cells, cells_grown, cells_shown, held_same}
use Rattle.meaning_runs.proofs.ShownActs.{earlier_shown, no_context, calling_contextual, ending_contextual, new_contextual, group_made, grown_then, goes_on, popped, any_shown, outside_shown}
use Rattle.meaning_runs.proofs.ShownSteps.{chosen_true, chosen_false, W, put_none, of_run, no_body, foreign_shown, out_of, literal_fine, shown_acts, called_is_run, handed_by}
use Rattle.meaning_runs.proofs.HiddenSteps.{hidden_acts}
use Rattle.std.specs.Prelude.{if◌then◌else◌}
use Rattle.meaning_reports.specs.UsedImports.{goes}
use Rattle.meaning_runs.proofs.GoingCalls.{to_call_more, to_call_grows, declared_more, declared_grows}
use Rattle.meaning_runs.proofs.NamedOutermost.{named_is_outermost}

not_both : (b : Bool) → b ≡ true → b ≡ false → ⊥
not_both b e g = false≢true (sym g ∙ e)

earlier_below : (s : Store) (context : Option ℕ) → IsEarlier s context → (b : ℕ) → context ≡ Some b
    → b < s.context_count
earlier_below s None h b e = absurd (none-some b e)
earlier_below s (Some i) h b e = subst (λ n. n < s.context_count) (same_Some i b e) h

-- a goroutine is a member, or none
module _ (s : Store) (x : Shadow) (is : IsShadow s x) (h : ℕ) (o : Option ℕ) where
  member_shown : IsShadow (with_member s h o) x
  member_shown = record {
    out = is.out;
    fresh = is.fresh;
    same_cells = is.same_cells;
    same_holds = is.same_holds;
    foreign = is.foreign;
    unused_cells = is.unused_cells;
    unused = is.unused;
    unused_holds = is.unused_holds;
    contexts = is.contexts;
  }

  member_grown : Grown s x (with_member s h o) x
  member_grown = record { cells = omega arith; contexts = omega arith; shown = λ k l. refl; out = λ a e. e }

module _ (p : Program) where
  -- Stacks

  abbrev pub shown_stacks : (ℕ → List Frame) → ℕ → List Frame
  shown_stacks st g = tops p (st g)

  tops_put : (st : ℕ → List Frame) (g : ℕ) (fs l : List Frame) → l ≡ tops p fs
      → put_at (shown_stacks st) g l ≡ shown_stacks (put_at st g fs)
  tops_put st g fs l e = λ j h. at h j
    where
      at : (h : ℕ) → put_at (shown_stacks st) g l h ≡ tops p (put_at st g fs h)
      at h = elim (cases_eq h g) [
        | inl same ↦
            ap (put_at (shown_stacks st) g l) same ∙ (put_at-same (shown_stacks st) g l ∙ (e
            ∙ sym (ap (tops p) (ap (put_at st g fs) same ∙ put_at-same st g fs))))
        | inr ne ↦ put_at-other (shown_stacks st) g l h ne ∙ sym (ap (tops p) (put_at-other st g fs h ne))
      ]

  hide_put : (st : ℕ → List Frame) (g : ℕ) (fs : List Frame) → tops p (st g) ≡ [] → tops p fs ≡ []
      → shown_stacks st ≡ shown_stacks (put_at st g fs)
  hide_put st g fs none empty = put_none (shown_stacks st) g (tops p fs) none empty ∙ tops_put st g fs (tops p fs) refl

  tops_all : (frames others : List Frame) → ((h : Frame) → Contains frames h → T p h.body.home ≡ true)
      → tops p (frames ++ others) ≡ frames ++ tops p others
  tops_all [] others all = refl
  tops_all (f ∷ fs) others all =
      chosen_true (T p f.body.home) (f ∷ tops p (fs ++ others)) [] (all f (contains_here f fs))
      ∙ ap (λ l. f ∷ l) (tops_all fs others (λ h c. all h (contains_there f h fs c)))

  module _ (s : Store) (x : Shadow) where
    stack_on : (frames others : List Frame)
        → ((h : Frame) → Contains frames h → FineFrame p s x h × (T p h.body.home ≡ true))
        → FineStack p s x others
        → FineStack p s x (frames ++ others)
    stack_on [] others all rest = rest
    stack_on (f ∷ fs) others all rest =
        let its = all f (contains_here f fs) in (
          its.0,
          λ off. absurd (not_both (T p f.body.home) its.1 off),
          stack_on fs others (λ h c. all h (contains_there f h fs c)) rest,
        )

    fine_among : (fs : List Frame) (f : Frame) → Contains fs f → FineStack p s x fs
        → FineFrame p s x f × (T p f.body.home ≡ true → Contains (tops p fs) f)
    fine_among [] f c h = absurd (contains_nil f c)
    fine_among (e ∷ fs) f c h = elim (contains_cases e f fs c) [
      | inl same ↦ (
        subst (FineFrame p s x) same h.0,
        λ on. subst (λ l. Contains l f) (sym (chosen_true (T p e.body.home) (e ∷ tops p fs) []
            (ap (λ (i : Frame). T p i.body.home) same ∙ on)))
            (subst (λ i. Contains (e ∷ tops p fs) i) same (contains_here e (tops p fs))),
      )
      | inr more ↦
          let r = fine_among fs f more h.2 in (
            r.0,
            λ on. elim (cases_Bool (T p e.body.home)) [
              | inl shown ↦
                  subst (λ l. Contains l f) (sym (chosen_true (T p e.body.home) (e ∷ tops p fs) [] shown))
                  (contains_there e f (tops p fs) (r.1 on))
              | inr off ↦ absurd (contains_nil f (subst (λ l. Contains l f) (h.1 off) (r.1 on)))
            ],
          )
    ]

  -- Worlds

  pub record SimOf (R : World → Type 0) (w : World) : Type 0 where
    pub x : Shadow
    pub escaped : List Closure
    pub to_call : List ℕ
    pub calls : (a : ℕ) → Contains to_call a → Contains w.to_call a
    pub run : R (W (shadow_store w.store x) (shown_stacks w.stacks) escaped to_call)
    pub is_shadow : IsShadow w.store x
    pub stacks : (g : ℕ) → FineStack p w.store x (w.stacks g)
    pub closures : (c : Closure) → Contains w.escaped c
        → FineClosure p w.store x (T p c.literal.home) c × (T p c.literal.home ≡ true → Contains escaped c)

  abbrev pub Sim : World → Type 0
  Sim w = SimOf (Run p) w

  module _ (closed : AreAmong p) (distinct : HaveDistinctPaths p.packages) (w : World) (kept : AreKept w) (sim : Sim w) where
    abbrev s : Store
    s = w.store

    abbrev x : Shadow
    x = sim.x

    abbrev is : IsShadow s x
    is = sim.is_shadow

    abbrev S : Store
    S = shadow_store s x

    abbrev pub Here : World
    Here = W S (shown_stacks w.stacks) sim.escaped sim.to_call

    -- the shown run goes on, by steps of the environment, or by one step
    abbrev E : World → Type 0
    E = FollowedBy p Here sim.run

    abbrev F : Option (ℕ × Started) → World → Type 0
    F = Followed p Here sim.run

    begun : FollowedBy p Here sim.run Here
    begun = nothing_yet sim.run

    surr : {next : World} → Surrounds p Here next → Followed p Here sim.run None next
    surr does = by_some sim.run None (environment_more sim.run (nothing_yet sim.run) does)

    env : {x next : World} → FollowedBy p Here sim.run x → Surrounds p x next → FollowedBy p Here sim.run next
    env r does = environment_more sim.run r does

    -- the same escaped literals, in a store that grew
    closures_grow : (after : Store) (y : Shadow) → Grown s x after y → (c : Closure) → Contains w.escaped c
        → FineClosure p after y (T p c.literal.home) c × (T p c.literal.home ≡ true → Contains sim.escaped c)
    closures_grow after y grown c h =
        let r = sim.closures c h in
        (closure_grows p grown (T p c.literal.home) c r.0, r.1)

    -- one goroutine gets another stack
    one_stack : (New : Option (ℕ × Started)) (after : Store) (y : Shadow) (g : ℕ) (fs : List Frame) → Grown s x after y
        → IsShadow after y
        → FineStack p after y fs
        → F New (W (shadow_store after y) (shown_stacks (put_at w.stacks g fs)) sim.escaped sim.to_call)
        → SimOf (F New) (with_stack w after g fs)
    one_stack New after y g fs grown its fine run = record {
      x = y;
      escaped = sim.escaped;
      to_call = sim.to_call;
      calls = sim.calls;
      run = run;
      is_shadow = its;
      stacks = λ h. at_cell (FineStack p after y) w.stacks g fs h (λ same. fine)
          (λ ne. stack_grows p grown (w.stacks h) (sim.stacks h));
      closures = closures_grow after y grown;
    }

    -- no stack changes
    no_stack : (New : Option (ℕ × Started)) (after : Store) (y : Shadow) → Grown s x after y → IsShadow after y
        → F New (W (shadow_store after y) (shown_stacks w.stacks) sim.escaped sim.to_call)
        → SimOf (F New) (record w { store = after })
    no_stack New after y grown its run = record {
      x = y;
      escaped = sim.escaped;
      to_call = sim.to_call;
      calls = sim.calls;
      run = run;
      is_shadow = its;
      stacks = λ h. stack_grows p grown (w.stacks h) (sim.stacks h);
      closures = closures_grow after y grown;
    }

    free_shown : (h : ℕ) → IsFree w h → IsFree Here h
    free_shown h free = record { has_no_frame = ap (tops p) free.has_no_frame; is_no_member = free.is_no_member }

    by_members : {next : World} (does : ChangesMembers p Here next) → Followed p Here sim.run (new_members does) next
    by_members does = members_more sim.run does

    -- The running frame of a goroutine

    module _ (g : ℕ) (f : Frame) (others : List Frame) (running : w.stacks g ≡ f ∷ others) where
      its_stack : FineStack p s x (f ∷ others)
      its_stack = subst (FineStack p s x) running (sim.stacks g)

      abbrev it : FineFrame p s x f
      it = its_stack.0

      running_shown : T p f.body.home ≡ true → tops p (w.stacks g) ≡ f ∷ tops p others
      running_shown e = ap (tops p) running ∙ chosen_true (T p f.body.home) (f ∷ tops p others) [] e

      running_hidden : T p f.body.home ≡ false → tops p (w.stacks g) ≡ []
      running_hidden e = ap (tops p) running ∙ chosen_false (T p f.body.home) (f ∷ tops p others) [] e

      code_on : (rest : Code Event) → T p f.body.home ≡ true
          → tops p (at_code f rest ∷ others) ≡ at_code f rest ∷ tops p others
      code_on rest e = chosen_true (T p f.body.home) (at_code f rest ∷ tops p others) [] e

      code_off : (rest : Code Event) → T p f.body.home ≡ false → tops p (at_code f rest ∷ others) ≡ []
      code_off rest e = chosen_false (T p f.body.home) (at_code f rest ∷ tops p others) [] e

      work_shown : (rest : Code Event) (literal : Option ℕ) (group : ℕ) → T p f.body.home ≡ true
          → StartsWork w g f others rest literal group
          → StartsWork Here g f (tops p others) rest literal group
      work_shown rest literal group e work = record {
        event = work.event;
        variable = work.variable;
        is_running = running_shown e;
        does_next = work.does_next;
        is_start = work.is_start;
        is_held = group_same s x is (T p f.body.home) f.newest it.newest e work.variable ∙ work.is_held;
      }

      work_out : (rest : Code Event) (literal : Option ℕ) (group : ℕ) → T p f.body.home ≡ false
          → StartsWork w g f others rest literal group
          → IsOut x group
      work_out rest literal group e work =
          group_out s x is (T p f.body.home) f.newest it.newest e work.variable group work.is_held

      its_pass : (r : Passing) → ComesToCall f r → FinePass (T p) s x f.body r
      its_pass r (at_once way now) = it.waits r way.waits
      its_pass r (saved_before back) = popped p it (no_context s x is).grown back

    -- what a shown frame sets off holds the same groups
    shown_groups : (g : ℕ) (f : Frame) (others : List Frame) (running : w.stacks g ≡ f ∷ others)
        → T p f.body.home ≡ true
        → (b : Body) (groups : ℕ → Option ℕ)
        → started_with S b groups f.newest ≡ started_with s b groups f.newest
    shown_groups g f others running e b groups =
        λ j. record {
          body = b;
          lent = λ v. if is_parameter_of b v then groups v
              else group_same s x is (T p f.body.home) f.newest (it g f others running).newest e v j;
        }

    goroutine_sim : (g : ℕ) (f : Frame) (others : List Frame) (after : Store) (frames : List Frame)
        (running : w.stacks g ≡ f ∷ others)
        → Acts (all_run p) s (g, length others) f after frames
        → SimOf (F None) (with_stack w after g (frames ++ others))
    goroutine_sim g f others after frames running acts = by (T p f.body.home) refl
      where
        by : (t : Bool) → T p f.body.home ≡ t → SimOf (F None) (with_stack w after g (frames ++ others))
        by true e =
            let a = shown_acts p closed distinct s x is kept.cells f (it g f others running) e (g, length others)
            (g, length (tops p others)) after frames acts in
            one_stack None after a.y g (frames ++ others) a.grown a.is_shadow
            (stack_on after a.y frames others a.fine (stack_grows p a.grown others (its_stack g f others running).2))
            (subst (λ z. F None (W (shadow_store after a.y) z sim.escaped sim.to_call))
            (tops_put w.stacks g (frames ++ others) (frames ++ tops p others)
            (sym (tops_all frames others (λ h c. (a.fine h c).1))))
            (goroutine_more sim.run (of_goroutine g (running_shown g f others running e) a.acts) g f (tops p others)
            (frames ++ tops p others) (running_shown g f others running e) refl refl refl))
        by false e =
            let a = hidden_acts p closed distinct s x is kept.cells f (it g f others running) e g E (λ y next r does. env r does) (g, length others) after
            frames acts in
            let none = (its_stack g f others running).1 e in
            one_stack None after a.y g (frames ++ others) a.grown a.is_shadow
            (a.stack others (stack_grows p a.grown others (its_stack g f others running).2) none)
            (subst (λ z. F None (W (shadow_store after a.y) z sim.escaped sim.to_call))
            (tops_put w.stacks g (frames ++ others) (tops p frames) (sym (a.shape others none)))
            (by_some sim.run None (a.goes (shown_stacks w.stacks) sim.escaped sim.to_call (running_hidden g f others running e) begun)))

    -- a goroutine begins with this body, or it is not shown
    begins_sim : (g : ℕ) (b : Body) (values : ℕ → Value) (groups : ℕ → Option ℕ) (around : ℕ → Option ℕ)
        → w.stacks g ≡ []
        → IsOf (all_run p) b
        → FineCells s x (T p b.home) around
        → AreForeign s values groups
        → (T p b.home ≡ true → F None (with_stack Here (with_cells S values groups) g (new_frame S b around ∷ [])))
        → SimOf (F None) (with_stack w (with_cells s values groups) g (new_frame s b around ∷ []))
    begins_sim g b values groups around none of cells foreign starts_it = by (T p b.home) refl
      where
        out : AreForeign S values groups
        out = foreign_shown p closed distinct s x is kept.cells values groups foreign

        by : (t : Bool) → T p b.home ≡ t
            → SimOf (F None) (with_stack w (with_cells s values groups) g (new_frame s b around ∷ []))
        by t e =
            let y = with_new_cells s x is t values groups in
            let next = with_cells s values groups in
            let grown = cells_grown s x is t values groups in
            one_stack None next y g (new_frame s b around ∷ []) grown
            (cells_shown s x is t values groups (λ o v a i. out_of p closed distinct s x is kept.cells (groups v) a (out.foreign v) i)) (
              new_is_fine p s next y b around of (omega arith) (put_at-same x.is_shown s.cell_count t ∙ sym e)
                  (cells_grow p grown (T p b.home) around cells),
              λ off. refl,
              tt,
            )
            (run t e)
          where
            run : (t : Bool) → T p b.home ≡ t
                → F None (W (with_cells S values groups) (shown_stacks (put_at w.stacks g (new_frame s b around ∷ []))) sim.escaped sim.to_call)
            run true e =
                subst (λ z. F None (W (with_cells S values groups) z sim.escaped sim.to_call))
                (tops_put w.stacks g (new_frame s b around ∷ []) (new_frame s b around ∷ [])
                (sym (chosen_true (T p b.home) (new_frame s b around ∷ []) [] e)))
                (starts_it e)
            run false e =
                subst (λ z. F None (W (with_cells S values groups) z sim.escaped sim.to_call))
                (hide_put w.stacks g (new_frame s b around ∷ []) (ap (tops p) none)
                (chosen_false (T p b.home) (new_frame s b around ∷ []) [] e))
                (surr (makes_cells values groups out))

    environment_sim : (next : World) → Surrounds (all_run p) w next → SimOf (F None) next
    environment_sim next (starts g b values groups none of callable foreign) =
        begins_sim g b values groups nothing_around none of (λ v k e. absurd (none-some k e)) foreign
        (λ e. surr (starts g b values groups (ap (tops p) none) (of_run p closed distinct b of e) callable
        (foreign_shown p closed distinct s x is kept.cells values groups foreign)))
    environment_sim next (evaluates_literal g f b among escapes) =
        let r = fine_among s x (w.stacks g) f among (sim.stacks g) in
        let fine = literal_fine p closed distinct s x is kept.cells f r.0 b escapes.is_literal in
        by (T p f.body.home) refl r fine
      where
        c : Closure
        c = record { literal = b; newest = f.newest }

        by : (t : Bool) → T p f.body.home ≡ t
            → FineFrame p s x f × (T p f.body.home ≡ true → Contains (shown_stacks w.stacks g) f)
            → FineClosure p s x (T p f.body.home) c
            → SimOf (F None) (record w { escaped = c ∷ w.escaped })
        by true e r fine = record {
          x = x;
          escaped = c ∷ sim.escaped;
          to_call = sim.to_call;
          calls = sim.calls;
          run = surr (evaluates_literal g f b (r.1 e) escapes);
          is_shadow = is;
          stacks = sim.stacks;
          closures = λ d h. elim (contains_cases c d w.escaped h) [
            | inl same ↦ (
              subst (λ i. FineClosure p s x (T p i.literal.home) i) same
                  (subst (λ t. FineClosure p s x t c) (sym fine.its) fine),
              λ on. subst (λ i. Contains (c ∷ sim.escaped) i) same (contains_here c sim.escaped),
            )
            | inr more ↦
                let k = sim.closures d more in
                (k.0, λ on. contains_there c d sim.escaped (k.1 on))
          ];
        }
        by false e r fine = record {
          x = x;
          escaped = sim.escaped;
          to_call = sim.to_call;
          calls = sim.calls;
          run = by_some sim.run None begun;
          is_shadow = is;
          stacks = sim.stacks;
          closures = λ d h. elim (contains_cases c d w.escaped h) [
            | inl same ↦ (
              subst (λ i. FineClosure p s x (T p i.literal.home) i) same
                  (subst (λ t. FineClosure p s x t c) (sym fine.its) fine),
              λ on. absurd (not_both (T p d.literal.home) on
                  (ap (λ (i : Closure). T p i.literal.home) (sym same) ∙ (fine.its ∙ e))),
            )
            | inr more ↦ sim.closures d more
          ];
        }
    environment_sim next (starts_literal g c values groups free among foreign) =
        let k = sim.closures c among in
        begins_sim g c.literal values groups c.newest free.has_no_frame k.0.is_of k.0.newest foreign
        (λ e. surr (starts_literal g c values groups (free_shown g free) (k.1 e)
        (foreign_shown p closed distinct s x is kept.cells values groups foreign)))
    environment_sim next (makes_cells values groups foreign) =
        let out = foreign_shown p closed distinct s x is kept.cells values groups foreign in
        no_stack None (with_cells s values groups) (with_new_cells s x is false values groups)
        (cells_grown s x is false values groups)
        (cells_shown s x is false values groups (λ o v a i. out_of p closed distinct s x is kept.cells (groups v) a (out.foreign v) i))
        (surr (makes_cells values groups out))
    environment_sim next (makes_one parent earlier) =
        let k = new_contextual s x is parent in
        no_stack None (with_new s parent) x k.grown k.is (surr (makes_one parent (earlier_shown s x parent earlier)))
    environment_sim next (ends_one a l) =
        let k = ending_contextual s x is (Some a) in
        no_stack None (ending s (Some a)) x k.grown k.is (surr (ends_one a l))
    environment_sim next (calls_any a l) =
        let k = calling_contextual s x is (cancel_function a) in
        no_stack None (calling s (cancel_function a)) x k.grown k.is (surr (calls_any a l))
    environment_sim next (makes_outside context earlier) =
        let m = group_made s x is outside outside context (λ e. e) (earlier_below s context earlier) in
        no_stack None (with_group s outside context) (record x { maker = put_at x.maker s.group_count outside }) m.grown m.is
        (surr (makes_outside context (earlier_shown s x context earlier)))
    environment_sim next (joins_outside g a free made) =
        no_stack None (with_member s g (Some a)) x (member_grown s x is g (Some a)) (member_shown s x is g (Some a))
        (surr (joins_outside g a (free_shown g free) (is.out a made)))

    members_sim : (next : World) (changes : ChangesMembers (all_run p) w next) → SimOf (F (new_members changes)) next
    members_sim next (starts_stranger {f = f} {others = others} {rest = rest} {group = group} g h work free) =
        one_stack None (with_member s h (Some group)) x g (at_code f rest ∷ others) grown
        (member_shown s x is h (Some group)) (
          goes_on p (it g f others running) grown work.does_next.comes_to.goes_on,
          (its_stack g f others running).1,
          stack_grows p grown others (its_stack g f others running).2,
        )
        (by (T p f.body.home) refl)
      where
        running : w.stacks g ≡ f ∷ others
        running = work.is_running

        grown : Grown s x (with_member s h (Some group)) x
        grown = member_grown s x is h (Some group)

        by : (t : Bool) → T p f.body.home ≡ t
            → F None (W (shadow_store (with_member s h (Some group)) x) (shown_stacks (put_at w.stacks g (at_code f rest ∷ others))) sim.escaped sim.to_call)
        by true e =
            subst (λ z. F None (W (shadow_store (with_member s h (Some group)) x) z sim.escaped sim.to_call))
            (tops_put w.stacks g (at_code f rest ∷ others) (at_code f rest ∷ tops p others) (sym (code_on g f others running rest e)))
            (by_members (starts_stranger g h (work_shown g f others running rest None group e work) (free_shown h free)))
        by false e =
            subst (λ z. F None (W (shadow_store (with_member s h (Some group)) x) z sim.escaped sim.to_call))
            (hide_put w.stacks g (at_code f rest ∷ others) (running_hidden g f others running e) (code_off g f others running rest e))
            (surr (joins_outside h group (free_shown h free) (work_out g f others running rest None group e work)))
    members_sim next (starts_outside {f = f} {others = others} {passing = passing} {y = y} {group = group} g h running call lent i free) =
        no_stack None (with_member s h (Some group)) x (member_grown s x is h (Some group)) (member_shown s x is h (Some group))
        (by (T p f.body.home) refl)
      where
        by : (t : Bool) → T p f.body.home ≡ t
            → F None (W (shadow_store (with_member s h (Some group)) x) (shown_stacks w.stacks) sim.escaped sim.to_call)
        by true e =
            by_members (starts_outside g h (running_shown g f others running e)
            record { comes_to_it = call.comes_to_it; has_no_body = no_body p closed distinct f.body passing.callee call.has_no_body }
            lent i (free_shown h free))
        by false e =
            surr (joins_outside h group (free_shown h free)
            ((its_pass g f others running passing call.comes_to_it).lent e y group lent i))
    members_sim next (starts_beside {group = group} beside h member none free) =
        no_stack None (with_member s h (Some group)) x (member_grown s x is h (Some group)) (member_shown s x is h (Some group))
        (by_members (starts_beside beside h member (ap (tops p) none) (free_shown h free)))
    members_sim next (leaves_group g member none) =
        no_stack None (with_member s g None) x (member_grown s x is g None) (member_shown s x is g None)
        (by_members (leaves_group g member (ap (tops p) none)))
    members_sim next (starts_member {f = f} {others = others} {rest = rest} {at = at} {group = group} g h b values groups work free is_in is_at foreign) =
        record {
          x = y;
          escaped = sim.escaped;
          to_call = sim.to_call;
          calls = sim.calls;
          run = by (T p f.body.home) refl;
          is_shadow = shadow_after;
          stacks =
              λ i. at_cell (FineStack p after y) (put_at w.stacks g (at_code f rest ∷ others)) h (new_frame s b f.newest ∷ []) i
              (λ same. (
                new_is_fine p s1 after y b f.newest literal.is_of (omega arith) (put_at-same x.is_shown s.cell_count (T p b.home))
                    (subst (λ t. FineCells after y t f.newest) (sym literal.its) (cells_grow p grown (T p f.body.home) f.newest frame.newest)),
                λ off. refl,
                tt,
              ))
              (λ ne. at_cell (FineStack p after y) w.stacks g (at_code f rest ∷ others) i
              (λ same. (
                goes_on p frame grown work.does_next.comes_to.goes_on,
                (its_stack g f others running).1,
                stack_grows p grown others (its_stack g f others running).2,
              ))
              (λ other_one. stack_grows p grown (w.stacks i) (sim.stacks i)));
          closures = closures_grow after y grown;
        }
      where
        running : w.stacks g ≡ f ∷ others
        running = work.is_running

        frame : FineFrame p s x f
        frame = it g f others running

        literal : FineClosure p s x (T p f.body.home) record { literal = b; newest = f.newest }
        literal = literal_fine p closed distinct s x is kept.cells f frame b is_in

        s1 : Store
        s1 = with_member s h (Some group)

        is1 : IsShadow s1 x
        is1 = member_shown s x is h (Some group)

        after : Store
        after = with_cells s1 values groups

        y : Shadow
        y = with_new_cells s1 x is1 (T p b.home) values groups

        grown : Grown s x after y
        grown = grown_then (member_grown s x is h (Some group)) (cells_grown s1 x is1 (T p b.home) values groups)

        out : AreForeign S values groups
        out = foreign_shown p closed distinct s x is kept.cells values groups foreign

        shadow_after : IsShadow after y
        shadow_after = cells_shown s1 x is1 (T p b.home) values groups
            (λ o v a i. out_of p closed distinct s x is kept.cells (groups v) a (out.foreign v) i)

        first : List Frame
        first = at_code f rest ∷ others

        out_there : AreForeign (shadow_store s1 x) values groups
        out_there =
            foreign_shown p closed distinct s1 x is1 (λ k v. by_value (s.cells k v) (kept.cells k v)) values groups
            record { any = λ v. by_value (values v) (foreign.any v); foreign = groups_there }
          where
            by_value : (z : Value) → IsAny s z → IsAny s1 z
            by_value nothing any_nothing = any_nothing
            by_value (cancel_function a) (any_function l) = any_function l

            groups_there : (v : ℕ) → IsOutside s1 (groups v)
            groups_there v = by_group (groups v) (foreign.foreign v)
              where
                by_group : (o : Option ℕ) → IsOutside s o → IsOutside s1 o
                by_group None outside_none = outside_none
                by_group (Some a) (outside_group e) = outside_group e

        by : (t : Bool) → T p f.body.home ≡ t
            → F (Some (h, started_with s b groups f.newest)) (W (shadow_store after y) (shown_stacks (put_at (put_at w.stacks g first) h (new_frame s b f.newest ∷ []))) sim.escaped sim.to_call)
        by true e =
            subst (λ z. F (Some (h, started_with s b groups f.newest)) (W (shadow_store after y) z sim.escaped sim.to_call))
            (ap (λ z. put_at z h (new_frame s b f.newest ∷ []))
            (tops_put w.stacks g first (at_code f rest ∷ tops p others) (sym (code_on g f others running rest e)))
            ∙ tops_put (put_at w.stacks g first) h (new_frame s b f.newest ∷ []) (new_frame s b f.newest ∷ [])
            (sym (chosen_true (T p b.home) (new_frame s b f.newest ∷ []) [] (literal.its ∙ e))))
            (subst (λ z. F (Some (h, z)) (with_stack (with_stack Here (with_member S h (Some group)) g (at_code f rest ∷ tops p others))
            (with_cells (with_member S h (Some group)) values groups) h (new_frame s b f.newest ∷ [])))
            (shown_groups g f others running e b groups)
            (by_members (starts_member g h b values groups (work_shown g f others running rest (Some at) group e work)
            (free_shown h free) is_in is_at out)))
        by false e =
            let inner = hide_put w.stacks g first (running_hidden g f others running e) (code_off g f others running rest e) in
            subst (λ z. F (Some (h, started_with s b groups f.newest)) (W (shadow_store after y) z sim.escaped sim.to_call))
            (inner ∙ hide_put (put_at w.stacks g first) h (new_frame s b f.newest ∷ [])
            (ap (λ (z : ℕ → List Frame). z h) (sym inner) ∙ ap (tops p) free.has_no_frame)
            (chosen_false (T p b.home) (new_frame s b f.newest ∷ []) [] (literal.its ∙ e)))
            (by_some sim.run (Some (h, started_with s b groups f.newest)) (env (env begun (joins_outside h group (free_shown h free)
            (work_out g f others running rest (Some at) group e work))) (makes_cells values groups out_there)))

    -- A goroutine's running frame sets another one off

    by_go : {next : World} (does : StartsGoroutine p Here next) → Followed p Here sim.run (new_goings does) next
    by_go does = goings_more sim.run does

    sets_shown : (g : ℕ) (f : Frame) (others : List Frame) {work : Work} {rest : Code Event} → T p f.body.home ≡ true
        → SetsOff w g f others work rest
        → SetsOff Here g f (tops p others) work rest
    sets_shown g f others e sets =
        record { is_running = running_shown g f others sets.is_running e; does_next = sets.does_next }

    -- only what is to be called gets more
    past_sim : (g : ℕ) (f : Frame) (others : List Frame) {work : Work} {rest : Code Event} (calls whole : List ℕ)
        → SetsOff w g f others work rest
        → ((a : ℕ) → Contains sim.to_call a → Contains whole a)
        → (T p f.body.home ≡ true → (a : ℕ) → Contains calls a → Contains whole a)
        → (T p f.body.home ≡ true → F None (record (past_go Here g f (tops p others) rest) { to_call = calls }))
        → SimOf (F None) (record (past_go w g f others rest) { to_call = whole })
    past_sim g f others {work = work} {rest = rest} calls whole sets still more does = by (T p f.body.home) refl
      where
        running : w.stacks g ≡ f ∷ others
        running = sets.is_running

        by : (t : Bool) → T p f.body.home ≡ t → SimOf (F None) (record (past_go w g f others rest) { to_call = whole })
        by t e = record {
          x = x;
          escaped = sim.escaped;
          to_call = if t then calls else sim.to_call;
          calls = has t e;
          run = run t e;
          is_shadow = is;
          stacks = λ i. at_cell (FineStack p s x) w.stacks g (at_code f rest ∷ others) i
              (λ same. (
                goes_on p (it g f others running) (no_context s x is).grown sets.does_next.comes_to.goes_on,
                (its_stack g f others running).1,
                (its_stack g f others running).2,
              ))
              (λ ne. sim.stacks i);
          closures = sim.closures;
        }
          where
            has : (t : Bool) → T p f.body.home ≡ t → (a : ℕ) → Contains (if t then calls else sim.to_call) a
                → Contains whole a
            has true e = more e
            has false e = still

            run : (t : Bool) → T p f.body.home ≡ t
                → F None (W S (shown_stacks (put_at w.stacks g (at_code f rest ∷ others))) sim.escaped (if t then calls else sim.to_call))
            run true e =
                subst (λ z. F None (W S z sim.escaped calls))
                (tops_put w.stacks g (at_code f rest ∷ others) (at_code f rest ∷ tops p others) (sym (code_on g f others running rest e)))
                (does e)
            run false e =
                subst (λ z. F None (W S z sim.escaped sim.to_call))
                (hide_put w.stacks g (at_code f rest ∷ others) (running_hidden g f others running e) (code_off g f others running rest e))
                (by_some sim.run None begun)

    -- a goroutine begins with this body, or it is not shown
    off_sim : (g h : ℕ) (f : Frame) (others : List Frame) {work : Work} {rest : Code Event} (b : Body)
        (values : ℕ → Value) (groups : ℕ → Option ℕ) (around : ℕ → Option ℕ)
        → SetsOff w g f others work rest
        → IsFree w h
        → IsOf (all_run p) b
        → FineCells s x (T p b.home) around
        → AreForeign s values groups
        → (T p f.body.home ≡ true
        → (T p b.home ≡ true)
        × F (Some (h, started_with s b groups around)) (with_stack (past_go Here g f (tops p others) rest) (with_cells S values groups) h (new_frame S b around ∷ [])))
        → (T p f.body.home ≡ false
        → T p b.home ≡ true
        → F (Some (h, started_with s b groups around)) (with_stack Here (with_cells S values groups) h (new_frame S b around ∷ [])))
        → SimOf (F (Some (h, started_with s b groups around))) (with_stack (past_go w g f others rest) (with_cells s values groups) h (new_frame s b around ∷ []))
    off_sim g h f others {work = work} {rest = rest} b values groups around sets free of cells foreign shown outside_it =
        by (T p b.home) refl
      where
        running : w.stacks g ≡ f ∷ others
        running = sets.is_running

        first : List Frame
        first = at_code f rest ∷ others

        new : List Frame
        new = new_frame s b around ∷ []

        out : AreForeign S values groups
        out = foreign_shown p closed distinct s x is kept.cells values groups foreign

        after : Store
        after = with_cells s values groups

        by : (t : Bool) → T p b.home ≡ t
            → SimOf (F (Some (h, started_with s b groups around))) (with_stack (past_go w g f others rest) after h new)
        by t same =
            let y = with_new_cells s x is t values groups in
            let grown = cells_grown s x is t values groups in
            record {
              x = y;
              escaped = sim.escaped;
              to_call = sim.to_call;
              calls = sim.calls;
              run = run t same (T p f.body.home) refl;
              is_shadow =
                  cells_shown s x is t values groups (λ o v a i. out_of p closed distinct s x is kept.cells (groups v) a (out.foreign v) i);
              stacks = λ i. at_cell (FineStack p after y) (put_at w.stacks g first) h new i
                  (λ e. (
                    new_is_fine p s after y b around of (omega arith) (put_at-same x.is_shown s.cell_count t ∙ sym same)
                        (cells_grow p grown (T p b.home) around cells),
                    λ off. refl,
                    tt,
                  ))
                  (λ ne. at_cell (FineStack p after y) w.stacks g first i
                  (λ e. (
                    goes_on p (it g f others running) grown sets.does_next.comes_to.goes_on,
                    (its_stack g f others running).1,
                    stack_grows p grown others (its_stack g f others running).2,
                  ))
                  (λ other_one. stack_grows p grown (w.stacks i) (sim.stacks i)));
              closures = closures_grow after y grown;
            }
          where
            Goal : Type 0
            Goal =
                F (Some (h, started_with s b groups around)) (W (with_cells S values groups) (shown_stacks (put_at (put_at w.stacks g first) h new)) sim.escaped sim.to_call)

            -- the frame that goes on is hidden
            inner : T p f.body.home ≡ false → shown_stacks w.stacks ≡ shown_stacks (put_at w.stacks g first)
            inner e =
                hide_put w.stacks g first (running_hidden g f others running e) (code_off g f others running rest e)

            begins : T p b.home ≡ true
                → put_at (shown_stacks (put_at w.stacks g first)) h new ≡ shown_stacks (put_at (put_at w.stacks g first) h new)
            begins i = tops_put (put_at w.stacks g first) h new new (sym (chosen_true (T p b.home) new [] i))

            run : (t : Bool) → T p b.home ≡ t → (u : Bool) → T p f.body.home ≡ u → Goal
            run t i true e =
                let r = shown e in
                subst (λ z. F (Some (h, started_with s b groups around)) (W (with_cells S values groups) z sim.escaped sim.to_call))
                (ap (λ z. put_at z h new) (tops_put w.stacks g first (at_code f rest ∷ tops p others) (sym (code_on g f others running rest e)))
                ∙ begins r.0)
                r.1
            run true i false e =
                subst (λ z. F (Some (h, started_with s b groups around)) (W (with_cells S values groups) z sim.escaped sim.to_call))
                (ap (λ z. put_at z h new) (inner e) ∙ begins i)
                (outside_it e i)
            run false i false e =
                subst (λ z. F (Some (h, started_with s b groups around)) (W (with_cells S values groups) z sim.escaped sim.to_call))
                (inner e ∙ hide_put (put_at w.stacks g first) h new
                (ap (λ (z : ℕ → List Frame). z h) (sym (inner e)) ∙ ap (tops p) free.has_no_frame)
                (chosen_false (T p b.home) new [] i))
                (by_some sim.run (Some (h, started_with s b groups around)) (env begun (makes_cells values groups out)))

    same_held : (g : ℕ) (f : Frame) (others : List Frame) → w.stacks g ≡ f ∷ others → T p f.body.home ≡ true → (v : ℕ)
        → held S f v ≡ held s f v
    same_held g f others running e v = held_same s x is (T p f.body.home) f.newest (it g f others running).newest e v

    same_given : (g : ℕ) (f : Frame) (others : List Frame) → w.stacks g ≡ f ∷ others → T p f.body.home ≡ true
        → (callee : Callee) (xs : List Sent)
        → (sending S f callee xs).given ≡ (sending s f callee xs).given
    same_given g f others running e callee xs =
        λ j. map (λ (y : Sent). record { position = y.position; value = same_held g f others running e y.number j }) xs

    goings_sim : (next : World) (going : StartsGoroutine (all_run p) w next) → SimOf (F (new_goings going)) next
    goings_sim next (starts_call {f = f} {others = others} {v = v} g sets) =
        past_sim g f others (to_call_too (held S f v) sim.to_call) (to_call_too (held s f v) w.to_call) sets
        (λ a h. to_call_more (held s f v) w.to_call a (sim.calls a h))
        (λ e a h. to_call_grows (held s f v) sim.to_call w.to_call sim.calls a
        (subst (λ z. Contains (to_call_too z sim.to_call) a) (same_held g f others sets.is_running e v) h))
        (λ e. by_go (starts_call g (sets_shown g f others e sets)))
    goings_sim next (starts_function {f = f} {others = others} {callee = callee} {xs = xs} g h b values groups sets free is_it fits) =
        off_sim g h f others b values groups nothing_around sets free is_it.is_of (λ v k e. absurd (none-some k e)) foreign
        (λ e. (
          run e,
          by_go (starts_function g h b values groups (sets_shown g f others e sets) (free_shown h free) record {
            is_of = of_run p closed distinct b is_it.is_of (run e);
            is_of_package = is_it.is_of_package;
            has_name = is_it.has_name;
          } (fits_shown e)),
        ))
        (λ e i. by_some sim.run (Some (h, started_with s b groups nothing_around)) (env begun (starts h b values groups (ap (tops p) free.has_no_frame)
        (of_run p closed distinct b is_it.is_of i) (named_is_outermost (all_run p) b is_it.is_of callee.name is_it.has_name)
        (foreign_shown p closed distinct s x is kept.cells values groups foreign))))
      where
        foreign : AreForeign s values groups
        foreign = record {
          any = fits.any;
          foreign = λ v. elim (fits.other_groups v) [
            | inl lent ↦ absurd (contains_nil lent.argument lent.is_lent)
            | inr out ↦ out
          ];
        }

        frame : FineFrame p s x f
        frame = it g f others sets.is_running

        run : T p f.body.home ≡ true → T p b.home ≡ true
        run e =
            called_is_run p closed distinct f.body b callee frame.is_of e
            (handed_by p closed distinct s x is kept.cells f frame sets.does_next.comes_to callee goes) is_it

        fits_shown : T p f.body.home ≡ true → Fits S b (sending S f callee xs) values groups
        fits_shown e = record {
          same =
              λ v y c k i. fits.same v y c (subst (λ l. Contains l y) (same_given g f others sets.is_running e callee xs) k) i;
          any = λ v. any_shown s x (values v) (fits.any v);
          same_group = λ v y c k i. absurd (contains_nil y k);
          other_groups = λ v. inr (outside_shown s x is (groups v) (foreign.foreign v));
        }
    goings_sim next (starts_foreign {f = f} {others = others} {callee = callee} {xs = xs} g sets none) =
        past_sim g f others (declared_too p callee (sending S f callee xs).given sim.to_call)
        (declared_too (all_run p) callee (sending s f callee xs).given w.to_call) sets
        (λ a h. declared_more (all_run p) callee (sending s f callee xs).given w.to_call a (sim.calls a h))
        (λ e a h. subst (λ l. Contains l a) (declared_in_all (sending s f callee xs).given w.to_call)
        (declared_grows p callee (sending s f callee xs).given sim.to_call w.to_call sim.calls a
        (subst (λ l. Contains (declared_too p callee l sim.to_call) a) (same_given g f others sets.is_running e callee xs) h)))
        (λ e. by_go (starts_foreign g (sets_shown g f others e sets) (no_body p closed distinct f.body callee none)))
      where
        declared_in_all : (ys : List Given) (calls : List ℕ)
            → declared_too p callee ys calls ≡ declared_too (all_run p) callee ys calls
        declared_in_all [] calls = refl
        declared_in_all (y ∷ ys) calls =
            ap (λ more. if is_declared_to_call p callee y.position then to_call_too y.value more else more)
            (declared_in_all ys calls)
    goings_sim next (starts_its_literal {f = f} {others = others} {rest = rest} g h b values groups sets free is_in is_at foreign) =
        off_sim g h f others b values groups f.newest sets free literal.is_of
        (subst (λ t. FineCells s x t f.newest) (sym literal.its) frame.newest) foreign
        (λ e. (
          literal.its ∙ e,
          subst (λ z. F (Some (h, z)) (with_stack (past_go Here g f (tops p others) rest) (with_cells S values groups) h (new_frame S b f.newest ∷ [])))
              (shown_groups g f others sets.is_running e b groups)
              (by_go (starts_its_literal g h b values groups (sets_shown g f others e sets)
              (free_shown h free) is_in is_at (foreign_shown p closed distinct s x is kept.cells values groups foreign))),
        ))
        (λ e i. absurd (not_both (T p b.home) i (literal.its ∙ e)))
      where
        frame : FineFrame p s x f
        frame = it g f others sets.is_running

        literal : FineClosure p s x (T p f.body.home) record { literal = b; newest = f.newest }
        literal = literal_fine p closed distinct s x is kept.cells f frame b is_in

    pub step_sim : (next : World) (step : Step (all_run p) w next) → SimOf (F (new_in step)) next
    step_sim next (of_goroutine {f = f} {others = others} {after = after} {frames = frames} g running acts) =
        goroutine_sim g f others after frames running acts
    step_sim next (of_members changes) = members_sim next changes
    step_sim next (of_go going) = goings_sim next going
    step_sim next (of_environment surrounds) = environment_sim next surrounds

  -- Runs

  abbrev no_shadow : Shadow
  no_shadow = record { maker = λ a. nobody; cells = λ k v. nothing; holds = λ k v. None; is_shown = λ k. false }

  pub nobody-outside : nobody ≡ outside → ⊥
  nobody-outside e = cc

  -- the shown run, as it went on
  abbrev pub gone_on : {w : World} {run : Run p w} {New : Option (ℕ × Started)} {next : World}
      → SimOf (Followed p w run New) next → Sim next
  gone_on r = record {
    x = r.x;
    escaped = r.escaped;
    to_call = r.to_call;
    calls = r.calls;
    run = r.run.more;
    is_shadow = r.is_shadow;
    stacks = r.stacks;
    closures = r.closures;
  }

  abbrev pub no_sim : Sim empty_world
  no_sim = record {
    x = no_shadow;
    escaped = [];
    to_call = [];
    calls = λ a h. absurd (contains_nil a h);
    run = no_step;
    is_shadow = record {
      out = λ a e. e;
      fresh = λ a l e. nobody-outside e;
      same_cells = λ k v e. refl;
      same_holds = λ k v e. refl;
      foreign = λ k v a e h. absurd (none-some a h);
      unused_cells = λ k v l. refl;
      unused = λ k v l. refl;
      unused_holds = λ k v l. refl;
      contexts = λ a b e. absurd (none-some b e);
    };
    stacks = λ g. tt;
    closures = λ c h. absurd (contains_nil c h);
  }

  pub run_sim : AreAmong p → HaveDistinctPaths p.packages → (w : World) → Run (all_run p) w → Sim w
  run_sim closed distinct w no_step = no_sim
  run_sim closed distinct w (step_more {w = before} run step) =
      gone_on (step_sim closed distinct before (run_kept (all_run p) before run) (run_sim closed distinct before run) w step)

  -- Returns

  module _ (s : Store) (x : Shadow) where
    comes_there : (a b : ℕ) → ComesFrom s a b → ComesFrom (shadow_store s x) a b
    comes_there a b itself = itself
    comes_there a b (made_from {parent = parent} e h) = made_from e (comes_there a parent h)

    comes_back : (a b : ℕ) → ComesFrom (shadow_store s x) a b → ComesFrom s a b
    comes_back a b itself = itself
    comes_back a b (made_from {parent = parent} e h) = made_from e (comes_back a parent h)

    pub done_back : (b : ℕ) → IsDone (shadow_store s x) b → IsDone s b
    done_back b d =
        record { context = d.context; was_ended = d.was_ended; comes_from = comes_back d.context b d.comes_from }

  -- where each return of a frame that is shown is quiet, where only some packages run, it is quiet in the whole program
  pub quiet_in_all : AreAmong p → HaveDistinctPaths p.packages
      → ((w : World) (f : Frame) → Run p w → IsReturning w f → IsQuiet w f)
      → (w : World) (f : Frame)
      → Run (all_run p) w
      → IsReturning w f
      → T p f.body.home ≡ true
      → IsQuiet w f
  quiet_in_all closed distinct quiet w f run back e =
      let sim = run_sim closed distinct w run in
      let there : World = W (shadow_store w.store sim.x) (shown_stacks w.stacks) sim.escaped sim.to_call in
      let q = quiet there f sim.run record {
        goroutine = back.goroutine;
        others = tops p back.others;
        is_running = ap (tops p) back.is_running ∙ chosen_true (T p f.body.home) (f ∷ tops p back.others) [] e;
        is_at_end = back.is_at_end;
      } in
      record {
        called = q.called;
        done = λ a b owes from. done_back w.store sim.x b (q.done a b owes (comes_there w.store sim.x a b from));
        ended = q.ended;
        groups_done = λ group a made is. done_back w.store sim.x a (q.groups_done group a made is);
      }
