-- What is seen to where only some packages run is seen to in the whole program: a goroutine that is started there with a
-- shown body runs it as its lowest frame here, and goes on here as there.
use Rattle.std.proofs.Common.{◌≡◌, ℕ, inl, inr, Bool, true, List, [], ◌∷◌, ◌++◌, length, Contains, refl, sym, ap, ◌∙◌, subst}
use Rattle.std.proofs.lemmas.Bool.{false≢true, cases_Bool, cases_eq}
use Rattle.meaning.specs.Code.{Code}
use Rattle.meaning.specs.Uses.{Event}
use Rattle.meaning.proofs.Membership.{contains_here, contains_there, contains_nil}
use Rattle.meaning_reports.specs.Loaded.{HaveDistinctPaths}
use Rattle.meaning_runs.specs.Bodies.{Program}
use Rattle.meaning_runs.specs.Promise.{all_run}
use Rattle.meaning_runs.specs.World.{Store, put_at, Frame, World, nothing_around}
use Rattle.meaning_runs.specs.Steps.{at_code, IsAtEnd, Acts, ChangesMembers, starts_member, starts_stranger, starts_outside, starts_beside, leaves_group, StartsGoroutine, starts_call, starts_function, starts_foreign, starts_its_literal, Surrounds, starts, evaluates_literal, starts_literal, makes_cells, makes_one, ends_one, calls_any, makes_outside, joins_outside, Step, of_goroutine, of_members, of_go, of_environment}
use Rattle.meaning_runs.specs.Runs.{Run, no_step, step_more, IsReturning, started_as_member, started_by_go, started_after, was_started, Started, started_with, and_step, started_in, IsAtRest, IsSettled, KeepsRunning, not_yet, runs_on, IsSeenTo, is_so, by_goroutine, IsCalledFor, was_called, is_to_call}
use Rattle.meaning_runs.proofs.BegunRoots.{step_started}
use Rattle.meaning_runs.proofs.CallSteps.{run_kept}
use Rattle.meaning_runs.proofs.Contexts.{put_at-same, put_at-other}
use Rattle.meaning_runs.proofs.Followed.{IsSome, cons_is_some, Followed, IsNew, IsBegun, new_members, new_goings, new_in, keeps_then}
use Rattle.meaning_runs.proofs.Remembered.{Past, no_origins, unknown_past, pasts_after}
use Rattle.meaning_runs.proofs.Shown.{AreAmong, Shadow, shadow_store, T, tops, FineStack}
use Rattle.meaning_runs.proofs.ShownRuns.{shown_stacks, SimOf, Sim, no_sim, gone_on, step_sim, done_back}
use Rattle.meaning_runs.proofs.ShownSteps.{W, chosen_true, chosen_false}
use Rattle.meaning_runs.proofs.Starts.{LastStays, acts_last}

module _ (p : Program) where
  -- Lowest frames

  abbrev LowestShown : List Frame → Type 0
  LowestShown [] = ⊥
  LowestShown (f ∷ []) = T p f.body.home ≡ true
  LowestShown (f ∷ e ∷ fs) = LowestShown (e ∷ fs)

  lowest_is_some : (fs : List Frame) → LowestShown fs → IsSome fs
  lowest_is_some [] low e = low
  lowest_is_some (f ∷ fs) low e = cons_is_some f fs e

  some_below : (fs : List Frame) → IsSome (tops p fs) → IsSome fs
  some_below fs some e = some (ap (tops p) e)

  -- so are all above it
  all_above : (s : Store) (x : Shadow) (fs : List Frame) → FineStack p s x fs → LowestShown fs → tops p fs ≡ fs
  all_above s x [] fine low = absurd low
  all_above s x (f ∷ []) fine low = chosen_true (T p f.body.home) (f ∷ []) [] low
  all_above s x (f ∷ e ∷ fs) fine low =
      let rest = all_above s x (e ∷ fs) fine.2 low in
      elim (cases_Bool (T p f.body.home)) [
        | inl on ↦ chosen_true (T p f.body.home) (f ∷ tops p (e ∷ fs)) [] on ∙ ap (λ l. f ∷ l) rest
        | inr off ↦ absurd (cons_is_some e fs (sym rest ∙ fine.1 off))
      ]

  one_shown : (f : Frame) → IsSome (tops p (f ∷ [])) → T p f.body.home ≡ true
  one_shown f some = elim (cases_Bool (T p f.body.home)) [
    | inl on ↦ on
    | inr off ↦ absurd (some (chosen_false (T p f.body.home) (f ∷ []) [] off))
  ]

  at_shown : (f : Frame) (rest : Code Event) (others : List Frame) → LowestShown (f ∷ others)
      → LowestShown (at_code f rest ∷ others)
  at_shown f rest [] low = low
  at_shown f rest (o ∷ os) low = low

  last_shown : (f : Frame) (q : Past) (frames : List Frame) (news : List Past) → LastStays f q frames news
      → IsSome frames
      → T p f.body.home ≡ true
      → LowestShown (frames ++ [])
  last_shown f q [] news stays some on = absurd (some refl)
  last_shown f q (e ∷ fs) [] stays some on = absurd stays
  last_shown f q (e ∷ []) (r ∷ []) stays some on = ap (λ b. T p b.home) stays.0 ∙ on
  last_shown f q (e ∷ []) (r ∷ s ∷ rs) stays some on = absurd stays
  last_shown f q (e ∷ d ∷ fs) (r ∷ rs) stays some on = last_shown f q (d ∷ fs) rs stays (λ i. cons_is_some d fs i) on

  over_shown : (frames : List Frame) (o : Frame) (os : List Frame) → LowestShown (o ∷ os)
      → LowestShown (frames ++ o ∷ os)
  over_shown [] o os low = low
  over_shown (f ∷ []) o os low = low
  over_shown (f ∷ e ∷ fs) o os low = over_shown (e ∷ fs) o os low

  put_shown : (st : ℕ → List Frame) (h : ℕ) (fs : List Frame) (g : ℕ)
      → (LowestShown (st h) → IsSome fs → LowestShown fs)
      → LowestShown (st g)
      → IsSome (put_at st h fs g)
      → LowestShown (put_at st h fs g)
  put_shown st h fs g one low some = elim (cases_eq g h) [
    | inl same ↦
        let here = ap (put_at st h fs) same ∙ put_at-same st h fs in
        subst LowestShown (sym here) (one (subst (λ i. LowestShown (st i)) same low) (λ e. some (here ∙ e)))
    | inr ne ↦ subst LowestShown (sym (put_at-other st h fs g ne)) low
  ]

  -- one that had none begins
  free_shown : (w : World) (h g : ℕ) (fs : List Frame) (st : ℕ → List Frame) → w.stacks h ≡ []
      → LowestShown (w.stacks g)
      → LowestShown (st g)
      → LowestShown (put_at st h fs g)
  free_shown w h g fs st none before low = elim (cases_eq g h) [
    | inl same ↦ absurd (lowest_is_some (w.stacks g) before (ap w.stacks same ∙ none))
    | inr ne ↦ subst LowestShown (sym (put_at-other st h fs g ne)) low
  ]

  past_shown : (st : ℕ → List Frame) (g : ℕ) → LowestShown (st g)
      → (h : ℕ) (f : Frame) (others : List Frame) (rest : Code Event)
      → st h ≡ f ∷ others
      → LowestShown (put_at st h (at_code f rest ∷ others) g)
  past_shown st g low h f others rest running = elim (cases_eq g h) [
    | inl same ↦
        subst LowestShown (sym (ap (put_at st h (at_code f rest ∷ others)) same ∙ put_at-same st h (at_code f rest ∷ others)))
        (at_shown f rest others (subst LowestShown running (subst (λ i. LowestShown (st i)) same low)))
    | inr ne ↦ subst LowestShown (sym (put_at-other st h (at_code f rest ∷ others) g ne)) low
  ]

  -- each step keeps it, as long as there is one
  module _ (q : Program) (w : World) (g : ℕ) (low : LowestShown (w.stacks g)) where
    acts_shown : (h : ℕ) (f : Frame) (others frames : List Frame) (after : Store) → w.stacks h ≡ f ∷ others
        → Acts q w.store (h, length others) f after frames
        → IsSome (put_at w.stacks h (frames ++ others) g)
        → LowestShown (put_at w.stacks h (frames ++ others) g)
    acts_shown h f others frames after running acts some =
        put_shown w.stacks h (frames ++ others) g
        (λ here there. by others (subst LowestShown running here) there) low some
      where
        by : (os : List Frame) → LowestShown (f ∷ os) → IsSome (frames ++ os) → LowestShown (frames ++ os)
        by [] here there =
            last_shown f unknown_past frames (pasts_after acts (no_origins 0) unknown_past) (acts_last acts (no_origins 0) unknown_past)
            (λ e. there (ap (λ l. l ++ []) e)) here
        by (o ∷ os) here there = over_shown frames o os here

    members_shown : (next : World) (changes : ChangesMembers q w next) → LowestShown (next.stacks g)
    members_shown next (starts_member {f = f} {others = others} {rest = rest} h k b values groups work free is_in is_at foreign) =
        free_shown w k g _ (put_at w.stacks h (at_code f rest ∷ others)) free.has_no_frame low
        (past_shown w.stacks g low h f others rest work.is_running)
    members_shown next (starts_stranger {f = f} {others = others} {rest = rest} h k work free) =
        past_shown w.stacks g low h f others rest work.is_running
    members_shown next (starts_outside h k running call lent is free) = low
    members_shown next (starts_beside h k member none free) = low
    members_shown next (leaves_group h member none) = low

    goings_shown : (next : World) (going : StartsGoroutine q w next) → LowestShown (next.stacks g)
    goings_shown next (starts_call {f = f} {others = others} {rest = rest} h sets) =
        past_shown w.stacks g low h f others rest sets.is_running
    goings_shown next (starts_function {f = f} {others = others} {rest = rest} h k b values groups sets free is fits) =
        free_shown w k g _ (put_at w.stacks h (at_code f rest ∷ others)) free.has_no_frame low
        (past_shown w.stacks g low h f others rest sets.is_running)
    goings_shown next (starts_foreign {f = f} {others = others} {rest = rest} h sets no_body) =
        past_shown w.stacks g low h f others rest sets.is_running
    goings_shown next (starts_its_literal {f = f} {others = others} {rest = rest} h k b values groups sets free is_in is_at foreign) =
        free_shown w k g _ (put_at w.stacks h (at_code f rest ∷ others)) free.has_no_frame low
        (past_shown w.stacks g low h f others rest sets.is_running)

    environment_shown : (next : World) (surrounds : Surrounds q w next) → LowestShown (next.stacks g)
    environment_shown next (starts h b values groups free of outermost foreign) =
        free_shown w h g _ w.stacks free low low
    environment_shown next (evaluates_literal h f b among escapes) = low
    environment_shown next (starts_literal h c values groups free among foreign) =
        free_shown w h g _ w.stacks free.has_no_frame low low
    environment_shown next (makes_cells values groups foreign) = low
    environment_shown next (makes_one parent earlier) = low
    environment_shown next (ends_one a within) = low
    environment_shown next (calls_any a within) = low
    environment_shown next (makes_outside context earlier) = low
    environment_shown next (joins_outside h a free made) = low

    step_shown : (next : World) (step : Step q w next) → IsSome (next.stacks g) → LowestShown (next.stacks g)
    step_shown next (of_goroutine {f = f} {others = others} {after = after} {frames = frames} h running acts) some =
        acts_shown h f others frames after running acts some
    step_shown next (of_members changes) some = members_shown next changes
    step_shown next (of_go going) some = goings_shown next going
    step_shown next (of_environment surrounds) some = environment_shown next surrounds

  -- What was started

  abbrev HereOf : (w : World) → Sim p w → World
  HereOf w sim = W (shadow_store w.store sim.x) (shown_stacks p w.stacks) sim.escaped sim.to_call

  -- what was started there, and has a frame, was started here, and is shown
  abbrev StartedToo : (w : World) (run : Run (all_run p) w) → Sim p w → Type 0
  StartedToo w run sim = (g : ℕ) → was_started sim.run g ≡ true → IsSome (tops p (w.stacks g))
      → LowestShown (w.stacks g) × (was_started run g ≡ true)

  -- a goroutine that begins
  begins_shown : (st : ℕ → List Frame) (was : ℕ → Bool) (h g : ℕ) (f : Frame) → g ≡ h
      → IsSome (tops p (put_at st h (f ∷ []) g))
      → LowestShown (put_at st h (f ∷ []) g) × (put_at was h true g ≡ true)
  begins_shown st was h g f same some =
      let here = ap (put_at st h (f ∷ [])) same ∙ put_at-same st h (f ∷ []) in (
        subst LowestShown (sym here) (one_shown f (subst (λ l. IsSome (tops p l)) here some)),
        ap (put_at was h true) same ∙ put_at-same was h true,
      )

  module _ (w : World) (was : ℕ → Bool) (g : ℕ) where
    new_in_members : (next : World) (changes : ChangesMembers (all_run p) w next) → IsNew (new_members changes) g
        → IsSome (tops p (next.stacks g))
        → LowestShown (next.stacks g) × (started_as_member changes was g ≡ true)
    new_in_members next (starts_member {f = f} {others = others} {rest = rest} h k b values groups work free is_in is_at foreign) same some =
        begins_shown (put_at w.stacks h (at_code f rest ∷ others)) was k g _ same some
    new_in_members next (starts_stranger h k work free) same some = absurd same
    new_in_members next (starts_outside h k running call lent is free) same some = absurd same
    new_in_members next (starts_beside h k member none free) same some = absurd same
    new_in_members next (leaves_group h member none) same some = absurd same

    new_in_goings : (next : World) (going : StartsGoroutine (all_run p) w next) → IsNew (new_goings going) g
        → IsSome (tops p (next.stacks g))
        → LowestShown (next.stacks g) × (started_by_go going was g ≡ true)
    new_in_goings next (starts_call h sets) same some = absurd same
    new_in_goings next (starts_function {f = f} {others = others} {rest = rest} h k b values groups sets free is fits) same some =
        begins_shown (put_at w.stacks h (at_code f rest ∷ others)) was k g _ same some
    new_in_goings next (starts_foreign h sets no_body) same some = absurd same
    new_in_goings next (starts_its_literal {f = f} {others = others} {rest = rest} h k b values groups sets free is_in is_at foreign) same some =
        begins_shown (put_at w.stacks h (at_code f rest ∷ others)) was k g _ same some

    new_in_step : (next : World) (step : Step (all_run p) w next) → IsNew (new_in step) g
        → IsSome (tops p (next.stacks g))
        → LowestShown (next.stacks g) × (started_after step was g ≡ true)
    new_in_step next (of_goroutine h running acts) same some = absurd same
    new_in_step next (of_members changes) same some = new_in_members next changes same some
    new_in_step next (of_go going) same some = new_in_goings next going same some
    new_in_step next (of_environment surrounds) same some = absurd same

  -- the shown world and its run
  data IsThat (w : World) (sim : Sim p w) : (v : World) → Run p v → Type 0 where
    that : IsThat w sim (HereOf w sim) sim.run

  -- and so was what it was started with
  abbrev BegunToo : (w : World) (run : Run (all_run p) w) → Sim p w → Type 0
  BegunToo w run sim = (k : Started) → Contains (started_in sim.run) k → Contains (started_in run) k

  module _ (w : World) (l : List Started) (k : Started) where
    still_begun : (next : World) (step : Step (all_run p) w next) → Contains l k → Contains (and_step step l) k
    still_begun next (of_goroutine g running acts) h = h
    still_begun next (of_members (starts_member {f = f} g j b values groups work free is_in is_at foreign)) h =
        contains_there (started_with w.store b groups f.newest) k l h
    still_begun next (of_members (starts_stranger g j work free)) h = h
    still_begun next (of_members (starts_outside g j running call lent is free)) h = h
    still_begun next (of_members (starts_beside g j member none free)) h = h
    still_begun next (of_members (leaves_group g member none)) h = h
    still_begun next (of_go (starts_call g sets)) h = h
    still_begun next (of_go (starts_function g j b values groups sets free is fits)) h =
        contains_there (started_with w.store b groups nothing_around) k l h
    still_begun next (of_go (starts_foreign g sets no_body)) h = h
    still_begun next (of_go (starts_its_literal {f = f} g j b values groups sets free is_in is_at foreign)) h =
        contains_there (started_with w.store b groups f.newest) k l h
    still_begun next (of_environment surrounds) h = h

    new_begun : (next : World) (step : Step (all_run p) w next) → IsBegun (new_in step) k → Contains (and_step step l) k
    new_begun next (of_goroutine g running acts) same = absurd same
    new_begun next (of_members (starts_member {f = f} g j b values groups work free is_in is_at foreign)) same =
        let its = started_with w.store b groups f.newest in
        subst (Contains (its ∷ l)) same (contains_here its l)
    new_begun next (of_members (starts_stranger g j work free)) same = absurd same
    new_begun next (of_members (starts_outside g j running call lent is free)) same = absurd same
    new_begun next (of_members (starts_beside g j member none free)) same = absurd same
    new_begun next (of_members (leaves_group g member none)) same = absurd same
    new_begun next (of_go (starts_call g sets)) same = absurd same
    new_begun next (of_go (starts_function g j b values groups sets free is fits)) same =
        let its = started_with w.store b groups nothing_around in
        subst (Contains (its ∷ l)) same (contains_here its l)
    new_begun next (of_go (starts_foreign g sets no_body)) same = absurd same
    new_begun next (of_go (starts_its_literal {f = f} g j b values groups sets free is_in is_at foreign)) same =
        let its = started_with w.store b groups f.newest in
        subst (Contains (its ∷ l)) same (contains_here its l)
    new_begun next (of_environment surrounds) same = absurd same

  module _ (closed : AreAmong p) (distinct : HaveDistinctPaths p.packages) where
    -- one more step
    module _ (w : World) (run : Run (all_run p) w) (sim : Sim p w) (started : StartedToo w run sim) (next : World)
        (step : Step (all_run p) w next) where
      abbrev stepped : SimOf p (Followed p (HereOf w sim) sim.run (new_in step)) next
      stepped = step_sim p closed distinct w (run_kept (all_run p) w run) sim next step

      started_next : StartedToo next (step_more run step) (gone_on p stepped)
      started_next g e some = elim (stepped.run.was g e some) [
        | inl old ↦
            let k = started g old.0 old.1 in (
              step_shown (all_run p) w g k.0 next step (some_below (next.stacks g) some),
              step_started (was_started run) g (lowest_is_some (w.stacks g) k.0) k.1 step,
            )
        | inr new ↦ new_in_step w (was_started run) g next step new some
      ]

      begun_next : BegunToo w run sim → BegunToo next (step_more run step) (gone_on p stepped)
      begun_next begun k c = elim (stepped.run.starts k c) [
        | inl old ↦ still_begun w (started_in run) k next step (begun k old)
        | inr new ↦ new_begun w (started_in run) k next step new
      ]

    sims : (w : World) (run : Run (all_run p) w) → (sim : Sim p w) × StartedToo w run sim × BegunToo w run sim
    sims w no_step = (no_sim p, λ g e some. absurd (false≢true e), λ k c. absurd (contains_nil k c))
    sims w (step_more {w = before} run step) =
        let k = sims before run in (
          gone_on p (stepped before run k.0 k.1 w step),
          started_next before run k.0 k.1 w step,
          begun_next before run k.0 k.1 w step k.2,
        )

    -- A goroutine goes on here as there

    record GoesOnThere (w : World) (run : Run (all_run p) w) (sim : Sim p w) (g : ℕ) (later : World) (more : Run (all_run p) later)
        : Type 0 where
      there : Sim p later
      started : StartedToo later more there
      keeps : KeepsRunning p g (HereOf w sim) sim.run (HereOf later there) there.run
      is_shown : LowestShown (later.stacks g)

    is_some_there : (w : World) (sim : Sim p w) (g : ℕ) → LowestShown (w.stacks g) → IsSome (tops p (w.stacks g))
    is_some_there w sim g low e =
        lowest_is_some (w.stacks g) low (sym (all_above w.store sim.x (w.stacks g) (sim.stacks g) low) ∙ e)

    goes_on_there : (w : World) (run : Run (all_run p) w) (sim : Sim p w) → StartedToo w run sim → (g : ℕ)
        → LowestShown (w.stacks g)
        → (later : World) (more : Run (all_run p) later)
        → KeepsRunning (all_run p) g w run later more
        → GoesOnThere w run sim g later more
    goes_on_there w run sim started g low later more not_yet =
        record { there = sim; started = started; keeps = not_yet; is_shown = low }
    goes_on_there w run sim started g low later more (runs_on {next = next} {more = before} keeps step some) =
        let k = goes_on_there w run sim started g low next before keeps in
        let r = stepped next before k.there k.started later step in
        let now = step_shown (all_run p) next g k.is_shown later step some in
        record {
          there = gone_on p r;
          started = started_next next before k.there k.started later step;
          keeps =
              keeps_then p g (HereOf w sim) sim.run (HereOf next k.there) k.there.run (HereOf later (gone_on p r)) r.run.more k.keeps
              (r.run.keeps g (is_some_there next k.there g k.is_shown) (is_some_there later (gone_on p r) g now));
          is_shown = now;
        }

    -- whatever is so here where it is so there
    module _ (IsSo : World → Type 0) (so : (w : World) (sim : Sim p w) → IsSo (HereOf w sim) → IsSo w) where
      so_here : (w : World) (sim : Sim p w) (v : World) (there : Run p v) → IsThat w sim v there → IsSo v → IsSo w
      so_here w sim v there that it = so w sim it

      -- there it is seen to by that goroutine
      by_that : (w : World) (run : Run (all_run p) w) (sim : Sim p w) → StartedToo w run sim
          → (v : World) (there : Run p v)
          → IsThat w sim v there
          → (g : ℕ)
          → was_started there g ≡ true
          → IsSome (v.stacks g)
          → ((v_later : World) (more : Run p v_later) (f : Frame)
          → KeepsRunning p g v there v_later more
          → v_later.stacks g ≡ f ∷ []
          → IsAtEnd f
          → (later : World) (its : Run (all_run p) later) (its_sim : Sim p later)
          → StartedToo later its its_sim
          → IsThat later its_sim v_later more
          → IsSeenTo (all_run p) IsSo later its)
          → IsSeenTo (all_run p) IsSo w run
      by_that w run sim started v there that g was some again =
          let its = started g was some in
          by_goroutine g its.1 (some_below (w.stacks g) some)
          (λ later more f keeps running at_end.
          let k = goes_on_there w run sim started g its.0 later more keeps in
          again (HereOf later k.there) k.there.run f k.keeps
          (all_above later.store k.there.x (later.stacks g) (k.there.stacks g) k.is_shown ∙ running) at_end
          later more k.there k.started that)

      seen_there : (v : World) (there : Run p v) → IsSeenTo p IsSo v there
          → (w : World) (run : Run (all_run p) w) (sim : Sim p w)
          → StartedToo w run sim
          → IsThat w sim v there
          → IsSeenTo (all_run p) IsSo w run
      seen_there v there (is_so it) w run sim started at = is_so (so_here w sim v there at it)
      seen_there v there (by_goroutine g was some returns) w run sim started at =
          by_that w run sim started v there at g was some
          (λ v_later more f keeps running at_end later its its_sim its_started its_at.
          seen_there v_later more (returns v_later more f keeps running at_end) later its its_sim its_started its_at)

    called_here : (a : ℕ) (w : World) (sim : Sim p w) → IsCalledFor a (HereOf w sim) → IsCalledFor a w
    called_here a w sim (was_called h) = was_called h
    called_here a w sim (is_to_call h) = is_to_call (sim.calls a h)

    rests_here : (group : ℕ) (w : World) (sim : Sim p w) → IsAtRest group (HereOf w sim) → IsAtRest group w
    rests_here group w sim rest = record {
      has_no_member = rest.has_no_member;
      is_done = λ a e. done_back p w.store sim.x a (rest.is_done a e);
    }

    pub settled_in_all : ((w : World) (f : Frame) (run : Run p w) → IsReturning w f → IsSettled p w run f)
        → (w : World) (f : Frame) (run : Run (all_run p) w)
        → IsReturning w f
        → T p f.body.home ≡ true
        → IsSettled (all_run p) w run f
    settled_in_all seen w f run back e =
        let k = sims w run in
        let there = seen (HereOf w k.0) f k.0.run record {
          goroutine = back.goroutine;
          others = tops p back.others;
          is_running = ap (tops p) back.is_running ∙ chosen_true (T p f.body.home) (f ∷ tops p back.others) [] e;
          is_at_end = back.is_at_end;
        } in
        record {
          functions =
              λ a owes. seen_there (IsCalledFor a) (called_here a) (HereOf w k.0) k.0.run (there.functions a owes) w run k.0 k.1
              that;
          groups = λ group made. elim (there.groups group made) [
            | inl rest ↦ inl (rests_here group w k.0 rest)
            | inr h ↦ inr record {
              started = h.started;
              variable = h.variable;
              is_started = k.2 h.started h.is_started;
              waits_for = h.waits_for;
              is_held = h.is_held;
            }
          ];
        }
