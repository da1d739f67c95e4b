-- What the running frame of a goroutine does keeps what is said of the cancel functions of all frames of its stack.
use Rattle.std.proofs.Common.{◌≡◌, ℕ, ◌≤◌, ◌<◌, ◌⊎◌, inl, inr, true, false, List, [], ◌∷◌, ◌++◌, length, map, Option, Some, None, Contains, refl, ap, subst, sym, arith}
use Rattle.std.proofs.lemmas.Option.{none-some}
use Rattle.meaning.proofs.Membership.{contains_here}
use Rattle.meaning.specs.Code.{Occurrence, Code}
use Rattle.meaning.specs.FunctionFacts.{group as group_kind}
use Rattle.meaning.specs.Lists.{Reaches}
use Rattle.meaning.specs.Uses.{pass, defer_pass, Event, obtain, obtain_kept, renew, keep, call_kept, defer_kept, give, give_field, clear, make}
use Rattle.meaning.specs.BodyEvents.{Variable}
use Rattle.meaning.specs.Classes.{Promises}
use Rattle.meaning_reports.specs.UsedImports.{passes, defers}
use Rattle.meaning_runs.specs.Bodies.{Program, Body, IsOf, code_of, variables_in}
use Rattle.meaning_runs.specs.World.{frame_at, Place, Store, Passing, Saved, saved_call, saved_literal, saved_pass, saved_wait, runs, exits, Frame, held, held_group, kept_value, without_kept, with_kept, giving_away, handed_by, own_cell, binds, new_frame, nothing_around}
use Rattle.meaning_runs.specs.Steps.{Starts, IsAtEnd, at_code, with_function, evaluating, lending, Begins, of_function, of_none, Acts, moves_on, does_other, obtains_one, obtains_into, keeps_one, renews_object, calls_kept, saves_kept, gives_object, gives_in_field, clears_one, calls_one, saves_call, makes_group, tries_nothing, ends_wait, saves_wait, evaluates, evaluates_deferred, lends, makes_call, calls_outside, saves_pass, saves_literal, comes_to_return, runs_call, runs_pass, runs_literal, runs_wait, returns_now, DoesNext}
use Rattle.meaning_runs.specs.Duties.{IsWaitingFor}
use Rattle.meaning_runs.proofs.Bindings.{obtains, obtains_into as binds_into, clears, makes}
use Rattle.meaning_runs.proofs.CaredBindings.{cared_clearing, cared_obtaining, cared_obtaining_into, cared_making, cared_new}
use Rattle.meaning_runs.proofs.CaredCalls.{cared_caller, cared_outside, cared_saving_pass, cared_argument, cared_running_call, cared_running_pass, cared_running_outside, cared_running_literal, cared_running_wait, cared_returning, must_at_end}
use Rattle.meaning_runs.proofs.CaredEvents.{cared_other, cared_silent, cared_calling, cared_saving_call, cared_evaluating, cared_lending, cared_trying, cared_waiting, cared_saving_wait, cared_saving_literal}
use Rattle.meaning_runs.proofs.CaredFor.{level, IsMet, IsCalledUnder, MustCall, MustSee, IsCared, SeenAbove, AreCared, LowestMust, IsRelied}
use Rattle.meaning_runs.proofs.CaredGoesOn.{LeftStill, left_same, all_cared, lowest_same}
use Rattle.meaning_runs.proofs.CaredObjects.{cared_keeping, cared_renewing, cared_calling_kept, cared_saving_kept, cared_giving, cared_giving_field}
use Rattle.meaning_runs.proofs.MentionEvents.{passes as passed_by}
use Rattle.meaning_runs.proofs.ObjectEvents.{IsKeptWell, events_keep_well}
use Rattle.meaning_runs.proofs.Holders.{IsKnown, IsHolder, AreHolders}
use Rattle.meaning_runs.proofs.HolderFrames.{reached}
use Rattle.meaning_runs.proofs.HolderSteps.{ActsWell, acts_held}
use Rattle.meaning_runs.proofs.MadeGroups.{HasNoFaultUnder, IsWaitedForUnder, IsSeenOver, Nothing}
use Rattle.meaning_runs.proofs.OwnBindings.{BindsItsOwn}
use Rattle.meaning_runs.proofs.Remembered.{Origins, Past, behind, occurrence_of, no_past, origins_begun, origins_after, pasts_after}
use Rattle.meaning_runs.proofs.StoreGrowth.{same_frame}
use Rattle.meaning_runs.proofs.WhoStarts.{BodiesAreWellUsed}

-- What the rules of uses and the paths of its packages give of each body that runs go through.
pub record BodiesAreKept (p : Program) : Type 0 where
  -- on some promises that are taken up nothing is found on its paths
  pub no_fault : (b : Body) → IsOf p b → (relies : Promises) × HasNoFaultUnder p b relies
  -- what it is relied on for it calls, on some promises, and what it is relied on for it waits for
  pub called : (b : Body) (v : Variable) → IsOf p b → IsRelied p b v → (relies : Promises) × IsCalledUnder p b relies v
  pub waited : (b : Body) (v : Variable) → IsOf p b → IsWaitingFor b v → (relies : Promises) × IsWaitedForUnder p b relies v
  pub binds : BindsItsOwn p
  -- what it passes it does not capture
  pub passes_own : (b : Body) (t : List (Occurrence Event)) (o : Occurrence Event) (n : ℕ)
      → IsOf p b
      → Reaches (code_of b) t o
      → passed_by o.event ≡ Some n
      → (v : Variable)
      → Contains (variables_in b) v
      → n ≡ v.number
      → level b v ≤ 1
  -- work is started in groups alone
  pub starts : (b : Body) (t : List (Occurrence Event)) (o : Occurrence Event) (v : ℕ) (literal : Option ℕ)
      → IsOf p b
      → Reaches (code_of b) t o
      → Starts o.event v literal
      → (x : Variable) × Contains (variables_in b) x × (x.kind ≡ group_kind) × (x.number ≡ v)

module _ (p : Program) (used : BodiesAreWellUsed p) (kept : BodiesAreKept p) where
  module _ (o : Origins) (s : Store) (g : ℕ) (f : Frame) (others : List Frame) (q : Past) (qs : List Past)
      (known : IsKnown s) (it : IsHolder p o s (g, length others) q f) (below : AreHolders p o s g others qs)
      (over : IsSeenOver p o s (g, length others) Nothing Nothing q f)
      (cared : IsCared p o s Nothing q f) (cared_below : AreCared p o s (SeenAbove p f.body q Nothing) others qs)
    where
      abbrev place : Place
      place = (g, length others)

      -- what is said of the stack, and of what its lowest frame has to call
      pub record CaresWell (after_o : Origins) (after : Store) (stack : List Frame) (pasts : List Past) : Type 0 where
        pub stack_cared : AreCared p after_o after Nothing stack pasts
        pub lowest : (a : ℕ) → LowestMust p (f ∷ others) (q ∷ qs) a
            → IsMet p after_o after a ⊎ LowestMust p stack pasts a

      begun_roots : {passing : Passing} {after : Store} {new : List Frame} (begins : Begins p s f passing after new) (h : ℕ)
          → (origins_begun begins o).root h ≡ o.root h
      begun_roots (of_function b values groups is fits) h = refl
      begun_roots (of_none no_body holds) h = refl

      -- nothing that members run is changed
      pub acts_roots : {after : Store} {frames : List Frame} (acts : Acts p s place f after frames) (h : ℕ)
          → (origins_after acts o).root h ≡ o.root h
      acts_roots (moves_on d) h = refl
      acts_roots (does_other d) h = refl
      acts_roots (obtains_one d gives) h = refl
      acts_roots (clears_one d) h = refl
      acts_roots (obtains_into d gives) h = refl
      acts_roots (keeps_one d) h = refl
      acts_roots (renews_object d) h = refl
      acts_roots (calls_kept d) h = refl
      acts_roots (saves_kept d) h = refl
      acts_roots (gives_object d) h = refl
      acts_roots (gives_in_field d) h = refl
      acts_roots (calls_one d) h = refl
      acts_roots (saves_call d) h = refl
      acts_roots (makes_group d its_context) h = refl
      acts_roots (tries_nothing d) h = refl
      acts_roots (ends_wait d ends) h = refl
      acts_roots (saves_wait d) h = refl
      acts_roots (evaluates d joins) h = refl
      acts_roots (evaluates_deferred d joins) h = refl
      acts_roots (lends d joins) h = refl
      acts_roots (makes_call way now begins) h = begun_roots begins h
      acts_roots (calls_outside way gets) h = refl
      acts_roots (saves_pass way later) h = refl
      acts_roots (saves_literal b d is_in is_at) h = refl
      acts_roots (comes_to_return d) h = refl
      acts_roots (runs_call r) h = refl
      acts_roots (runs_pass r begins) h = begun_roots begins h
      acts_roots (runs_literal values groups r foreign) h = refl
      acts_roots (runs_wait r ends) h = refl
      acts_roots (returns_now ended) h = refl

      well : {after : Store} {frames : List Frame} (acts : Acts p s place f after frames)
          → ActsWell p used place o (origins_after acts o) s after (frames ++ others) (pasts_after acts o q ++ qs)
      well {after} {frames} acts = acts_held p used o s g f others q qs known it below after frames acts

      pub acts_left : {after : Store} {frames : List Frame} (acts : Acts p s place f after frames)
          → LeftStill p o s (origins_after acts o) after
      acts_left acts =
          left_same (well acts).same_member (acts_roots acts) (well acts).grows.more_begun (well acts).grows.same_least

      lower : (n : ℕ) → n < length others → frame_at (g, n) ≡ frame_at place → ⊥
      lower n l e = let same : n ≡ length others = ap (λ (r : Place). r.1) (same_frame (g, n) place e) in omega (arith, l, same)

      -- the frames below, of which those above have to see to what they had to, or it was called
      rest_stands : {after : Store} {frames : List Frame} (acts : Acts p s place f after frames) (must_now : ℕ → Type 0)
          → ((a : ℕ) → SeenAbove p f.body q Nothing a → must_now a ⊎ IsMet p (origins_after acts o) after a)
          → AreCared p (origins_after acts o) after must_now others qs
      rest_stands acts must_now musts =
          all_cared (well acts).grows (acts_left acts) g (SeenAbove p f.body q Nothing) must_now others qs musts lower
          below cared_below

      -- one frame stands in its place
      one : {after : Store} {frames : List Frame} (acts : Acts p s place f after frames) (next : Frame) (now : Past)
          → ((a : ℕ) → MustSee p f.body q a → MustSee p next.body now a)
          → ((a : ℕ) → MustCall p f.body q a → MustCall p next.body now a)
          → IsCared p (origins_after acts o) after Nothing now next
          → CaresWell (origins_after acts o) after (next ∷ others) (now ∷ qs)
      one acts next now sees calls its = record {
        stack_cared = (
          its,
          rest_stands acts (SeenAbove p next.body now Nothing)
              (λ a x. inl (elim x [ inl y ↦ inl (sees a y) | inr bad ↦ absurd bad ])),
        );
        lowest = λ a x. inr (lowest_same p f next q now others qs a (calls a) x);
      }

      -- or a frame that begins, above the one that goes on
      two : {after : Store} {frames : List Frame} (acts : Acts p s place f after frames) (new next : Frame) (first now : Past)
          → ((a : ℕ) → MustSee p f.body q a → MustSee p next.body now a)
          → ((a : ℕ) → MustCall p f.body q a → MustCall p next.body now a)
          → IsCared p (origins_after acts o) after Nothing first new
          → IsCared p (origins_after acts o) after (SeenAbove p new.body first Nothing) now next
          → CaresWell (origins_after acts o) after (new ∷ next ∷ others) (first ∷ now ∷ qs)
      two acts new next first now sees calls top its = record {
        stack_cared = (
          top,
          (
            its,
            rest_stands acts (SeenAbove p next.body now (SeenAbove p new.body first Nothing))
                (λ a x. inl (elim x [ inl y ↦ inl (sees a y) | inr bad ↦ absurd bad ])),
          ),
        );
        lowest = λ a x. inr (lowest_same p f next q now others qs a (calls a) x);
      }

      none_before : (v k : ℕ) → nothing_around v ≡ Some k → ⊥
      none_before v k e = none-some k e

      last_return : IsAtEnd f → (a : ℕ) → MustSee p f.body q a → IsMet p o s a
      last_return ended =
          must_at_end it cared over (kept.no_fault f.body it.is_of) (λ v r. kept.called f.body v it.is_of r)
          (λ v w. kept.waited f.body v it.is_of w) ended

      lowest_gone : IsAtEnd f → (fs : List Frame) (a : ℕ) → LowestMust p (f ∷ fs) (q ∷ qs) a
          → IsMet p o s a ⊎ LowestMust p fs qs a
      lowest_gone ended [] a x = inl (last_return ended a (inl x))
      lowest_gone ended (e ∷ fs) a x = inr x

      -- what the rules of objects give of an event that it comes to
      keeps_well : (e : Event) (rest : Code Event) (d : DoesNext f e rest) → IsKeptWell f.body e
      keeps_well e rest d =
          events_keep_well p f.body it.is_of q.events (occurrence_of d.comes_to) (reached p o s place q f it e rest d.comes_to)

      pub acts_cared : {after : Store} {frames : List Frame} (acts : Acts p s place f after frames)
          → CaresWell (origins_after acts o) after (frames ++ others) (pasts_after acts o q ++ qs)
      acts_cared (moves_on {rest = rest} d) =
          one (moves_on d) (at_code f rest) q (λ a x. x) (λ a x. x)
          (cared_silent it cared d)
      acts_cared (does_other {rest = rest} d) =
          one (does_other d) (at_code f rest) (behind q d.comes_to) (λ a x. x) (λ a x. x)
          (cared_other it cared d)
      acts_cared (obtains_one {u = u} {c = c} {n = n} {is_new = is_new} {rest = rest} {value = value} {made = made} d gives) =
          one (obtains_one d gives)
          (record (binds made f u) { stage = runs rest; obtained = with_function value f.obtained }) (behind q d.comes_to) (λ a x. x) (λ a x. x)
          (cared_obtaining it cared kept.binds d gives
          (used.binds_own f.body q.events (occurrence_of d.comes_to) u it.is_of (reached p o s place q f it (obtain u c n is_new) rest d.comes_to) obtains).0 (well (obtains_one d gives)).grows)
      acts_cared (obtains_into {u = u} {c = c} {n = n} {x = x} {rest = rest} {value = value} {made = made} d gives) =
          let cell = own_cell u.number in
          one (obtains_into d gives)
          (with_kept (record (binds made f cell) { stage = runs rest; obtained = with_function value f.obtained }) u.number x value)
          (behind q d.comes_to) (λ a y. y) (λ a y. y)
          (cared_obtaining_into it cared kept.binds d gives (keeps_well (obtain_kept u c n x) rest d)
          (used.binds_own f.body q.events (occurrence_of d.comes_to) cell it.is_of
          (reached p o s place q f it (obtain_kept u c n x) rest d.comes_to) binds_into).0 (well (obtains_into d gives)).grows)
      acts_cared (keeps_one {v = v} {x = x} {rest = rest} d) =
          let well_kept = keeps_well (keep v x) rest d in
          one (keeps_one d) (with_kept (at_code f rest) v x (held s f v)) (behind q d.comes_to) (λ a y. y) (λ a y. y)
          (cared_keeping it cared d well_kept.0 well_kept.1)
      acts_cared (renews_object {v = v} {x = x} {rest = rest} d) =
          one (renews_object d) (record f { stage = runs rest; kept = without_kept f.kept v x }) (behind q d.comes_to)
          (λ a y. y) (λ a y. y) (cared_renewing it cared d (keeps_well (renew v x) rest d).is_declared_here)
      acts_cared (calls_kept {v = v} {x = x} {rest = rest} d) =
          one (calls_kept d) (at_code f rest) (behind q d.comes_to) (λ a y. y) (λ a y. y)
          (cared_calling_kept it cared d (keeps_well (call_kept v x) rest d))
      acts_cared (saves_kept {v = v} {x = x} {rest = rest} d) =
          one (saves_kept d) (record f { stage = runs rest; saved = saved_call (kept_value f.kept v x) ∷ f.saved })
          (behind q d.comes_to) (λ a y. y) (λ a y. y)
          (cared_saving_kept it cared d (keeps_well (defer_kept v x) rest d))
      acts_cared (gives_object {v = v} {x = x} {rest = rest} d) =
          one (gives_object d) (giving_away (at_code f rest) (kept_value f.kept v x)) (behind q d.comes_to)
          (λ a y. y) (λ a y. y) (cared_giving it cared d (keeps_well (give v x) rest d))
      acts_cared (gives_in_field {v = v} {rest = rest} d) =
          one (gives_in_field d) (giving_away (at_code f rest) (held s f v)) (behind q d.comes_to)
          (λ a y. y) (λ a y. y) (cared_giving_field it cared d (keeps_well (give_field v) rest d))
      acts_cared (clears_one {u = u} {rest = rest} d) =
          one (clears_one d) (at_code (binds s f u) rest) (behind q d.comes_to) (λ a x. x) (λ a x. x)
          (cared_clearing it cared d
          (used.binds_own f.body q.events (occurrence_of d.comes_to) u it.is_of (reached p o s place q f it (clear u) rest d.comes_to) clears).0 (well (clears_one d)).grows)
      acts_cared (calls_one {rest = rest} d) =
          one (calls_one d) (at_code f rest) (behind q d.comes_to) (λ a x. x) (λ a x. x)
          (cared_calling it cared d)
      acts_cared (saves_call {v = v} {rest = rest} d) =
          one (saves_call d) (record f { stage = runs rest; saved = saved_call (held s f v) ∷ f.saved }) (behind q d.comes_to) (λ a x. x) (λ a x. x)
          (cared_saving_call it cared d)
      acts_cared (makes_group {u = u} {state = state} {made = made} {rest = rest} d its_context) =
          one (makes_group d its_context)
          (record (binds made f u) { stage = runs rest; made = made.group_count ∷ f.made }) (behind q d.comes_to) (λ a x. x) (λ a x. x)
          (cared_making it cared used d its_context
          (used.binds_own f.body q.events (occurrence_of d.comes_to) u it.is_of (reached p o s place q f it (make u state) rest d.comes_to) makes).0 (well (makes_group d its_context)).grows)
      acts_cared (tries_nothing {rest = rest} d) =
          one (tries_nothing d) (at_code f rest) (behind q d.comes_to) (λ a x. x) (λ a x. x)
          (cared_trying it cared d)
      acts_cared (ends_wait {rest = rest} d ends) =
          one (ends_wait d ends) (at_code f rest) (behind q d.comes_to) (λ a x. x) (λ a x. x)
          (cared_waiting it cared d ends)
      acts_cared (saves_wait {v = v} {rest = rest} d) =
          one (saves_wait d) (record f { stage = runs rest; saved = saved_wait (held_group s f v) ∷ f.saved }) (behind q d.comes_to) (λ a x. x) (λ a x. x)
          (cared_saving_wait it cared d)
      acts_cared (evaluates {u = u} {c = c} {position = position} {rest = rest} d joins) =
          one (evaluates d joins) (evaluating s f u.number c position false rest) (behind q d) (λ a x. x) (λ a x. x)
          (cared_evaluating it cared u c position false d joins (λ relies v k. refl) (λ relies v k. refl) passes
          (λ v among same. kept.passes_own f.body q.events (occurrence_of d) u.number it.is_of
          (reached p o s place q f it (pass u c position) rest d) refl v among same))
      acts_cared (evaluates_deferred {u = u} {c = c} {position = position} {rest = rest} d joins) =
          one (evaluates_deferred d joins) (evaluating s f u.number c position true rest) (behind q d) (λ a x. x) (λ a x. x)
          (cared_evaluating it cared u c position true d joins (λ relies v k. refl) (λ relies v k. refl) defers
          (λ v among same. kept.passes_own f.body q.events (occurrence_of d) u.number it.is_of
          (reached p o s place q f it (defer_pass u c position) rest d) refl v among same))
      acts_cared (lends {v = v} {c = c} {position = position} {rest = rest} d joins) =
          one (lends d joins) (lending s f v c position rest) (behind q d) (λ a x. x) (λ a x. x)
          (cared_lending it cared d)
      acts_cared (makes_call {passing = passing} way now (of_function b values groups is fits)) =
          two (makes_call way now (of_function b values groups is fits)) (new_frame s b nothing_around)
          (record f { waiting = None }) (no_past o s b values groups nothing_around) q (λ a x. x) (λ a x. x)
          (cared_new p used o s values groups b nothing_around is.is_of (λ v k e. absurd (none_before v k e))
          (λ v k e c. absurd (none_before v k e)))
          (cared_caller it cared passing b values groups way.waits is fits)
      acts_cared (makes_call {passing = passing} way now (of_none no_body holds)) =
          one (makes_call way now (of_none no_body holds)) (record f { waiting = None }) q (λ a x. x) (λ a x. x)
          (cared_outside it cared passing way.waits no_body holds)
      acts_cared (calls_outside {x = x} way gets) =
          one (calls_outside way gets) f q (λ a y. y) (λ a y. y)
          (cared_argument it cared x.value)
      acts_cared (saves_pass {passing = passing} way later) =
          one (saves_pass way later) (record f { waiting = None; saved = saved_pass passing ∷ f.saved }) q (λ a x. x) (λ a x. x)
          (cared_saving_pass it cared passing way.waits)
      acts_cared (saves_literal {rest = rest} b d is_in is_at) =
          one (saves_literal b d is_in is_at) (record f { stage = runs rest; saved = saved_literal record { literal = b; newest = f.newest } ∷ f.saved }) (behind q d.comes_to) (λ a x. x) (λ a x. x)
          (cared_saving_literal it cared used b d is_in is_at)
      acts_cared (comes_to_return {handed = handed} d) =
          one (comes_to_return d) (record f { stage = exits; handed_on = map (handed_by s f) handed }) (behind q d.comes_to) (λ a x. x) (λ a x. x)
          (cared_returning it cared over d)
      acts_cared (runs_call {left = left} r) =
          one (runs_call r) (record f { saved = left }) q (λ a x. x) (λ a x. x)
          (cared_running_call it cared r)
      acts_cared (runs_pass {passing = passing} {left = left} r (of_function b values groups is fits)) =
          two (runs_pass r (of_function b values groups is fits)) (new_frame s b nothing_around)
          (record f { saved = left }) (no_past o s b values groups nothing_around) q (λ a x. x) (λ a x. x)
          (cared_new p used o s values groups b nothing_around is.is_of (λ v k e. absurd (none_before v k e))
          (λ v k e c. absurd (none_before v k e)))
          (cared_running_pass it cared r b values groups is fits)
      acts_cared (runs_pass {passing = passing} {left = left} r (of_none no_body holds)) =
          one (runs_pass r (of_none no_body holds)) (record f { saved = left }) q (λ a x. x) (λ a x. x)
          (cared_running_outside it cared r no_body holds)
      acts_cared (runs_literal {c = c} {left = left} values groups r foreign) =
          let apart = it.saved_literals c
          (subst (λ (l : List Saved). Contains l (saved_literal c)) (sym r.saved) (contains_here (saved_literal c) left)) in
          two (runs_literal values groups r foreign) (new_frame s c.literal c.newest) (record f { saved = left })
          (no_past o s c.literal values groups c.newest) q (λ a x. x) (λ a x. x)
          (cared_new p used o s values groups c.literal c.newest apart.is_of apart.cells_in apart.cells_once)
          (cared_running_literal it cared r values groups)
      acts_cared (runs_wait {left = left} r ends) =
          one (runs_wait r ends) (record f { saved = left }) q (λ a x. x) (λ a x. x)
          (cared_running_wait it cared r ends)
      acts_cared (returns_now ended) = record {
        stack_cared = rest_stands (returns_now ended) Nothing
            (λ a x. inr (elim x [ inl y ↦ last_return ended a y | inr bad ↦ absurd bad ]));
        lowest = λ a x. lowest_gone ended others a x;
      }
