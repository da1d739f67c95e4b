-- What the running frame of a goroutine does keeps what is said of the groups that the frames of the goroutine made.
use Rattle.std.proofs.Common.{◌≡◌, ℕ, suc, ◌<◌, ◌⊎◌, inl, inr, false, true, List, [], ◌∷◌, ◌++◌, length, map, Option, Some, Contains, refl, sym, ap, ◌∙◌, subst, arith}
use Rattle.std.proofs.lemmas.Option.{none-some}
use Rattle.meaning.specs.BodyEvents.{Variable}
use Rattle.meaning.specs.Classes.{Promises}
use Rattle.meaning.proofs.Membership.{contains_here, contains_there, contains_nil}
use Rattle.meaning_packages.specs.PathFaults.{obtains, obtains_into as binds_into, clears}
use Rattle.meaning_runs.specs.Bodies.{Program, Body, IsOf}
use Rattle.meaning_runs.specs.World.{Value, nothing, nobody, outside, frame_at, Place, Store, with_cells, IsOutside, Lent, Passing, Closure, Saved, saved_call, saved_pass, saved_literal, saved_wait, InObject, Frame, group_in_cell, held, kept_value, without_kept, handed_by, own_cell, new_frame, nothing_around}
use Rattle.meaning_runs.specs.Steps.{with_function, Fits, of_function, of_none, IsAtEnd, Acts, moves_on, does_other, obtains_one, obtains_into, keeps_one, renews_object, calls_kept, saves_kept, gives_object, gives_in_field, clears_one, calls_one, saves_call, makes_group, tries_nothing, ends_wait, saves_wait, evaluates, evaluates_deferred, lends, makes_call, calls_outside, saves_pass, saves_literal, comes_to_return, runs_call, runs_pass, runs_literal, runs_wait, returns_now}
use Rattle.meaning_runs.specs.Duties.{IsWaitingFor}
use Rattle.meaning_runs.proofs.OwnBindings.{BindsItsOwn}
use Rattle.meaning_runs.proofs.Places.{exits≢runs}
use Rattle.meaning_runs.proofs.WhoStarts.{BodiesAreWellUsed}
use Rattle.meaning_runs.proofs.Remembered.{Origins, Past, with_block, no_past, origins_after, pasts_after}
use Rattle.meaning_runs.proofs.Holders.{IsKnown, IsSource, is_outside, is_made, was_lent, WasLent, IsHolder, AreHolders}
use Rattle.meaning_runs.proofs.HolderSteps.{outside_is, obtaining_changes, ActsWell, acts_held}
use Rattle.meaning_runs.proofs.GroupMakers.{is_maker_back}
use Rattle.meaning_runs.proofs.MadeGroups.{IsWaitedForUnder, SavesWait, by_wait, by_literal, IsOver, MustWait, IsSettled, is_over, is_saved, is_above, is_live, IsSeenOver, MayAlso, AreSeenOver, Nothing, IsLive, IsActive, active_saved, active_live, IsGone, is_gone}
use Rattle.meaning_runs.proofs.StoreGrowth.{frame-nobody, outside-frame, no_change, calling_changes, waiting_changes, contexts_grow, block_grows}
use Rattle.meaning_runs.proofs.MadeGroupsStand.{all_stand}
use Rattle.meaning_runs.proofs.MadeGroupFrames.{not_lower}
use Rattle.meaning_runs.proofs.MadeGroupUses.{waited_over, grown, none_joins, made_as_before, seen_plain, seen_trying, seen_waiting, seen_saving_wait, seen_saving_literal}
use Rattle.meaning_runs.proofs.MadeGroupArguments.{seen_evaluating, seen_lending, seen_returning}
use Rattle.meaning_runs.proofs.MadeGroupBindings.{seen_binding_cancel, seen_making}
use Rattle.meaning_runs.proofs.MadeGroupCalls.{parameter_lent, waits_given, seen_new, IsAmongLent, lent_among, seen_silent, seen_staying, seen_without_call, seen_calling, seen_popping}

-- What a saved item that waits can be

module _ (o : Origins) (s : Store) (a : ℕ) where
  wait_saved : (x : Saved) (group : Option ℕ) → x ≡ saved_wait group → SavesWait o s a x → group ≡ Some a
  wait_saved x group e (by_wait {group = g} is) = let same : g ≡ group = cc in sym same ∙ is
  wait_saved x group e (by_literal c v k w n l frozen h) = cc

  no_call_waits : (x : Saved) (value : Value) → x ≡ saved_call value → SavesWait o s a x → ⊥
  no_call_waits x value e (by_wait is) = cc
  no_call_waits x value e (by_literal c v k w n l frozen h) = cc

  no_pass_waits : (x : Saved) (passing : Passing) → x ≡ saved_pass passing → SavesWait o s a x → ⊥
  no_pass_waits x passing e (by_wait is) = cc
  no_pass_waits x passing e (by_literal c v k w n l frozen h) = cc

  abbrev WaitsWithin : Closure → Type 0
  WaitsWithin c = (v : Variable) × IsWaitingFor c.literal v × (group_in_cell s v.number (c.newest v.number) ≡ Some a)

  literal_waits : (x : Saved) (c : Closure) → x ≡ saved_literal c → SavesWait o s a x → WaitsWithin c
  literal_waits x c e (by_wait is) = cc
  literal_waits x c e (by_literal d v k w n l frozen h) =
      let same : d ≡ c = cc in
      subst WaitsWithin same (v, w, ap (group_in_cell s v.number) n ∙ h)

-- Of what a frame keeps in objects, and of what others got, nothing is told here.
abbrev Keeping : Frame → List InObject → List Value → Frame
Keeping f kept given = record f { kept = kept; given_away = given }

live_keeping : {s : Store} {past : Past} {f : Frame} (kept : List InObject) (given : List Value) (relies : Promises)
    (v : Variable) (a : ℕ)
    → IsLive relies s past f v a
    → IsLive relies s past (Keeping f kept given) v a
live_keeping kept given relies v a l =
    record { code = l.code; stage = l.stage; is_live = l.is_live; is_held = l.is_held }

settled_keeping : {o : Origins} {s : Store} {may must : ℕ → Type 0} {past : Past} {f : Frame} (kept : List InObject)
    (given : List Value) (relies : Promises) (v : Variable) (a : ℕ)
    → IsSettled relies o s may must past f v a
    → IsSettled relies o s may must past (Keeping f kept given) v a
settled_keeping kept given relies v a (is_over h) = is_over h
settled_keeping kept given relies v a (is_saved x c w) = is_saved x c w
settled_keeping kept given relies v a (is_above h) = is_above h
settled_keeping kept given relies v a (is_gone h) = is_gone h
settled_keeping kept given relies v a (is_live l) = is_live (live_keeping kept given relies v a l)

active_keeping : {o : Origins} {s : Store} {past : Past} {f : Frame} (kept : List InObject) (given : List Value)
    (relies : Promises) (v : Variable) (a : ℕ)
    → IsActive relies o s past f v a
    → IsActive relies o s past (Keeping f kept given) v a
active_keeping kept given relies v a (active_saved x c w) = active_saved x c w
active_keeping kept given relies v a (active_live l) = active_live (live_keeping kept given relies v a l)

seen_keeping : {p : Program} {o : Origins} {s : Store} {place : Place} {may must : ℕ → Type 0} {past : Past} {f : Frame}
    (kept : List InObject) (given : List Value)
    → IsSeenOver p o s place may must past f
    → IsSeenOver p o s place may must past (Keeping f kept given)
seen_keeping kept given h = record {
  made = λ relies a none c. let r = h.made relies a none c in (r.0, r.1, settled_keeping kept given relies r.0 a r.2);
  waits = λ relies v a m w l e below. settled_keeping kept given relies v a (h.waits relies v a m w l e below);
  apart = h.apart;
  awaits = h.awaits;
  lent_active = λ relies passing y a none w c e made.
      let r = h.lent_active relies passing y a none w c e made in
      (r.0, r.1, active_keeping kept given relies r.0 a r.2);
  unmade_yet = h.unmade_yet;
}

-- what bodies are known to wait for, they wait for on some promises
pub record WaitsAreKept (p : Program) : Type 0 where
  pub each : (b : Body) (v : Variable) → IsOf p b → IsWaitingFor b v → (relies : Promises) × IsWaitedForUnder p b relies v

module _ (p : Program) (used : BodiesAreWellUsed p) (binds_own : BindsItsOwn p) (kept : WaitsAreKept p)
    (o : Origins) (s : Store) (g : ℕ) (f : Frame) (others : List Frame) (q : Past) (qs : List Past)
    (known : IsKnown s) (it : IsHolder p o s (g, length others) q f) (below : AreHolders p o s g others qs)
    (seen : IsSeenOver p o s (g, length others) Nothing Nothing q f)
    (seen_below : AreSeenOver p o s g (MayAlso f.body q.lent Nothing) (MustWait f.body q.lent) others qs) where
  abbrev place : Place
  place = (g, length others)

  lower : (m : ℕ) → m < length others → frame_at (g, m) ≡ frame_at place → ⊥
  lower m l e = not_lower place m l (sym e)

  module _ {after : Store} {frames : List Frame} (acts : Acts p s place f after frames) where
    well : ActsWell p used place o (origins_after acts o) s after (frames ++ others) (pasts_after acts o q ++ qs)
    well = acts_held p used o s g f others q qs known it below after frames acts

    pub made_back : (a m : ℕ) → after.maker a ≡ frame_at (g, m) → m < length others → s.maker a ≡ frame_at (g, m)
    made_back a m e l = is_maker_back p s place f after frames acts a (g, m) e (λ same. lower m l (ap frame_at same))

    -- frames below, where frames above can start work in no more groups that these made
    rest_under : (may : ℕ → Type 0)
        → ((a m : ℕ) → s.maker a ≡ frame_at (g, m) → m < length others → may a → WasLent f.body q.lent a)
        → AreSeenOver p (origins_after acts o) after g (MayAlso f.body q.lent may) (MustWait f.body q.lent) others qs
    rest_under may sources =
        all_stand p (frame_at place) o (origins_after acts o) s after g (length others) (MayAlso f.body q.lent Nothing) (MayAlso f.body q.lent may)
        (MustWait f.body q.lent) (MustWait f.body q.lent) others qs record {
          grows = well.grows;
          elsewhere = lower;
          no_member = λ a m e l un none h x. none h (sym (well.same_member h) ∙ x);
          still_may = λ a m e l x. elim x [ inl y ↦ inl y | inr y ↦ inl (sources a m e l y) ];
          made_before = made_back;
        } (λ a m e l x. inl x) (omega arith) below seen_below

    rest : AreSeenOver p (origins_after acts o) after g (MayAlso f.body q.lent Nothing) (MustWait f.body q.lent) others qs
    rest = rest_under Nothing (λ a m e l x. absurd x)

  -- what was lent to the frame, of what it can lend
  lent_of : (a m : ℕ) → s.maker a ≡ frame_at (g, m) → m < length others → IsSource s place f.body q.lent a → WasLent f.body q.lent a
  lent_of a m e l (is_outside x) = absurd (outside-frame (g, m) (sym x ∙ e))
  lent_of a m e l (is_made x) = absurd (lower m l (sym e ∙ x))
  lent_of a m e l (was_lent w) = w

  -- A frame that a function begins with

  module _ (b : Body) (passing : Passing) (values : ℕ → Value) (groups : ℕ → Option ℕ) (fits : Fits s b passing values groups) where
    abbrev begun_past : Past
    begun_past = no_past o s b values groups nothing_around

    abbrev May : ℕ → Type 0
    May = MayAlso b begun_past.lent Nothing

    lends_it : (a : ℕ) → May a → IsAmongLent passing.lent a ⊎ (s.maker a ≡ outside)
    lends_it a (inl w) = lent_among s b passing values groups fits w.0 a (parameter_lent s values groups b nothing_around w.0 a w.1 w.2)
    lends_it a (inr x) = absurd x

    function_begins : IsSeenOver p (with_block o s.cell_count) (with_cells s values groups) (g, suc (length others)) Nothing Nothing begun_past (new_frame s b nothing_around)
    function_begins =
        seen_new s values groups b nothing_around (λ v k e. absurd (none-some k e)) p o (g, suc (length others))
        (λ v a w e. absurd (none-some a e))

  -- A literal

  module _ (c : Closure) (values : ℕ → Value) (groups : ℕ → Option ℕ) (foreign : (v : ℕ) → IsOutside s (groups v)) where
    abbrev literal_past : Past
    literal_past = no_past o s c.literal values groups c.newest

    -- nothing that a frame here made is lent to it
    literal_untouched : (a m : ℕ) → s.maker a ≡ frame_at (g, m) → MayAlso c.literal literal_past.lent Nothing a → ⊥
    literal_untouched a m e (inl w) =
        outside-frame (g, m) (sym (outside_is s (groups w.0) a (foreign w.0) (parameter_lent s values groups c.literal c.newest w.0 a w.1 w.2)) ∙ e)
    literal_untouched a m e (inr x) = x

    literal_must : (a : ℕ) → SavesWait o s a (saved_literal c) → MustWait c.literal literal_past.lent a
    literal_must a w =
        let r = literal_waits o s a (saved_literal c) c refl w in
        (r.0, r.1, waits_given s values groups c.literal c.newest r.0 a r.1 r.2)

  -- The end of the frame: what it was to wait for is over.

  pub at_end : IsAtEnd f → (relies : Promises) (v : Variable) (a : ℕ) → IsSettled relies o s Nothing Nothing q f v a
      → IsOver s Nothing a ⊎ IsGone o a
  at_end ended relies v a (is_over h) = inl h
  at_end ended relies v a (is_gone h) = inr h
  at_end ended relies v a (is_saved x c w) = absurd (contains_nil x (subst (λ (l : List Saved). Contains l x) ended.saved c))
  at_end ended relies v a (is_above h) = absurd h
  at_end ended relies v a (is_live l) = absurd (exits≢runs l.code (sym ended.stage ∙ l.stage))

  pub acts_seen : (after : Store) (frames : List Frame) (acts : Acts p s place f after frames)
      → AreSeenOver p (origins_after acts o) after g Nothing Nothing (frames ++ others) (pasts_after acts o q ++ qs)
  acts_seen after frames (moves_on d) = (seen_silent it seen d, rest (moves_on d))
  acts_seen after frames (does_other d) =
      (seen_plain it seen (no_change s) d f.saved (λ x c. c) (λ relies v k. refl), rest (does_other d))
  acts_seen after frames (obtains_one {u = u} {c = c} {value = value} {made = made} d gives) =
      (seen_binding_cancel it seen binds_own d u u value made obtains refl (obtaining_changes s made c value gives) (well (obtains_one d gives)).grows (with_function value f.obtained), rest (obtains_one d gives))
  acts_seen after frames (obtains_into {u = u} {c = c} {x = x} {value = value} {made = made} d gives) = (
    seen_keeping (record { variable = u.number; object = x; value = value } ∷ f.kept) f.given_away
        (seen_binding_cancel it seen binds_own d (own_cell u.number) u value made binds_into refl (obtaining_changes s made c value gives)
        (well (obtains_into d gives)).grows (with_function value f.obtained)),
    rest (obtains_into d gives),
  )
  acts_seen after frames (keeps_one {v = v} {x = x} d) = (
    seen_keeping (record { variable = v; object = x; value = held s f v } ∷ f.kept) f.given_away
        (seen_plain it seen (no_change s) d f.saved (λ y c. c) (λ relies w k. refl)),
    rest (keeps_one d),
  )
  acts_seen after frames (renews_object {v = v} {x = x} d) = (
    seen_keeping (without_kept f.kept v x) f.given_away
        (seen_plain it seen (no_change s) d f.saved (λ y c. c) (λ relies w k. refl)),
    rest (renews_object d),
  )
  acts_seen after frames (calls_kept {v = v} {x = x} d) =
      (seen_plain it seen (calling_changes s (kept_value f.kept v x)) d f.saved (λ y c. c) (λ relies w k. refl), rest (calls_kept d))
  acts_seen after frames (saves_kept {v = v} {x = x} d) =
      let call = saved_call (kept_value f.kept v x) in
      (seen_plain it seen (no_change s) d (call ∷ f.saved) (λ y c. contains_there call y f.saved c) (λ relies w k. refl), rest (saves_kept d))
  acts_seen after frames (gives_object {v = v} {x = x} d) = (
    seen_keeping f.kept (kept_value f.kept v x ∷ f.given_away)
        (seen_plain it seen (no_change s) d f.saved (λ y c. c) (λ relies w k. refl)),
    rest (gives_object d),
  )
  acts_seen after frames (gives_in_field {v = v} d) = (
    seen_keeping f.kept (held s f v ∷ f.given_away)
        (seen_plain it seen (no_change s) d f.saved (λ y c. c) (λ relies w k. refl)),
    rest (gives_in_field d),
  )
  acts_seen after frames (clears_one {u = u} d) =
      (seen_binding_cancel it seen binds_own d u u nothing s clears refl (no_change s) (well (clears_one d)).grows f.obtained, rest (clears_one d))
  acts_seen after frames (calls_one {v = v} d) =
      (seen_plain it seen (calling_changes s (held s f v)) d f.saved (λ x c. c) (λ relies w k. refl), rest (calls_one d))
  acts_seen after frames (saves_call {v = v} d) =
      (seen_plain it seen (no_change s) d (saved_call (held s f v) ∷ f.saved) (λ x c. contains_there (saved_call (held s f v)) x f.saved c) (λ relies w k. refl), rest (saves_call d))
  acts_seen after frames (makes_group d makes) =
      (seen_making it seen used known d makes (well (makes_group d makes)).grows (made_back (makes_group d makes)), rest (makes_group d makes))
  acts_seen after frames (tries_nothing d) = (seen_trying it seen d, rest (tries_nothing d))
  acts_seen after frames (ends_wait d ends) = (seen_waiting it seen d ends, rest (ends_wait d ends))
  acts_seen after frames (saves_wait d) = (seen_saving_wait it seen d, rest (saves_wait d))
  acts_seen after frames (evaluates {u = u} {c = c} {position = position} d joins) =
      (seen_evaluating it seen c false position (record { position = position; value = held s f u.number } ∷ []) joins d (λ relies v k. refl), rest (evaluates d joins))
  acts_seen after frames (evaluates_deferred {u = u} {c = c} {position = position} d joins) =
      (seen_evaluating it seen c true position (record { position = position; value = held s f u.number } ∷ []) joins d (λ relies v k. refl), rest (evaluates_deferred d joins))
  acts_seen after frames (lends {v = v} {c = c} {position = position} d joins) =
      (seen_lending it seen used c position v joins d, rest (lends d joins))
  acts_seen after frames (makes_call {passing = passing} way now (of_function b values groups is fits)) = (
    function_begins b passing values groups fits,
    (
      seen_calling it seen way.waits values groups (May b passing values groups fits) (MustWait b (begun_past b passing values groups fits).lent) (lends_it b passing values groups fits),
      rest_under (makes_call way now (of_function b values groups is fits)) (May b passing values groups fits)
          (λ a m e l x. elim (lends_it b passing values groups fits a x) [
            | inl y ↦ lent_of a m e l (it.lent_from passing y.0 a way.waits y.1 y.2)
            | inr y ↦ absurd (outside-frame (g, m) (sym y ∙ e))
          ]),
    ),
  )
  acts_seen after frames (makes_call way now (of_none no_body holds)) =
      (seen_without_call it seen f.saved (λ x c. c), rest (makes_call way now (of_none no_body holds)))
  acts_seen after frames (calls_outside {x = x} way gets) =
      (seen_staying it seen (calling_changes s x.value), rest (calls_outside way gets))
  acts_seen after frames (saves_pass {passing = passing} way later) =
      (seen_without_call it seen (saved_pass passing ∷ f.saved) (λ x c. contains_there (saved_pass passing) x f.saved c), rest (saves_pass way later))
  acts_seen after frames (saves_literal b d is_in is_at) =
      (seen_saving_literal it seen used b d is_in is_at, rest (saves_literal b d is_in is_at))
  acts_seen after frames (comes_to_return {handed = handed} d) =
      (seen_returning it seen d (map (handed_by s f) handed), rest (comes_to_return d))
  acts_seen after frames (runs_call {value = value} r) =
      let changes = calling_changes s value in (
        seen_popping it seen (grown it seen changes) Nothing Nothing r (none_joins it seen changes) (made_as_before it seen changes) (λ a m e x. x)
            (λ a w. absurd (no_call_waits o s a (saved_call value) value refl w)),
        rest (runs_call r),
      )
  acts_seen after frames (runs_pass {passing = passing} {left = left} r (of_function b values groups is fits)) =
      let none = it.saved_lend_none passing (subst (λ (l : List Saved). Contains l (saved_pass passing)) (sym r.saved) (contains_here (saved_pass passing) left)) in
      let untouched : (a m : ℕ) → s.maker a ≡ frame_at (g, m) → May b passing values groups fits a → ⊥ =
      λ a m e x. elim (lends_it b passing values groups fits a x) [
        | inl y ↦ contains_nil y.0 (subst (λ (l : List Lent). Contains l y.0) none y.1)
        | inr y ↦ outside-frame (g, m) (sym y ∙ e)
      ] in (
        function_begins b passing values groups fits,
        (
          seen_popping it seen (block_grows nobody o s values groups) (May b passing values groups fits) (MustWait b (begun_past b passing values groups fits).lent) r (λ a n. n) (λ a m e l. e) untouched
              (λ a w. absurd (no_pass_waits o s a (saved_pass passing) passing refl w)),
          rest_under (runs_pass r (of_function b values groups is fits)) (May b passing values groups fits) (λ a m e l x. absurd (untouched a m e x)),
        ),
      )
  acts_seen after frames (runs_pass {passing = passing} r (of_none no_body holds)) = (
    seen_popping it seen (grown it seen (no_change s)) Nothing Nothing r (λ a n. n) (λ a m e l. e) (λ a m e x. x)
        (λ a w. absurd (no_pass_waits o s a (saved_pass passing) passing refl w)),
    rest (runs_pass r (of_none no_body holds)),
  )
  acts_seen after frames (runs_literal {c = c} {left = left} values groups r foreign) =
      let apart = it.saved_literals c (subst (λ (l : List Saved). Contains l (saved_literal c)) (sym r.saved) (contains_here (saved_literal c) left)) in
      let past = literal_past c values groups foreign.foreign in (
        seen_new s values groups c.literal c.newest apart.cells_in p o (g, suc (length others)) (λ v a w e u x i. outside_is s (groups u) x (foreign.foreign u) i),
        (
          seen_popping it seen (block_grows nobody o s values groups) (MayAlso c.literal past.lent Nothing) (MustWait c.literal past.lent) r (λ a n. n) (λ a m e l. e)
              (literal_untouched c values groups foreign.foreign) (λ a w. inr (literal_must c values groups foreign.foreign a w)),
          rest_under (runs_literal values groups r foreign) (MayAlso c.literal past.lent Nothing) (λ a m e l x. absurd (literal_untouched c values groups foreign.foreign a m e x)),
        ),
      )
  acts_seen after frames (runs_wait {group = group} r ends) =
      let changes = waiting_changes s group in (
        seen_popping it seen (grown it seen changes) Nothing Nothing r (none_joins it seen changes) (made_as_before it seen changes) (λ a m e x. x)
            (λ a w. inl (waited_over s group a ends (wait_saved o s a (saved_wait group) group refl w))),
        rest (runs_wait r ends),
      )
  acts_seen after frames (returns_now ended) =
      all_stand p nobody o o s s g (length others) (MayAlso f.body q.lent Nothing) Nothing (MustWait f.body q.lent) Nothing others qs record {
        grows = contexts_grow nobody o s s (no_change s);
        elsewhere = λ m l. frame-nobody (g, m);
        no_member = λ a m e l un none. none;
        still_may = λ a m e l x. absurd x;
        made_before = λ a m e l. e;
      } (λ a m e l w. let r = kept.each f.body w.0 it.is_of w.1 in inr (at_end ended r.0 w.0 a (seen.waits r.0 w.0 a m r.1 w.2 e l))) (omega arith) below seen_below
