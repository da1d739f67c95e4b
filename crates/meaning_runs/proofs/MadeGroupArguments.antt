-- Arguments that a running frame evaluates, and its return: what is said of the frame's groups is kept. What a call is
-- going to lend of the frame's own is live, or its Wait is saved.
use Rattle.std.proofs.Common.{◌≡◌, ℕ, Bool, false, inl, inr, List, [], ◌∷◌, Option, Some, Contains, refl, sym, ap, ◌∙◌, subst}
use Rattle.std.specs.Prelude.{◌==◌}
use Rattle.std.proofs.lemmas.Option.{same_Some}
use Rattle.meaning.specs.Code.{Code}
use Rattle.meaning.specs.Tracked.{live}
use Rattle.meaning.specs.Uses.{Callee, Handed, Event, lend, return_event}
use Rattle.meaning.specs.BodyEvents.{Variable}
use Rattle.meaning.specs.Classes.{Promises, GroupClass, in_state, change_group}
use Rattle.meaning.proofs.Membership.{contains_cases, contains_nil}
use Rattle.meaning_packages.specs.PathFaults.{ComesToReturn, paths_of, returns_live}
use Rattle.meaning_runs.specs.Bodies.{Program}
use Rattle.meaning_runs.specs.World.{Value, nobody, frame_at, Place, Store, Given, Lent, Passing, runs, exits, Frame, held_group}
use Rattle.meaning_runs.specs.Steps.{ComesTo, DoesNext, MayJoin, joining}
use Rattle.meaning_runs.proofs.Places.{exits≢runs}
use Rattle.meaning_runs.proofs.WhoStarts.{IsOwnGroup, Lendable, own_lent, parameter_lent, BodiesAreWellUsed}
use Rattle.meaning_runs.proofs.Remembered.{Origins, Past, occurrence_of, behind}
use Rattle.meaning_runs.proofs.Holders.{IsFrom, from_outside, from_below, IsHolder}
use Rattle.meaning_runs.proofs.HolderFrames.{reached}
use Rattle.meaning_runs.proofs.HolderSteps.{parameter_is_its, joined_from}
use Rattle.meaning_runs.proofs.MadeGroups.{HasNoFaultUnder, group_class_of, is_saved, is_live, IsActive, IsSeenOver, Nothing}
use Rattle.meaning_runs.proofs.StoreGrowth.{outside-frame, no_change}
use Rattle.meaning_runs.proofs.GroupClasses.{group_next, work_live, work_awaited, work_unmade}
use Rattle.meaning_runs.proofs.MadeGroupFrames.{IsOwed, of_made, of_wait, not_lower, Onward, seen_goes}
use Rattle.meaning_runs.proofs.MadeGroupEvents.{seen_behind, live_still, active_next, awaited_still, works_now}
use Rattle.meaning_runs.proofs.MadeGroupUses.{grown, made_as_before, no_call}

-- what was made at a place does not come from outside, nor from a frame below
pub made_is_not_from : (s : Store) (place : Place) (a : ℕ) → s.maker a ≡ frame_at place → IsFrom s place a → ⊥
made_is_not_from s place a e (from_outside x) = outside-frame place (sym x ∙ e)
made_is_not_from s place a e (from_below m l x) = not_lower place m l (sym e ∙ x)

module _ {p : Program} {o : Origins} {s : Store} {place : Place} {q : Past} {f : Frame}
    (it : IsHolder p o s place q f) (seen : IsSeenOver p o s place Nothing Nothing q f) where
  module _ (c : Callee) (is_deferred : Bool) (position : ℕ) (xs : List Given) (ys : List Lent)
      (joins : MayJoin c is_deferred position f.waiting) {e : Event} {rest : Code Event} (d : ComesTo f e rest) where
    abbrev joined : Passing
    joined = joining f.waiting c is_deferred xs ys

    abbrev Active : Promises → ℕ → Type 0
    Active relies a = (v : Variable) × IsOwnGroup f.body v
        × IsActive relies o s (behind q d) (record f { stage = runs rest; waiting = Some joined }) v a

    -- what the call lends is what it lent before this argument, or the argument
    lent_then : ((relies : Promises) (v : ℕ) → change_group relies v e (in_state live) ≡ in_state live)
        → ((relies : Promises) (y : Lent) (a : ℕ) → HasNoFaultUnder p f.body relies → Contains ys y → y.group ≡ Some a → Contains f.made a → Active relies a)
        → (relies : Promises) (passing : Passing) (y : Lent) (a : ℕ)
        → HasNoFaultUnder p f.body relies
        → Some joined ≡ Some passing
        → Contains passing.lent y
        → y.group ≡ Some a
        → Contains f.made a
        → Active relies a
    lent_then stays new relies passing y a none w h g made =
        joined_from f.waiting c is_deferred position xs ys (λ z. z.group ≡ Some a → Active relies a) joins
        (λ r z was i k. let x = seen.lent_active relies r z a none was i k made in
        (x.0, x.1, active_next it seen (grown it seen (no_change s)) d Nothing Nothing (Some joined) f.saved (λ y i. i) relies x.0 a (stays relies x.0.number) x.2))
        (λ z i k. new relies z a none i k made)
        y (subst (λ (r : Passing). Contains r.lent y) (sym (same_Some joined passing w)) h) g

  -- a cancel function is evaluated
  pub seen_evaluating : (c : Callee) (is_deferred : Bool) (position : ℕ) (xs : List Given)
      → (joins : MayJoin c is_deferred position f.waiting) {e : Event} {rest : Code Event} (d : ComesTo f e rest)
      → ((relies : Promises) (v : ℕ) (k : GroupClass) → change_group relies v e k ≡ k)
      → IsSeenOver p o s place Nothing Nothing (behind q d) (record f { stage = runs rest; waiting = Some (joining f.waiting c is_deferred xs []) })
  seen_evaluating c is_deferred position xs joins d plain =
      let waiting = Some (joining f.waiting c is_deferred xs []) in
      let same = grown it seen (no_change s) in
      seen_behind it seen same d Nothing Nothing waiting f.saved record {
        made_before = made_as_before it seen (no_change s);
        keeps_saved = λ x h. h;
        over = λ a m e l owes h. inl h;
        lives = λ relies v a owed l. is_live (live_still it seen same d Nothing Nothing waiting f.saved relies v a (plain relies v.number (in_state live)) l);
        awaits = λ relies v a up among kind class held.
            awaited_still it seen same d Nothing Nothing waiting f.saved (λ x h. h) relies v a up among kind (sym (plain relies v.number (group_class_of relies v q.events)) ∙ class) held;
        lent_active = λ relies passing y a none w h g made.
            lent_then c is_deferred position xs [] joins d (λ r v. plain r v (in_state live)) (λ r z b x i. absurd (contains_nil z i)) relies passing y a none w h g made;
        was_unmade = λ relies v k e. sym (plain relies v k) ∙ e;
      }

  -- a group is lent
  module _ (used : BodiesAreWellUsed p) (c : Callee) (position v : ℕ) (joins : MayJoin c false position f.waiting)
      {rest : Code Event} (d : ComesTo f (lend v c position) rest) where
    abbrev argument : Lent
    argument = record { position = position; group = held_group s f v }

    abbrev with_lent : Option Passing
    with_lent = Some (joining f.waiting c false [] (argument ∷ []))

    abbrev lends_now : Promises → Variable → ℕ → Type 0
    lends_now relies w a = IsActive relies o s (behind q d) (record f { stage = runs rest; waiting = with_lent }) w a

    lent_now : (relies : Promises) (a : ℕ) → HasNoFaultUnder p f.body relies → held_group s f v ≡ Some a → Contains f.made a
        → Lendable f.body v
        → (w : Variable) × IsOwnGroup f.body w × lends_now relies w a
    lent_now relies a none held made (own_lent w own same) =
        (w, own, works_now it seen (grown it seen (no_change s)) d Nothing Nothing with_lent f.saved (λ x h. h) relies v w a none.are_taken_up own same (λ k. refl) (ap (held_group s f) same ∙ held) (group_class_of relies w q.events) refl)
    lent_now relies a none held made (parameter_lent w parameter same) =
        let is_its = parameter_is_its f.body w v parameter same in
        absurd (made_is_not_from s place a (it.made a made) (it.from a (v, is_its, sym (it.lent v is_its) ∙ held)))

    pub seen_lending : IsSeenOver p o s place Nothing Nothing (behind q d) (record f { stage = runs rest; waiting = with_lent })
    seen_lending =
        let same = grown it seen (no_change s) in
        let rule = used.lends_own f.body q.events (occurrence_of d) v position c it.is_of (reached p o s place q f it (lend v c position) rest d) refl in
        seen_behind it seen same d Nothing Nothing with_lent f.saved record {
          made_before = made_as_before it seen (no_change s);
          keeps_saved = λ x h. h;
          over = λ a m e l owes h. inl h;
          lives = λ relies w a owed l. is_live (live_still it seen same d Nothing Nothing with_lent f.saved relies w a (work_live (v == w.number) (in_state live) refl) l);
          awaits = λ relies w a up among kind class held.
              awaited_still it seen same d Nothing Nothing with_lent f.saved (λ x h. h) relies w a up among kind (work_awaited (v == w.number) (group_class_of relies w q.events) class) held;
          lent_active = λ relies passing y a none w h g made.
              lent_then c false position [] (argument ∷ []) joins d (λ r u. work_live (v == u) (in_state live) refl)
              (λ r z b x i k m. elim (contains_cases argument z [] i) [ inl same ↦ lent_now r b x (ap (λ (l : Lent). l.group) same ∙ k) m rule | inr n ↦ absurd (contains_nil z n) ])
              relies passing y a none w h g made;
          was_unmade = λ relies u k e. work_unmade (v == u) k e;
        }

  -- The return: none of the groups that the frame has to see to is live there.
  module _ {handed : List Handed} {rest : Code Event} (d : DoesNext f (return_event handed) rest) (values : List Value) where
    abbrev at_return : Onward
    at_return = record {
      events = (behind q d.comes_to).events;
      stage = exits;
      newest = f.newest;
      waiting = f.waiting;
      saved = f.saved;
      obtained = f.obtained;
      made = f.made;
      handed_on = values;
    }

    comes_to_it : (relies : Promises) → ComesToReturn (paths_of f.body.file relies f.body.place) q.events (occurrence_of d.comes_to) handed
    comes_to_it relies = record { reaches = reached p o s place q f it (return_event handed) rest d.comes_to; is_return = refl }

    not_live : (relies : Promises) (v : Variable) → IsOwed p f.body relies v → group_class_of relies v q.events ≡ in_state live → ⊥
    not_live relies v (of_made none own) class =
        none.none _ (returns_live v handed q.events (occurrence_of d.comes_to) (comes_to_it relies) own.is_declared_here record {
          is_of_body = own.is_of_body;
          is_group_variable = own.is_group_variable;
          is_live = class;
        })
    not_live relies v (of_wait w) class = w.never_live handed q.events (occurrence_of d.comes_to) (comes_to_it relies) class

    pub seen_returning : IsSeenOver p o s place Nothing Nothing (behind q d.comes_to) (record f { stage = exits; handed_on = values })
    seen_returning = seen_goes p nobody o o s s place q f Nothing Nothing at_return it seen record {
      grows = grown it seen (no_change s);
      made_before = made_as_before it seen (no_change s);
      made = λ a c. inl c;
      over = λ a m e l owes h. inl h;
      saved = λ relies v a m x e c w. is_saved x c w;
      lives = λ relies v a m e owed l. absurd (not_live relies v owed l.is_live);
      awaits = λ relies c v a up among kind stage class held. absurd (exits≢runs c stage);
      lent_active = λ relies passing y a none w c g made. no_call it seen f.waiting d.none_waits passing w;
      unmade_yet = λ relies v own class.
          seen.unmade_yet relies v own (sym (group_next relies v q.events (occurrence_of d.comes_to)) ∙ class);
    }
