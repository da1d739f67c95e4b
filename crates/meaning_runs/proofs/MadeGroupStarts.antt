-- Where work is started in a group, by a running frame or by a function without a body that it calls: what is said of
-- groups is kept. The group is the frame's own, or was lent to it, or the goroutine is a member of it.
use Rattle.std.proofs.Common.{◌≡◌, ℕ, ◌<◌, ◌⊎◌, inl, inr, List, length, Option, Some, None, Contains, refl, sym, ap, ◌∙◌, subst, arith}
use Rattle.std.specs.Prelude.{◌==◌}
use Rattle.std.proofs.lemmas.Bool.{cases_eq}
use Rattle.std.proofs.lemmas.Option.{none-some, same_Some}
use Rattle.meaning.specs.Code.{Code}
use Rattle.meaning.specs.Tracked.{live}
use Rattle.meaning.specs.Uses.{Event}
use Rattle.meaning.specs.BodyEvents.{Variable}
use Rattle.meaning.specs.Classes.{Promises, in_state}
use Rattle.meaning_runs.specs.Bodies.{Program}
use Rattle.meaning_runs.specs.World.{nobody, frame_at, Place, Store, HasNoMember, put_at, with_member, Frame, held_group}
use Rattle.meaning_runs.specs.Steps.{DoesNext, Starts, at_code}
use Rattle.meaning_runs.proofs.Contexts.{put_at-same, put_at-other}
use Rattle.meaning_runs.proofs.WhoStarts.{IsOwnGroup, Startable, by_own, by_parameter, by_home}
use Rattle.meaning_runs.proofs.Remembered.{Origins, Past, behind}
use Rattle.meaning_runs.proofs.Holders.{Grows, IsFrom, from_outside, from_below, WasLent, IsSource, is_outside, is_made, was_lent, IsHolder, AreHolders}
use Rattle.meaning_runs.proofs.HolderSteps.{own_is_declared, parameter_is_its}
use Rattle.meaning_runs.proofs.MadeGroups.{HasNoFaultUnder, group_class_of, IsOver, MustWait, IsActive, active_saved, active_live, IsSettled, is_saved, is_live, IsSeenOver, MayAlso, AreSeenOver, Nothing}
use Rattle.meaning_runs.proofs.StoreGrowth.{frame-nobody, outside-frame, same_frame}
use Rattle.meaning_runs.proofs.GroupClasses.{starting_change, work_live, work_awaited, work_unmade}
use Rattle.meaning_runs.proofs.MadeGroupsStand.{over_grows, all_stand}
use Rattle.meaning_runs.proofs.MadeGroupFrames.{OwesEnd, not_lower, MadeOn}
use Rattle.meaning_runs.proofs.MadeGroupEvents.{next, seen_behind, live_still, awaited_still, works_now}
use Rattle.meaning_runs.proofs.MadeGroupUses.{no_call}
use Rattle.meaning_runs.proofs.MadeGroupArguments.{made_is_not_from}
use Rattle.meaning_runs.proofs.MadeGroupCalls.{waited_not_lent}

-- Members

-- a goroutine joins one group, and others get no member by that
pub joined_none : (s : Store) (h b a : ℕ) → (a ≡ b → ⊥) → HasNoMember s a → HasNoMember (with_member s h (Some b)) a
joined_none s h b a ne none k e = by_number (cases_eq k h)
  where
    by_number : (k ≡ h) ⊎ (k ≡ h → ⊥) → ⊥
    by_number (inl same) =
        ne (sym (same_Some b a (sym (put_at-same s.member h (Some b)) ∙ ap (put_at s.member h (Some b)) (sym same) ∙ e)))
    by_number (inr other_one) = none k (sym (put_at-other s.member h (Some b) k other_one) ∙ e)

-- or leaves its own
pub left_none : (s : Store) (h a : ℕ) → HasNoMember s a → HasNoMember (with_member s h None) a
left_none s h a none k e = by_number (cases_eq k h)
  where
    by_number : (k ≡ h) ⊎ (k ≡ h → ⊥) → ⊥
    by_number (inl same) = none-some a (sym (put_at-same s.member h None) ∙ ap (put_at s.member h None) (sym same) ∙ e)
    by_number (inr other_one) = none k (sym (put_at-other s.member h None k other_one) ∙ e)

-- Who made a group in which work is started

module _ {p : Program} {o : Origins} {s : Store} {place : Place} {q : Past} {f : Frame} (it : IsHolder p o s place q f) where
  -- the frame made the group, or was lent it, or is run by a member of it
  pub startable_source : (v a : ℕ) → Startable f.body v → held_group s f v ≡ Some a
      → IsSource s place f.body q.lent a ⊎ (s.member place.0 ≡ Some a)
  startable_source v a (by_own x own same) e =
      inl (is_made (it.made a (it.own v a (own_is_declared f.body x v own same) e)))
  startable_source v a (by_parameter x parameter same) e =
      let is_its = parameter_is_its f.body x v parameter same in
      inl (was_lent (v, is_its, sym (it.lent v is_its) ∙ e))
  startable_source v a (by_home home) e = inr (it.home v a home e)

  -- who made it, if a frame did: this one, or one below, by which it was lent
  pub source_maker : (a : ℕ) (r : Place) → IsSource s place f.body q.lent a → s.maker a ≡ frame_at r
      → (r ≡ place) ⊎ ((r.0 ≡ place.0) × WasLent f.body q.lent a)
  source_maker a r (is_outside x) e = absurd (outside-frame r (sym x ∙ e))
  source_maker a r (is_made x) e = inl (same_frame r place (sym e ∙ x))
  source_maker a r (was_lent w) e = below (it.from a w)
    where
      below : IsFrom s place a → (r ≡ place) ⊎ ((r.0 ≡ place.0) × WasLent f.body q.lent a)
      below (from_outside x) = absurd (outside-frame r (sym x ∙ e))
      below (from_below m l x) = inr (ap (λ (y : Place). y.0) (same_frame r (place.0, m) (sym e ∙ x)), w)

  pub started_maker : (a : ℕ) (r : Place) → IsSource s place f.body q.lent a ⊎ (s.member place.0 ≡ Some a)
      → HasNoMember s a
      → s.maker a ≡ frame_at r
      → (r ≡ place) ⊎ ((r.0 ≡ place.0) × WasLent f.body q.lent a)
  started_maker a r (inl source) none e = source_maker a r source e
  started_maker a r (inr member) none e = absurd (none place.0 member)

-- The frame whose event it is

module _ {p : Program} {o after_o : Origins} {s after : Store} {place : Place} {q : Past} {f : Frame}
    (it : IsHolder p o s place q f) (seen : IsSeenOver p o s place Nothing Nothing q f)
    (grows : Grows nobody o after_o s after) {e : Event} {rest : Code Event} (d : DoesNext f e rest)
    {v group : ℕ} {literal : Option ℕ} (starts : Starts e v literal) (held : held_group s f v ≡ Some group) (startable : Startable f.body v) where
  abbrev Made : Promises → ℕ → Type 0
  Made relies a = MadeOn p nobody o after_o s after place q f Nothing Nothing (next it seen grows d.comes_to Nothing Nothing f.waiting f.saved) relies a

  settles : (relies : Promises) (w : Variable) (a : ℕ)
      → IsActive relies after_o after (behind q d.comes_to) (at_code f rest) w a
      → IsSettled relies after_o after Nothing Nothing (behind q d.comes_to) (at_code f rest) w a
  settles relies w a (active_saved x c h) = is_saved x c h
  settles relies w a (active_live l) = is_live l

  -- a group that the frame made gets a member
  own_works : (relies : Promises) → HasNoFaultUnder p f.body relies → (w : Variable) → IsOwnGroup f.body w → w.number ≡ v → Made relies group
  own_works relies none w own same =
      (w, own, settles relies w group (works_now it seen grows d.comes_to Nothing Nothing f.waiting f.saved (λ x c. c) relies v w group none.are_taken_up own same (λ k. starting_change relies e v literal starts w.number k) (ap (held_group s f) same ∙ held) (group_class_of relies w q.events) refl))

  its_group : (a m : ℕ) → a ≡ group → s.maker a ≡ frame_at (place.0, m) → OwesEnd place q f a m → IsOver s Nothing a → Startable f.body v
      → Contains f.made a × ((relies : Promises) → HasNoFaultUnder p f.body relies → Made relies a)
  its_group a m same e (inl made) h (by_own w own number) =
      (made, λ relies none. subst (Made relies) (sym same) (own_works relies none w own number))
  its_group a m same e (inl made) h (by_parameter x parameter number) =
      let is_its = parameter_is_its f.body x v parameter number in
      absurd (made_is_not_from s place a (it.made a made) (it.from a (v, is_its, sym (it.lent v is_its) ∙ held ∙ ap Some (sym same))))
  its_group a m same e (inr (l, w)) h (by_own x own number) =
      absurd (not_lower place m l (sym (it.made a (it.own v a (own_is_declared f.body x v own number) (held ∙ ap Some (sym same)))) ∙ e))
  its_group a m same e (inr (l, w)) h (by_parameter x parameter number) =
      let is_its = parameter_is_its f.body x v parameter number in
      absurd (waited_not_lent it seen a m e l w (was_lent (v, is_its, sym (it.lent v is_its) ∙ held ∙ ap Some (sym same))))
  its_group a m same e owes h (by_home home) = absurd (h.has_no_member place.0 (it.home v a home (held ∙ ap Some (sym same))))

  pub seen_starting : ((a : ℕ) → (a ≡ group → ⊥) → HasNoMember s a → HasNoMember after a)
      → ((a m : ℕ) → after.maker a ≡ frame_at (place.0, m) → m < place.1 → s.maker a ≡ frame_at (place.0, m))
      → IsSeenOver p after_o after place Nothing Nothing (behind q d.comes_to) (at_code f rest)
  seen_starting others_none back = seen_behind it seen grows d.comes_to Nothing Nothing f.waiting f.saved record {
    made_before = back;
    keeps_saved = λ x c. c;
    over = λ a m e l owes h. elim (cases_eq a group) [
      | inl same ↦ inr (its_group a m same e owes h startable)
      | inr ne ↦ inl (over_grows grows (place.0, m) Nothing Nothing a e (others_none a ne) (λ x. x) h)
    ];
    lives = λ relies u a owed l. is_live (live_still it seen grows d.comes_to Nothing Nothing f.waiting f.saved relies u a
        (starting_change relies e v literal starts u.number (in_state live) ∙ work_live (v == u.number) (in_state live) refl) l);
    awaits = λ relies u a up among kind class held.
        let k = group_class_of relies u q.events in
        awaited_still it seen grows d.comes_to Nothing Nothing f.waiting f.saved (λ x c. c) relies u a up among kind
        (work_awaited (v == u.number) k (sym (starting_change relies e v literal starts u.number k) ∙ class)) held;
    lent_active = λ relies passing y a none w c g made. no_call it seen f.waiting d.none_waits passing w;
    was_unmade = λ relies u k c. work_unmade (v == u) k (sym (starting_change relies e v literal starts u k) ∙ c);
  }

-- All other frames, while a frame of goroutine g starts work in a group, or a function that it calls

module _ (p : Program) (o after_o : Origins) (s after : Store) (g : ℕ) (f : Frame) (others : List Frame) (q : Past) (qs : List Past) (group : ℕ)
    (grows : Grows nobody o after_o s after) (it : IsHolder p o s (g, length others) q f)
    (source : IsSource s (g, length others) f.body q.lent group ⊎ (s.member g ≡ Some group))
    (others_none : (a : ℕ) → (a ≡ group → ⊥) → HasNoMember s a → HasNoMember after a)
    (back : (a : ℕ) (r : Place) → after.maker a ≡ frame_at r → s.maker a ≡ frame_at r) where
  -- where a frame elsewhere made it
  made_by : (a : ℕ) (r : Place) → s.maker a ≡ frame_at r → HasNoMember s a → a ≡ group
      → (r ≡ (g, length others)) ⊎ ((r.0 ≡ g) × WasLent f.body q.lent a)
  made_by a r e none same =
      started_maker it a r (subst (λ b. IsSource s (g, length others) f.body q.lent b ⊎ (s.member g ≡ Some b)) (sym same) source) none e

  -- those below it
  pub rest_while_started : AreHolders p o s g others qs
      → AreSeenOver p o s g (MayAlso f.body q.lent Nothing) (MustWait f.body q.lent) others qs
      → AreSeenOver p after_o after g (MayAlso f.body q.lent Nothing) (MustWait f.body q.lent) others qs
  rest_while_started below seen =
      all_stand p nobody o after_o s after g (length others) (MayAlso f.body q.lent Nothing) (MayAlso f.body q.lent Nothing)
      (MustWait f.body q.lent) (MustWait f.body q.lent) others qs record {
        grows = grows;
        elsewhere = λ m l. frame-nobody (g, m);
        no_member = λ a m e l un none. others_none a (λ same. elim (made_by a (g, m) e none same) [
          | inl x ↦ not_lower (g, length others) m l (sym (ap frame_at x))
          | inr x ↦ un (inl x.1)
        ]) none;
        still_may = λ a m e l x. x;
        made_before = λ a m e l. back a (g, m) e;
      } (λ a m e l x. inl x) (omega arith) below seen

  -- those of other goroutines
  pub others_while_started : (k : ℕ) (fs : List Frame) (rs : List Past) → (k ≡ g → ⊥)
      → AreHolders p o s k fs rs
      → AreSeenOver p o s k Nothing Nothing fs rs
      → AreSeenOver p after_o after k Nothing Nothing fs rs
  others_while_started k fs rs ne held seen =
      all_stand p nobody o after_o s after k (length fs) Nothing Nothing Nothing Nothing fs rs record {
        grows = grows;
        elsewhere = λ m l. frame-nobody (k, m);
        no_member = λ a m e l un none. others_none a (λ same. elim (made_by a (k, m) e none same) [
          | inl x ↦ ne (ap (λ (y : Place). y.0) x)
          | inr x ↦ ne x.0
        ]) none;
        still_may = λ a m e l x. x;
        made_before = λ a m e l. back a (k, m) e;
      } (λ a m e l x. inl x) (omega arith) held seen
