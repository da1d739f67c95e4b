-- What an act of the running frame has to show of the frame's groups, so that what is said of them is kept.
use Rattle.std.proofs.Common.{◌≡◌, ℕ, ◌<◌, ◌≤◌, ◌⊎◌, inl, inr, List, Option, Some, None, Contains, sym, ap, ◌∙◌, arith}
use Rattle.meaning.specs.Code.{Occurrence, Code}
use Rattle.meaning.specs.FunctionFacts.{group}
use Rattle.meaning.specs.Uses.{Event}
use Rattle.meaning.specs.BodyEvents.{Variable}
use Rattle.meaning.specs.Classes.{Promises, unmade, awaited}
use Rattle.meaning_runs.specs.Bodies.{Program, Body, variables_in}
use Rattle.meaning_runs.specs.World.{Value, Maker, frame_at, Place, Store, Lent, Passing, Saved, Stage, runs, Frame, held_group}
use Rattle.meaning_runs.specs.Duties.{AreTakenUp}
use Rattle.meaning_runs.proofs.WhoStarts.{IsOwnGroup}
use Rattle.meaning_runs.proofs.Remembered.{Origins, Past}
use Rattle.meaning_runs.proofs.Holders.{Grows, IsHolder}
use Rattle.meaning_runs.proofs.MadeGroups.{HasNoFaultUnder, group_class_of, IsWaitedForUnder, SavesWait, IsOver, MustWait, IsLive, IsSettled, is_over, is_saved, is_above, is_gone, is_live, IsActive, IsSeenOver, Nothing}
use Rattle.meaning_runs.proofs.MadeGroupsStand.{gone_grows}
use Rattle.meaning_runs.proofs.StoreGrowth.{same_frame, outside_grows}

-- on these promises the frame owes it that the group of this variable ends: it made it, or is to wait for it
pub data IsOwed (p : Program) (b : Body) (relies : Promises) (v : Variable) : Type 0 where
  of_made : HasNoFaultUnder p b relies → IsOwnGroup b v → IsOwed p b relies v
  of_wait : IsWaitedForUnder p b relies v → IsOwed p b relies v

module _ {p : Program} {b : Body} {relies : Promises} {v : Variable} where
  pub owed_taken_up : IsOwed p b relies v → AreTakenUp p b relies
  owed_taken_up (of_made none own) = none.are_taken_up
  owed_taken_up (of_wait w) = w.are_taken_up

  pub owed_there : IsOwed p b relies v → Contains (variables_in b) v × (v.kind ≡ group)
  owed_there (of_made none own) = (own.is_of_body, own.is_group_variable)
  owed_there (of_wait w) = (w.waits_for.is_of_body, w.waits_for.is_group_variable)

-- how a frame is behind an act, with what is remembered of its events
pub record Onward : Type 0 where
  pub events : List (Occurrence Event)
  pub stage : Stage
  pub newest : ℕ → Option ℕ
  pub waiting : Option Passing
  pub saved : List Saved
  pub obtained : List ℕ
  pub made : List ℕ
  pub handed_on : List Value

abbrev pub frame_on : Frame → Onward → Frame
frame_on f n = record f {
  stage = n.stage;
  newest = n.newest;
  waiting = n.waiting;
  saved = n.saved;
  obtained = n.obtained;
  made = n.made;
  handed_on = n.handed_on;
}

abbrev pub past_on : Past → Onward → Past
past_on q n = record q { events = n.events }

-- the frame at the place owes it that the group ends, which the frame at that height of its goroutine made: it made it
-- itself, or is to wait for it
abbrev pub OwesEnd : Place → Past → Frame → ℕ → ℕ → Type 0
OwesEnd place q f a m = Contains f.made a ⊎ ((m < place.1) × MustWait f.body q.lent a)

-- a lower place of the same goroutine is another one
pub not_lower : (place : Place) (m : ℕ) → m < place.1 → frame_at place ≡ frame_at (place.0, m) → ⊥
not_lower place m l e = let same : place.1 ≡ m = ap (λ (x : ℕ × ℕ). x.1) (same_frame place (place.0, m) e) in omega (arith, same, l)

module _ (p : Program) (at : Maker) (o after_o : Origins) (s after : Store) (place : Place) (q : Past) (f : Frame) (may must : ℕ → Type 0) (n : Onward) where
  abbrev pub SettledOn : Promises → Variable → ℕ → Type 0
  SettledOn relies v a = IsSettled relies after_o after may must (past_on q n) (frame_on f n) v a

  abbrev pub MadeOn : Promises → ℕ → Type 0
  MadeOn relies a = (v : Variable) × IsOwnGroup f.body v × SettledOn relies v a

  -- the frame stands so, where it was the running one
  pub record KeepsGroups : Type 0 where
    pub grows : Grows at o after_o s after
    pub made_before : (a m : ℕ) → after.maker a ≡ frame_at (place.0, m) → m < place.1 → s.maker a ≡ frame_at (place.0, m)
    pub made : (a : ℕ) → Contains n.made a
        → Contains f.made a ⊎ ((relies : Promises) → HasNoFaultUnder p f.body relies → MadeOn relies a)
    -- what was over still is, or the frame settles it anew
    pub over : (a m : ℕ) → s.maker a ≡ frame_at (place.0, m)
        → m ≤ place.1
        → OwesEnd place q f a m
        → IsOver s Nothing a
        → IsOver after may a ⊎ (Contains f.made a × ((relies : Promises) → HasNoFaultUnder p f.body relies → MadeOn relies a))
    pub saved : (relies : Promises) (v : Variable) (a m : ℕ) (x : Saved) → s.maker a ≡ frame_at (place.0, m)
        → Contains f.saved x
        → SavesWait o s a x
        → SettledOn relies v a
    pub lives : (relies : Promises) (v : Variable) (a m : ℕ) → s.maker a ≡ frame_at (place.0, m)
        → IsOwed p f.body relies v
        → IsLive relies s q f v a
        → SettledOn relies v a
    pub awaits : (relies : Promises) (c : Code Event) (v : Variable) (a : ℕ) → AreTakenUp p f.body relies
        → Contains (variables_in f.body) v
        → v.kind ≡ group
        → n.stage ≡ runs c
        → group_class_of relies v n.events ≡ awaited
        → held_group after (frame_on f n) v.number ≡ Some a
        → (x : Saved) × Contains n.saved x × SavesWait after_o after a x
    pub lent_active : (relies : Promises) (passing : Passing) (y : Lent) (a : ℕ) → HasNoFaultUnder p f.body relies
        → n.waiting ≡ Some passing
        → Contains passing.lent y
        → y.group ≡ Some a
        → Contains n.made a
        → (v : Variable) × IsOwnGroup f.body v × IsActive relies after_o after (past_on q n) (frame_on f n) v a
    pub unmade_yet : (relies : Promises) (v : Variable) → IsOwnGroup f.body v
        → group_class_of relies v n.events ≡ unmade
        → held_group after (frame_on f n) v.number ≡ None

  module _ (it : IsHolder p o s place q f) (seen : IsSeenOver p o s place Nothing Nothing q f) (keeps : KeepsGroups) where
    made_now : (relies : Promises) (v : Variable) (a : ℕ) → HasNoFaultUnder p f.body relies
        → Contains f.made a
        → IsOwnGroup f.body v
        → IsSettled relies o s Nothing Nothing q f v a
        → MadeOn relies a
    made_now relies v a none c own (is_over h) =
        elim (keeps.over a place.1 (it.made a c) (omega arith) (inl c) h) [ inl x ↦ (v, own, is_over x) | inr x ↦ x.1 relies none ]
    made_now relies v a none c own (is_saved x i w) = (v, own, keeps.saved relies v a place.1 x (it.made a c) i w)
    made_now relies v a none c own (is_above h) = absurd h
    made_now relies v a none c own (is_gone h) = (v, own, is_gone (gone_grows keeps.grows a h))
    made_now relies v a none c own (is_live h) = (v, own, keeps.lives relies v a place.1 (it.made a c) (of_made none own) h)

    waits_now : (relies : Promises) (v : Variable) (a m : ℕ) → IsWaitedForUnder p f.body relies v
        → q.lent v.number ≡ Some a
        → s.maker a ≡ frame_at (place.0, m)
        → m < place.1
        → IsSettled relies o s Nothing Nothing q f v a
        → SettledOn relies v a
    waits_now relies v a m w lent e l (is_over h) = elim (keeps.over a m e (omega (arith, l)) (inr (l, (v, w.waits_for, lent))) h) [
      | inl x ↦ is_over x
      | inr x ↦ absurd (not_lower place m l (sym (it.made a x.0) ∙ e))
    ]
    waits_now relies v a m w lent e l (is_saved x i h) = keeps.saved relies v a m x e i h
    waits_now relies v a m w lent e l (is_above h) = absurd h
    waits_now relies v a m w lent e l (is_gone h) = is_gone (gone_grows keeps.grows a h)
    waits_now relies v a m w lent e l (is_live h) = keeps.lives relies v a m e (of_wait w) h

    pub seen_goes : IsSeenOver p after_o after place may must (past_on q n) (frame_on f n)
    seen_goes = record {
      made = λ relies a none c. elim (keeps.made a c) [
        | inl was ↦ (let r = seen.made relies a none was in made_now relies r.0 a none was r.1 r.2)
        | inr x ↦ x relies none
      ];
      waits = λ relies v a m w e made l. let was = keeps.made_before a m made l in
          waits_now relies v a m w e was l (seen.waits relies v a m w e was l);
      apart = λ v a b w e lent. outside_grows at o after_o s after keeps.grows b (seen.apart v a b w e lent);
      awaits = keeps.awaits;
      lent_active = keeps.lent_active;
      unmade_yet = keeps.unmade_yet;
    }
