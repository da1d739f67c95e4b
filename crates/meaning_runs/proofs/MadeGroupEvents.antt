-- Events that bind nothing keep what is said of the groups of the running frame.
use Rattle.std.proofs.Common.{◌≡◌, ℕ, ◌<◌, ◌≤◌, ◌⊎◌, inl, cond, List, Option, Some, Contains, refl, sym, ap, ◌∙◌}
use Rattle.std.specs.Prelude.{◌==◌}
use Rattle.std.proofs.lemmas.Option.{none-some}
use Rattle.meaning.specs.Code.{Code}
use Rattle.meaning.specs.FunctionFacts.{group}
use Rattle.meaning.specs.Tracked.{idle, live}
use Rattle.meaning.specs.Uses.{Event}
use Rattle.meaning.specs.BodyEvents.{Variable}
use Rattle.meaning.specs.Classes.{Promises, GroupClass, unmade, in_state, awaited, change_group, at_work}
use Rattle.meaning_runs.specs.Bodies.{Program, variables_in}
use Rattle.meaning_runs.specs.World.{nobody, frame_at, Place, Store, HasNoMember, Lent, Passing, Saved, Stage, runs, Frame, held_group}
use Rattle.meaning_runs.specs.Steps.{ComesTo}
use Rattle.meaning_runs.specs.Duties.{AreTakenUp}
use Rattle.meaning_runs.proofs.WhoStarts.{IsOwnGroup}
use Rattle.meaning_runs.proofs.Remembered.{Origins, Past, occurrence_of, behind}
use Rattle.meaning_runs.proofs.Holders.{Grows, IsHolder}
use Rattle.meaning_runs.proofs.HolderFrames.{still_holds}
use Rattle.meaning_runs.proofs.MadeGroups.{HasNoFaultUnder, group_class_of, SavesWait, IsOver, IsLive, is_saved, is_live, IsActive, active_saved, active_live, IsSeenOver, Nothing}
use Rattle.meaning_runs.proofs.StoreGrowth.{frame-nobody}
use Rattle.meaning_runs.proofs.GroupClasses.{group_next, named_so}
use Rattle.meaning_runs.proofs.MadeGroupsStand.{saves_grow, over_grows}
use Rattle.meaning_runs.proofs.MadeGroupFrames.{IsOwed, OwesEnd, Onward, frame_on, past_on, SettledOn, MadeOn, KeepsGroups, seen_goes}

module _ {p : Program} {o after_o : Origins} {s after : Store} {place : Place} {q : Past} {f : Frame}
    (it : IsHolder p o s place q f) (seen : IsSeenOver p o s place Nothing Nothing q f)
    (grows : Grows nobody o after_o s after) where
  -- the frame's variables hold what they held
  pub same_group : (v : ℕ) → held_group after f v ≡ held_group s f v
  same_group v = still_holds nobody o after_o s after grows p place q f (frame-nobody place) it v

  -- what was over is over, where no group gets a member, and frames above start no work in what was made here
  pub over_stays : (may : ℕ → Type 0)
      → ((a : ℕ) → HasNoMember s a → HasNoMember after a)
      → ((a m : ℕ) → s.maker a ≡ frame_at (place.0, m) → m ≤ place.1 → may a → ⊥)
      → (a m : ℕ)
      → s.maker a ≡ frame_at (place.0, m)
      → m ≤ place.1
      → IsOver s Nothing a
      → IsOver after may a
  over_stays may members free a m e l h = over_grows grows (place.0, m) Nothing may a e (members a) (λ x. free a m e l x) h

  -- No event

  module _ (may must : ℕ → Type 0) (stage : Stage) (waiting : Option Passing) (saved : List Saved) where
    -- the frame with its events as they were
    abbrev pub still : Onward
    still = record {
      events = q.events;
      stage = stage;
      newest = f.newest;
      waiting = waiting;
      saved = saved;
      obtained = f.obtained;
      made = f.made;
      handed_on = f.handed_on;
    }

    pub record StandsStill : Type 0 where
      pub runs_on : (c : Code Event) → f.stage ≡ runs c → (d : Code Event) × (stage ≡ runs d)
      pub ran_before : (c : Code Event) → stage ≡ runs c → (d : Code Event) × (f.stage ≡ runs d)
      pub keeps_saved : (c : Code Event) → stage ≡ runs c → (x : Saved) → Contains f.saved x → Contains saved x
      pub made_before : (a m : ℕ) → after.maker a ≡ frame_at (place.0, m) → m < place.1 → s.maker a ≡ frame_at (place.0, m)
      pub over : (a m : ℕ) → s.maker a ≡ frame_at (place.0, m)
          → m ≤ place.1
          → OwesEnd place q f a m
          → IsOver s Nothing a
          → IsOver after may a
          ⊎ (Contains f.made a × ((relies : Promises) → HasNoFaultUnder p f.body relies → MadeOn p nobody o after_o s after place q f may must still relies a))
      pub saves : (relies : Promises) (v : Variable) (a m : ℕ) (x : Saved) → s.maker a ≡ frame_at (place.0, m)
          → Contains f.saved x
          → SavesWait o s a x
          → SettledOn p nobody o after_o s after place q f may must still relies v a
      pub still_waits : (passing : Passing) → waiting ≡ Some passing → f.waiting ≡ Some passing

    module _ (h : StandsStill) where
      pub still_live : (relies : Promises) (v : Variable) (a : ℕ) → IsLive relies s q f v a
          → IsLive relies after (past_on q still) (frame_on f still) v a
      still_live relies v a l = let r = h.runs_on l.code l.stage in
          record { code = r.0; stage = r.1; is_live = l.is_live; is_held = same_group v.number ∙ l.is_held }

      still_active : ((c : Code Event) → stage ≡ runs c → (x : Saved) → Contains f.saved x → Contains saved x) → (relies : Promises) (v : Variable) (a : ℕ) → IsActive relies o s q f v a
          → (c : Code Event)
          → stage ≡ runs c
          → IsActive relies after_o after (past_on q still) (frame_on f still) v a
      still_active more relies v a (active_saved x i w) c e = active_saved x (more c e x i) (saves_grow grows a x w)
      still_active more relies v a (active_live l) c e = active_live (still_live relies v a l)

      pub still_keeps : ((passing : Passing) → waiting ≡ Some passing → (c : Code Event) × (stage ≡ runs c))
          → KeepsGroups p nobody o after_o s after place q f may must still
      still_keeps runs_then = record {
        grows = grows;
        made_before = h.made_before;
        made = λ a c. inl c;
        over = h.over;
        saved = h.saves;
        lives = λ relies v a m e owed l. is_live (still_live relies v a l);
        awaits = λ relies c v a up among kind stage class held.
            let r = h.ran_before c stage in
            let x = seen.awaits relies r.0 v a up among kind r.1 class (sym (same_group v.number) ∙ held) in
            (x.0, h.keeps_saved c stage x.0 x.1, saves_grow grows a x.0 x.2);
        lent_active = λ relies passing y a none w c e made.
            let r = runs_then passing w in
            let x = seen.lent_active relies passing y a none (h.still_waits passing w) c e made in
            (x.0, x.1, still_active h.keeps_saved relies x.0 a x.2 r.0 r.1);
        unmade_yet = λ relies v own class. same_group v.number ∙ seen.unmade_yet relies v own class;
      }

      pub seen_still : ((passing : Passing) → waiting ≡ Some passing → (c : Code Event) × (stage ≡ runs c))
          → IsSeenOver p after_o after place may must (past_on q still) (frame_on f still)
      seen_still runs_then =
          seen_goes p nobody o after_o s after place q f may must still it seen (still_keeps runs_then)

  -- An event

  module _ {e : Event} {rest : Code Event} (d : ComesTo f e rest) (may must : ℕ → Type 0) (waiting : Option Passing) (saved : List Saved) where
    abbrev pub next : Onward
    next = record {
      events = (behind q d).events;
      stage = runs rest;
      newest = f.newest;
      waiting = waiting;
      saved = saved;
      obtained = f.obtained;
      made = f.made;
      handed_on = f.handed_on;
    }

    abbrev pub Settled : Promises → Variable → ℕ → Type 0
    Settled relies v a = SettledOn p nobody o after_o s after place q f may must next relies v a

    -- what has to be said of the event
    pub record ChangesGroups : Type 0 where
      pub made_before : (a m : ℕ) → after.maker a ≡ frame_at (place.0, m) → m < place.1 → s.maker a ≡ frame_at (place.0, m)
      pub keeps_saved : (x : Saved) → Contains f.saved x → Contains saved x
      pub over : (a m : ℕ) → s.maker a ≡ frame_at (place.0, m)
          → m ≤ place.1
          → OwesEnd place q f a m
          → IsOver s Nothing a
          → IsOver after may a
          ⊎ (Contains f.made a × ((relies : Promises) → HasNoFaultUnder p f.body relies → MadeOn p nobody o after_o s after place q f may must next relies a))
      pub lives : (relies : Promises) (v : Variable) (a : ℕ) → IsOwed p f.body relies v
          → IsLive relies s q f v a
          → Settled relies v a
      pub awaits : (relies : Promises) (v : Variable) (a : ℕ) → AreTakenUp p f.body relies
          → Contains (variables_in f.body) v
          → v.kind ≡ group
          → change_group relies v.number e (group_class_of relies v q.events) ≡ awaited
          → held_group s f v.number ≡ Some a
          → (x : Saved) × Contains saved x × SavesWait after_o after a x
      pub lent_active : (relies : Promises) (passing : Passing) (y : Lent) (a : ℕ) → HasNoFaultUnder p f.body relies
          → waiting ≡ Some passing
          → Contains passing.lent y
          → y.group ≡ Some a
          → Contains f.made a
          → (v : Variable) × IsOwnGroup f.body v × IsActive relies after_o after (past_on q next) (frame_on f next) v a
      pub was_unmade : (relies : Promises) (v : ℕ) (k : GroupClass) → change_group relies v e k ≡ unmade → k ≡ unmade

    pub event_keeps : ChangesGroups → KeepsGroups p nobody o after_o s after place q f may must next
    event_keeps h = record {
      grows = grows;
      made_before = h.made_before;
      made = λ a c. inl c;
      over = h.over;
      saved = λ relies v a m x e c w. is_saved x (h.keeps_saved x c) (saves_grow grows a x w);
      lives = λ relies v a m e owed l. h.lives relies v a owed l;
      awaits = λ relies c v a up among kind stage class held.
          h.awaits relies v a up among kind (sym (group_next relies v q.events (occurrence_of d)) ∙ class)
          (sym (same_group v.number) ∙ held);
      lent_active = h.lent_active;
      unmade_yet = λ relies v own class. same_group v.number
          ∙ seen.unmade_yet relies v own (h.was_unmade relies v.number (group_class_of relies v q.events)
          (sym (group_next relies v q.events (occurrence_of d)) ∙ class));
    }

    pub seen_behind : ChangesGroups → IsSeenOver p after_o after place may must (past_on q next) (frame_on f next)
    seen_behind h = seen_goes p nobody o after_o s after place q f may must next it seen (event_keeps h)

    -- the variable is live behind the event
    pub live_next : (relies : Promises) (v : Variable) (a : ℕ)
        → change_group relies v.number e (group_class_of relies v q.events) ≡ in_state live
        → held_group s f v.number ≡ Some a
        → IsLive relies after (past_on q next) (frame_on f next) v a
    live_next relies v a class held = record {
      code = rest;
      stage = refl;
      is_live = group_next relies v q.events (occurrence_of d) ∙ class;
      is_held = same_group v.number ∙ held;
    }

    -- it was live, and the event changes no live class
    pub live_still : (relies : Promises) (v : Variable) (a : ℕ)
        → change_group relies v.number e (in_state live) ≡ in_state live
        → IsLive relies s q f v a
        → IsLive relies after (past_on q next) (frame_on f next) v a
    live_still relies v a stays l =
        live_next relies v a (ap (change_group relies v.number e) l.is_live ∙ stays) l.is_held

    pub active_next : ((x : Saved) → Contains f.saved x → Contains saved x)
        → (relies : Promises) (v : Variable) (a : ℕ)
        → change_group relies v.number e (in_state live) ≡ in_state live
        → IsActive relies o s q f v a
        → IsActive relies after_o after (past_on q next) (frame_on f next) v a
    active_next more relies v a stays (active_saved x c w) = active_saved x (more x c) (saves_grow grows a x w)
    active_next more relies v a stays (active_live l) = active_live (live_still relies v a stays l)

    work_begins : (relies : Promises) (v : ℕ) (w : Variable) → w.number ≡ v
        → ((k : GroupClass) → change_group relies w.number e k ≡ cond (v == w.number) (at_work k) k)
        → (k : GroupClass)
        → group_class_of relies w q.events ≡ k
        → at_work k ≡ in_state live
        → change_group relies w.number e (group_class_of relies w q.events) ≡ in_state live
    work_begins relies v w same change k class begins =
        let before = group_class_of relies w q.events in
        change before ∙ named_so v w.number (at_work before) before (sym same) ∙ ap at_work class ∙ begins

    -- it was awaited already
    pub awaited_still : ((x : Saved) → Contains f.saved x → Contains saved x)
        → (relies : Promises) (v : Variable) (a : ℕ)
        → AreTakenUp p f.body relies
        → Contains (variables_in f.body) v
        → v.kind ≡ group
        → group_class_of relies v q.events ≡ awaited
        → held_group s f v.number ≡ Some a
        → (x : Saved) × Contains saved x × SavesWait after_o after a x
    awaited_still more relies v a up among kind class held =
        let r = seen.awaits relies d.goes_on.code v a up among kind d.goes_on.stage class held in
        (r.0, more r.0 r.1, saves_grow grows a r.0 r.2)

    -- work may be started in a group of the frame's own, and the group is active behind that
    pub works_now : ((x : Saved) → Contains f.saved x → Contains saved x)
        → (relies : Promises) (v : ℕ) (w : Variable) (a : ℕ)
        → AreTakenUp p f.body relies
        → IsOwnGroup f.body w
        → w.number ≡ v
        → ((k : GroupClass) → change_group relies w.number e k ≡ cond (v == w.number) (at_work k) k)
        → held_group s f w.number ≡ Some a
        → (k : GroupClass)
        → group_class_of relies w q.events ≡ k
        → IsActive relies after_o after (past_on q next) (frame_on f next) w a
    works_now more relies v w a up own same change held unmade class =
        absurd (none-some a (sym (seen.unmade_yet relies w own class) ∙ held))
    works_now more relies v w a up own same change held (in_state idle) class =
        active_live (live_next relies w a (work_begins relies v w same change (in_state idle) class refl) held)
    works_now more relies v w a up own same change held (in_state live) class =
        active_live (live_next relies w a (work_begins relies v w same change (in_state live) class refl) held)
    works_now more relies v w a up own same change held awaited class =
        let r = awaited_still more relies w a up own.is_of_body own.is_group_variable class held in
        active_saved r.0 r.1 r.2
