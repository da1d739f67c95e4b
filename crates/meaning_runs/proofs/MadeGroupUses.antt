-- Each event of a running frame that binds nothing, and starts no work: what is said of the frame's groups is kept.
use Rattle.std.proofs.Common.{◌≡◌, ℕ, ◌<◌, ◌≤◌, ◌⊎◌, inl, inr, true, false, cond, List, ◌∷◌, Option, Some, None, Contains, refl, sym, ap, ◌∙◌, subst}
use Rattle.std.specs.Prelude.{◌==◌}
use Rattle.std.proofs.lemmas.Bool.{cases_eq, cases_Bool}
use Rattle.std.proofs.lemmas.Option.{none-some, same_Some}
use Rattle.meaning.specs.Code.{Code}
use Rattle.meaning.specs.FunctionFacts.{group}
use Rattle.meaning.specs.Tracked.{live}
use Rattle.meaning.specs.Uses.{Event, try, wait, defer_wait, defer_literal, Work, go_literal, go}
use Rattle.meaning.specs.BodyEvents.{Variable}
use Rattle.meaning.specs.Classes.{Promises, GroupClass, in_state, awaited, change_group, at_rest}
use Rattle.meaning.proofs.Membership.{contains_here, contains_there}
use Rattle.meaning_runs.specs.Bodies.{Program, Body, variables_in, IsLiteralIn}
use Rattle.meaning_runs.specs.World.{nobody, frame_at, Place, Store, ending, HasNoMember, MayEndWait, waiting_for, Passing, Closure, Saved, saved_literal, saved_wait, runs, Frame, held_group}
use Rattle.meaning_runs.specs.Steps.{DoesNext}
use Rattle.meaning_runs.specs.Duties.{AreTakenUp, IsWaitingFor}
use Rattle.meaning_runs.proofs.WhoStarts.{BodiesAreWellUsed}
use Rattle.meaning_runs.proofs.Remembered.{Origins, Past, behind}
use Rattle.meaning_runs.proofs.Holders.{Grows, IsHolder}
use Rattle.meaning_runs.proofs.HolderSteps.{captured_is_frozen, held_in}
use Rattle.meaning_runs.proofs.OwnNumbers.{wait_is_captured}
use Rattle.meaning_runs.proofs.MadeGroups.{group_class_of, SavesWait, by_wait, by_literal, IsOver, IsLive, is_over, is_saved, is_live, IsSeenOver, Nothing, IsGone, is_gone}
use Rattle.meaning_runs.proofs.StoreGrowth.{ChangesContexts, no_change, waiting_changes, contexts_grow}
use Rattle.meaning_runs.proofs.GroupClasses.{work_live, work_awaited, work_unmade, rest_awaited, rest_unmade, wait_unmade, named_otherwise}
use Rattle.meaning_runs.proofs.MadeGroupFrames.{owed_taken_up, owed_there}
use Rattle.meaning_runs.proofs.MadeGroupEvents.{over_stays, Settled, seen_behind, live_still, awaited_still}

-- Where a Wait ends

ended_now : (s : Store) (context : Option ℕ) (a : ℕ) → context ≡ Some a → Contains (ending s context).ended a
ended_now s None a e = absurd (none-some a e)
ended_now s (Some b) a e = subst (λ c. Contains (b ∷ s.ended) c) (same_Some b a e) (contains_here b s.ended)

pub waited_over : (s : Store) (group : Option ℕ) (a : ℕ) → MayEndWait s group → group ≡ Some a → IsOver (waiting_for s group) Nothing a
waited_over s None a ends e = absurd (none-some a e)
waited_over s (Some b) a ends e =
    let changes = waiting_changes s (Some b) in
    subst (λ c. IsOver (waiting_for s (Some b)) Nothing c) (same_Some b a e) record {
      has_no_member = λ g m. ends g (sym (ap (λ (x : ℕ → Option ℕ). x g) changes.same_member) ∙ m);
      has_ended = λ context c. ended_now s (s.group_context b) context
          (sym (ap (λ (x : ℕ → Option ℕ). x b) changes.same_group_context) ∙ c);
      is_untouched = λ x. x;
    }

module _ {p : Program} {o : Origins} {s : Store} {place : Place} {q : Past} {f : Frame}
    (it : IsHolder p o s place q f) (seen : IsSeenOver p o s place Nothing Nothing q f) where
  -- where contexts alone change
  module _ {after : Store} (changes : ChangesContexts s after) where
    abbrev pub grown : Grows nobody o o s after
    grown = contexts_grow nobody o s after changes

    pub none_joins : (a : ℕ) → HasNoMember s a → HasNoMember after a
    none_joins a none g e = none g (sym (ap (λ (m : ℕ → Option ℕ). m g) changes.same_member) ∙ e)

    pub made_as_before : (a m : ℕ) → after.maker a ≡ frame_at (place.0, m) → m < place.1 → s.maker a ≡ frame_at (place.0, m)
    made_as_before a m e l = sym (ap (λ (x : ℕ → _). x a) changes.same_maker) ∙ e

    pub over_as_before : (a m : ℕ) → s.maker a ≡ frame_at (place.0, m) → m ≤ place.1 → IsOver s Nothing a → IsOver after Nothing a
    over_as_before = over_stays it seen grown Nothing none_joins (λ a m e l x. x)

  pub no_call : (w : Option Passing) → f.waiting ≡ None → {A : Type 0} → (passing : Passing) → f.waiting ≡ Some passing → A
  no_call w none passing e = absurd (none-some passing (sym none ∙ e))

  -- an event that does nothing to groups
  pub seen_plain : {after : Store} (changes : ChangesContexts s after) {e : Event} {rest : Code Event} (d : DoesNext f e rest) (saved : List Saved)
      → ((x : Saved) → Contains f.saved x → Contains saved x)
      → ((relies : Promises) (v : ℕ) (k : GroupClass) → change_group relies v e k ≡ k)
      → IsSeenOver p o after place Nothing Nothing (behind q d.comes_to) (record f { stage = runs rest; saved = saved })
  seen_plain changes d saved more plain = seen_behind it seen (grown changes) d.comes_to Nothing Nothing f.waiting saved record {
    made_before = made_as_before changes;
    keeps_saved = more;
    over = λ a m e l owes h. inl (over_as_before changes a m e l h);
    lives = λ relies v a owed l. is_live (live_still it seen (grown changes) d.comes_to Nothing Nothing f.waiting saved relies v a (plain relies v.number (in_state live)) l);
    awaits = λ relies v a up among kind class held.
        awaited_still it seen (grown changes) d.comes_to Nothing Nothing f.waiting saved more relies v a up among kind (sym (plain relies v.number (group_class_of relies v q.events)) ∙ class) held;
    lent_active = λ relies passing y a none w c g made. no_call f.waiting d.none_waits passing w;
    was_unmade = λ relies v k e. sym (plain relies v k) ∙ e;
  }

  -- `TryGo` does nothing
  pub seen_trying : {v : ℕ} {literal : Option ℕ} {rest : Code Event} (d : DoesNext f (try v literal) rest)
      → IsSeenOver p o s place Nothing Nothing (behind q d.comes_to) (record f { stage = runs rest })
  seen_trying {v} {literal} d = let changes = no_change s in seen_behind it seen (grown changes) d.comes_to Nothing Nothing f.waiting f.saved record {
    made_before = made_as_before changes;
    keeps_saved = λ x c. c;
    over = λ a m e l owes h. inl h;
    lives = λ relies u a owed l. is_live (live_still it seen (grown changes) d.comes_to Nothing Nothing f.waiting f.saved relies u a (work_live (v == u.number) (in_state live) refl) l);
    awaits = λ relies u a up among kind class held.
        awaited_still it seen (grown changes) d.comes_to Nothing Nothing f.waiting f.saved (λ x c. c) relies u a up among kind (work_awaited (v == u.number) (group_class_of relies u q.events) class) held;
    lent_active = λ relies passing y a none w c g made. no_call f.waiting d.none_waits passing w;
    was_unmade = λ relies u k e. work_unmade (v == u) k e;
  }

  -- a Wait ends
  pub seen_waiting : {v : ℕ} {rest : Code Event} (d : DoesNext f (wait v) rest)
      → MayEndWait s (held_group s f v)
      → IsSeenOver p o (waiting_for s (held_group s f v)) place Nothing Nothing (behind q d.comes_to) (record f { stage = runs rest })
  seen_waiting {v} {rest} d ends = seen_behind it seen (grown changes) d.comes_to Nothing Nothing f.waiting f.saved record {
    made_before = made_as_before changes;
    keeps_saved = λ x c. c;
    over = λ a m e l owes h. inl (over_as_before changes a m e l h);
    lives = λ relies u a owed l. by_number relies u a l (cases_eq v u.number);
    awaits = λ relies u a up among kind class held.
        awaited_still it seen (grown changes) d.comes_to Nothing Nothing f.waiting f.saved (λ x c. c) relies u a up among kind (rest_awaited (v == u.number) (group_class_of relies u q.events) class) held;
    lent_active = λ relies passing y a none w c g made. no_call f.waiting d.none_waits passing w;
    was_unmade = λ relies u k e. rest_unmade (v == u) k e;
  }
    where
      changes : ChangesContexts s (waiting_for s (held_group s f v))
      changes = waiting_changes s (held_group s f v)

      by_number : (relies : Promises) (u : Variable) (a : ℕ) → IsLive relies s q f u a
          → (v ≡ u.number) ⊎ (v ≡ u.number → ⊥)
          → Settled it seen (grown changes) d.comes_to Nothing Nothing f.waiting f.saved relies u a
      by_number relies u a l (inl same) =
          is_over (waited_over s (held_group s f v) a ends (ap (held_group s f) same ∙ l.is_held))
      by_number relies u a l (inr ne) =
          is_live (live_still it seen (grown changes) d.comes_to Nothing Nothing f.waiting f.saved relies u a (named_otherwise v u.number (at_rest (in_state live)) (in_state live) ne) l)

  -- a Wait is saved
  module _ {v : ℕ} {rest : Code Event} (d : DoesNext f (defer_wait v) rest) where
    abbrev with_wait : List Saved
    with_wait = saved_wait (held_group s f v) ∷ f.saved

    wait_more : (x : Saved) → Contains f.saved x → Contains with_wait x
    wait_more x c = contains_there (saved_wait (held_group s f v)) x f.saved c

    wait_saved : (u a : ℕ) → v ≡ u → held_group s f u ≡ Some a → (x : Saved) × Contains with_wait x × SavesWait o s a x
    wait_saved u a same h =
        (saved_wait (held_group s f v), contains_here (saved_wait (held_group s f v)) f.saved, by_wait (ap (held_group s f) same ∙ h))

    wait_settles : (relies : Promises) (u : Variable) (a : ℕ) → IsLive relies s q f u a
        → (v ≡ u.number) ⊎ (v ≡ u.number → ⊥)
        → Settled it seen (grown (no_change s)) d.comes_to Nothing Nothing f.waiting with_wait relies u a
    wait_settles relies u a l (inl same) = let r = wait_saved u.number a same l.is_held in is_saved r.0 r.1 r.2
    wait_settles relies u a l (inr ne) =
        is_live (live_still it seen (grown (no_change s)) d.comes_to Nothing Nothing f.waiting with_wait relies u a
        (named_otherwise v u.number awaited (in_state live) ne) l)

    wait_awaits : (relies : Promises) (u : Variable) (a : ℕ) → AreTakenUp p f.body relies
        → Contains (variables_in f.body) u
        → u.kind ≡ group
        → cond (v == u.number) awaited (group_class_of relies u q.events) ≡ awaited
        → held_group s f u.number ≡ Some a
        → (v ≡ u.number) ⊎ (v ≡ u.number → ⊥)
        → (x : Saved) × Contains with_wait x × SavesWait o s a x
    wait_awaits relies u a up among kind class held (inl same) = wait_saved u.number a same held
    wait_awaits relies u a up among kind class held (inr ne) =
        awaited_still it seen (grown (no_change s)) d.comes_to Nothing Nothing f.waiting with_wait wait_more relies u a up
        among kind (sym (named_otherwise v u.number awaited (group_class_of relies u q.events) ne) ∙ class) held

    pub seen_saving_wait : IsSeenOver p o s place Nothing Nothing (behind q d.comes_to) (record f { stage = runs rest; saved = with_wait })
    seen_saving_wait = let changes = no_change s in seen_behind it seen (grown changes) d.comes_to Nothing Nothing f.waiting with_wait record {
      made_before = made_as_before changes;
      keeps_saved = wait_more;
      over = λ a m e l owes h. inl h;
      lives = λ relies u a owed l. wait_settles relies u a l (cases_eq v u.number);
      awaits = λ relies u a up among kind class held. wait_awaits relies u a up among kind class held (cases_eq v u.number);
      lent_active = λ relies passing y a none w c g made. no_call f.waiting d.none_waits passing w;
      was_unmade = λ relies u k e. wait_unmade (v == u) k e;
    }

  -- a goroutine is started, in a store with the same members
  module _ {after_o : Origins} {after : Store} (grows : Grows nobody o after_o s after)
      (members : (a : ℕ) → HasNoMember s a → HasNoMember after a)
      (makers : (a : ℕ) (r : Place) → after.maker a ≡ frame_at r → s.maker a ≡ frame_at r) where
    over_going : (a m : ℕ) → s.maker a ≡ frame_at (place.0, m) → m ≤ place.1 → IsOver s Nothing a → IsOver after Nothing a
    over_going = over_stays it seen grows Nothing members (λ a m e l x. x)

    -- by an event that does nothing to groups
    pub seen_going : {work : Work} {rest : Code Event} (d : DoesNext f (go work) rest)
        → ((relies : Promises) (v : ℕ) (k : GroupClass) → change_group relies v (go work) k ≡ k)
        → IsSeenOver p after_o after place Nothing Nothing (behind q d.comes_to) (record f { stage = runs rest })
    seen_going d plain = seen_behind it seen grows d.comes_to Nothing Nothing f.waiting f.saved record {
      made_before = λ a m e l. makers a (place.0, m) e;
      keeps_saved = λ x c. c;
      over = λ a m e l owes h. inl (over_going a m e l h);
      lives = λ relies v a owed l. is_live (live_still it seen grows d.comes_to Nothing Nothing f.waiting f.saved relies v a
          (plain relies v.number (in_state live)) l);
      awaits = λ relies v a up among kind class held.
          awaited_still it seen grows d.comes_to Nothing Nothing f.waiting f.saved (λ x c. c) relies v a up among kind
          (sym (plain relies v.number (group_class_of relies v q.events)) ∙ class) held;
      lent_active = λ relies passing y a none w c g made. no_call f.waiting d.none_waits passing w;
      was_unmade = λ relies v k e. sym (plain relies v k) ∙ e;
    }

    -- with a literal, which is known to wait for what is credited to it
    pub seen_going_literal : {at : ℕ} {rest : Code Event} (b : Body) (d : DoesNext f (go (go_literal at)) rest)
        → IsLiteralIn f.body b
        → b.place.at ≡ at
        → ((u : Variable) (a : ℕ) → IsWaitingFor b u → held_group s f u.number ≡ Some a → IsGone after_o a)
        → IsSeenOver p after_o after place Nothing Nothing (behind q d.comes_to) (record f { stage = runs rest })
    seen_going_literal {at} b d is_in is_at waits = seen_behind it seen grows d.comes_to Nothing Nothing f.waiting f.saved record {
      made_before = λ a m e l. makers a (place.0, m) e;
      keeps_saved = λ x c. c;
      over = λ a m e l owes h. inl (over_going a m e l h);
      lives = λ relies u a owed l.
          let there = owed_there owed in
          settles relies u a (owed_taken_up owed) there.0 there.1 l (cases_Bool (relies.credits at u.number));
      awaits = λ relies u a up among kind class held.
          awaited_still it seen grows d.comes_to Nothing Nothing f.waiting f.saved (λ x c. c) relies u a up among kind
          (rest_awaited (relies.credits at u.number) (group_class_of relies u q.events) class) held;
      lent_active = λ relies passing y a none w c g made. no_call f.waiting d.none_waits passing w;
      was_unmade = λ relies u k e. rest_unmade (relies.credits at u) k e;
    }
      where
        settles : (relies : Promises) (u : Variable) (a : ℕ) → AreTakenUp p f.body relies
            → Contains (variables_in f.body) u
            → u.kind ≡ group
            → IsLive relies s q f u a
            → (relies.credits at u.number ≡ true) ⊎ (relies.credits at u.number ≡ false)
            → Settled it seen grows d.comes_to Nothing Nothing f.waiting f.saved relies u a
        settles relies u a up among kind l (inl credited) =
            let w = up.waits u b among kind is_in (ap (λ n. relies.credits n u.number) is_at ∙ credited) in
            is_gone (waits w.0 a w.1 (ap (held_group s f) w.2 ∙ l.is_held))
        settles relies u a up among kind l (inr none) =
            is_live (live_still it seen grows d.comes_to Nothing Nothing f.waiting f.saved relies u a
            (ap (λ c. cond c (at_rest (in_state live)) (in_state live)) none) l)

  -- a deferred literal is saved, which is known to wait for what is credited to it
  module _ (used : BodiesAreWellUsed p) {at : ℕ} {rest : Code Event} (b : Body) (d : DoesNext f (defer_literal at) rest)
      (is_in : IsLiteralIn f.body b) (is_at : b.place.at ≡ at) where
    abbrev closure : Closure
    closure = record { literal = b; newest = f.newest }

    abbrev with_literal : List Saved
    with_literal = saved_literal closure ∷ f.saved

    literal_more : (x : Saved) → Contains f.saved x → Contains with_literal x
    literal_more x c = contains_there (saved_literal closure) x f.saved c

    literal_saved : (relies : Promises) (u : Variable) (a : ℕ) → AreTakenUp p f.body relies
        → Contains (variables_in f.body) u
        → u.kind ≡ group
        → relies.credits at u.number ≡ true
        → held_group s f u.number ≡ Some a
        → (x : Saved) × Contains with_literal x × SavesWait o s a x
    literal_saved relies u a up among kind credited held =
        let w = up.waits u b among kind is_in (ap (λ n. relies.credits n u.number) is_at ∙ credited) in
        let r = held_in s w.0.number a (f.newest w.0.number) (ap (held_group s f) w.2 ∙ held) in
        let frozen = captured_is_frozen p used o s place q f it b is_in w.0.number r.0 r.1 (wait_is_captured b w.0 w.1) in (
          saved_literal closure,
          contains_here (saved_literal closure) f.saved,
          by_literal closure w.0 r.0 w.1 r.1 (it.cells_in w.0.number r.0 r.1) frozen r.2,
        )

    literal_settles : (relies : Promises) (u : Variable) (a : ℕ) → AreTakenUp p f.body relies
        → Contains (variables_in f.body) u
        → u.kind ≡ group
        → IsLive relies s q f u a
        → (relies.credits at u.number ≡ true) ⊎ (relies.credits at u.number ≡ false)
        → Settled it seen (grown (no_change s)) d.comes_to Nothing Nothing f.waiting with_literal relies u a
    literal_settles relies u a up among kind l (inl credited) =
        let r = literal_saved relies u a up among kind credited l.is_held in is_saved r.0 r.1 r.2
    literal_settles relies u a up among kind l (inr not_credited) =
        is_live (live_still it seen (grown (no_change s)) d.comes_to Nothing Nothing f.waiting with_literal relies u a
        (ap (λ c. cond c awaited (in_state live)) not_credited) l)

    literal_awaits : (relies : Promises) (u : Variable) (a : ℕ) → AreTakenUp p f.body relies
        → Contains (variables_in f.body) u
        → u.kind ≡ group
        → cond (relies.credits at u.number) awaited (group_class_of relies u q.events) ≡ awaited
        → held_group s f u.number ≡ Some a
        → (relies.credits at u.number ≡ true) ⊎ (relies.credits at u.number ≡ false)
        → (x : Saved) × Contains with_literal x × SavesWait o s a x
    literal_awaits relies u a up among kind class held (inl credited) = literal_saved relies u a up among kind credited held
    literal_awaits relies u a up among kind class held (inr not_credited) =
        awaited_still it seen (grown (no_change s)) d.comes_to Nothing Nothing f.waiting with_literal literal_more relies u a up
        among kind (sym (ap (λ c. cond c awaited (group_class_of relies u q.events)) not_credited) ∙ class) held

    pub seen_saving_literal : IsSeenOver p o s place Nothing Nothing (behind q d.comes_to) (record f { stage = runs rest; saved = with_literal })
    seen_saving_literal = let changes = no_change s in seen_behind it seen (grown changes) d.comes_to Nothing Nothing f.waiting with_literal record {
      made_before = made_as_before changes;
      keeps_saved = literal_more;
      over = λ a m e l owes h. inl h;
      lives = λ relies u a owed l.
          let there = owed_there owed in
          literal_settles relies u a (owed_taken_up owed) there.0 there.1 l (cases_Bool (relies.credits at u.number));
      awaits = λ relies u a up among kind class held.
          literal_awaits relies u a up among kind class held (cases_Bool (relies.credits at u.number));
      lent_active = λ relies passing y a none w c g made. no_call f.waiting d.none_waits passing w;
      was_unmade = λ relies u k e. wait_unmade (relies.credits at u) k e;
    }
