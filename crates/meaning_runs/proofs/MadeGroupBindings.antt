-- Where a running frame binds a variable, what is said of its groups is kept: a cancel variable holds no group, and a
-- group is made anew only where its variable is not live.
use Rattle.std.proofs.Common.{◌≡◌, ℕ, ◌<◌, ◌⊎◌, inl, inr, true, List, ◌∷◌, Option, Some, None, Contains, refl, sym, ap, ◌∙◌, subst, arith}
use Rattle.std.proofs.lemmas.Bool.{cases_eq, false≢true}
use Rattle.std.proofs.lemmas.Option.{none-some, same_Some}
use Rattle.meaning.specs.FunctionFacts.{group}
use Rattle.meaning.specs.Code.{Code}
use Rattle.meaning.specs.Tracked.{GroupState, live, Local}
use Rattle.meaning.specs.Uses.{VariableAt, Event, make, found, tracked_kind}
use Rattle.meaning.specs.BodyEvents.{Variable, captured}
use Rattle.meaning.specs.Classes.{Promises, GroupClass, unmade, in_state, awaited, change_group}
use Rattle.meaning.proofs.Membership.{contains_cases}
use Rattle.meaning_packages.specs.PathFaults.{BindsCancel, obtains, obtains_into, clears, is_declared, loses_group}
use Rattle.meaning_runs.specs.Bodies.{Program, Body, variables_in}
use Rattle.meaning_runs.specs.World.{Value, frame_at, Place, Store, put_at, with_group, runs, Frame, group_in_cell, held_group, bound_cell, binding, binding_group, binds}
use Rattle.meaning_runs.specs.Steps.{DoesNext, Makes, zero_group, with_context}
use Rattle.meaning_runs.proofs.Captured.{of_variable}
use Rattle.meaning_runs.proofs.Contexts.{put_at-same, put_at-other}
use Rattle.meaning_runs.proofs.GivenValues.{same_role}
use Rattle.meaning_runs.proofs.OwnBindings.{BindsItsOwn}
use Rattle.meaning_runs.proofs.WhoStarts.{IsOwnGroup, BodiesAreWellUsed}
use Rattle.meaning_runs.proofs.Remembered.{Origins, Past, occurrence_of, behind}
use Rattle.meaning_runs.proofs.Holders.{Grows, IsKnown, IsHolder}
use Rattle.meaning_runs.proofs.HolderFrames.{reached}
use Rattle.meaning_runs.proofs.HolderSteps.{making_changes}
use Rattle.meaning_runs.proofs.MadeGroups.{HasNoFaultUnder, group_class_of, IsOver, is_over, is_saved, is_live, IsLive, IsSeenOver, Nothing}
use Rattle.meaning_runs.proofs.StoreGrowth.{ChangesContexts, put_in, put_here}
use Rattle.meaning_runs.proofs.GroupClasses.{group_next, state≢awaited, state≢unmade, cancel≢group, named_so, named_otherwise}
use Rattle.meaning_runs.proofs.MadeGroupsStand.{saves_grow, over_grows}
use Rattle.meaning_runs.proofs.MadeGroupFrames.{IsOwed, of_made, of_wait, owed_there, Onward, frame_on, MadeOn, SettledOn, seen_goes}
use Rattle.meaning_runs.proofs.MadeGroupUses.{no_call}

-- two variables of a body with one number have one kind
one_kind : (b : Body) (u v : Variable) → Contains (variables_in b) u → Contains (variables_in b) v → u.number ≡ v.number → u.kind ≡ v.kind
one_kind b u v c d e =
    let x = of_variable b.file b.place.at u c in
    let y = of_variable b.file b.place.at v d in
    let same : x.0 ≡ y.0 = same_Some x.0 y.0 (sym x.1 ∙ ap (λ n. found b.file (Some n)) e ∙ y.1) in
    same_Some u.kind v.kind (sym x.4 ∙ ap (λ (l : Local). tracked_kind b.file (Some l)) same ∙ y.4)

-- what the body declares it does not capture
declared_is_not_captured : (b : Body) (u v : Variable) → Contains (variables_in b) u → Contains (variables_in b) v
    → u.number ≡ v.number
    → is_declared u.role ≡ true
    → v.role ≡ captured
    → ⊥
declared_is_not_captured b u v c d e declared role =
    false≢true (sym (ap is_declared (same_role b u v c d e ∙ role)) ∙ declared)

-- what a variable holds in the newest cells, where another one was bound
pub held_else : (s after : Store) (f : Frame) (u k v : ℕ) → ((j : ℕ) → after.holds j v ≡ s.holds j v) → (v ≡ u → ⊥)
    → group_in_cell after v (put_at f.newest u (Some k) v) ≡ held_group s f v
held_else s after f u k v same ne = ap (group_in_cell after v) (put_at-other f.newest u (Some k) v ne) ∙ as_before (f.newest v)
  where
    as_before : (c : Option ℕ) → group_in_cell after v c ≡ group_in_cell s v c
    as_before None = refl
    as_before (Some j) = same j

module _ {p : Program} {o after_o : Origins} {s after : Store} {place : Place} {q : Past} {f : Frame}
    (it : IsHolder p o s place q f) (seen : IsSeenOver p o s place Nothing Nothing q f)
    (grows : Grows (frame_at place) o after_o s after) {e : Event} {rest : Code Event} (d : DoesNext f e rest)
    (u : VariableAt) (k : ℕ) (obtained made : List ℕ) where
  abbrev pub bound : Onward
  bound = record {
    events = (behind q d.comes_to).events;
    stage = runs rest;
    newest = put_at f.newest u.number (Some k);
    waiting = f.waiting;
    saved = f.saved;
    obtained = obtained;
    made = made;
    handed_on = f.handed_on;
  }

  -- what has to be said of the binding
  pub record BindsGroups : Type 0 where
    pub same_member : (g : ℕ) → after.member g ≡ s.member g
    pub made_before : (a m : ℕ) → after.maker a ≡ frame_at (place.0, m) → m < place.1 → s.maker a ≡ frame_at (place.0, m)
    pub others_hold : (v : ℕ) → (v ≡ u.number → ⊥) → held_group after (frame_on f bound) v ≡ held_group s f v
    pub others_stay : (relies : Promises) (v : ℕ) (c : GroupClass) → (v ≡ u.number → ⊥) → change_group relies v e c ≡ c
    pub not_live : (relies : Promises) (v : Variable) → IsOwed p f.body relies v
        → v.number ≡ u.number
        → group_class_of relies v q.events ≡ in_state live
        → ⊥
    pub not_awaited : (relies : Promises) (v : Variable) → Contains (variables_in f.body) v
        → v.kind ≡ group
        → v.number ≡ u.number
        → change_group relies v.number e (group_class_of relies v q.events) ≡ awaited
        → ⊥
    pub not_unmade : (relies : Promises) (v : Variable) → IsOwnGroup f.body v
        → v.number ≡ u.number
        → change_group relies v.number e (group_class_of relies v q.events) ≡ unmade
        → ⊥
    pub made_here : (a : ℕ) → Contains made a
        → Contains f.made a
        ⊎ ((relies : Promises) → HasNoFaultUnder p f.body relies → MadeOn p (frame_at place) o after_o s after place q f Nothing Nothing bound relies a)

  module _ (h : BindsGroups) where
    class_else : (relies : Promises) (v : Variable) → (v.number ≡ u.number → ⊥)
        → group_class_of relies v bound.events ≡ group_class_of relies v q.events
    class_else relies v ne = group_next relies v q.events (occurrence_of d.comes_to)
        ∙ h.others_stay relies v.number (group_class_of relies v q.events) ne

    live_on : (relies : Promises) (v : Variable) (a : ℕ) → IsOwed p f.body relies v → IsLive relies s q f v a
        → (v.number ≡ u.number) ⊎ (v.number ≡ u.number → ⊥)
        → SettledOn p (frame_at place) o after_o s after place q f Nothing Nothing bound relies v a
    live_on relies v a owed l (inl same) = absurd (h.not_live relies v owed same l.is_live)
    live_on relies v a owed l (inr ne) = is_live record {
      code = rest;
      stage = refl;
      is_live = class_else relies v ne ∙ l.is_live;
      is_held = h.others_hold v.number ne ∙ l.is_held;
    }

    pub seen_binding : IsSeenOver p after_o after place Nothing Nothing (behind q d.comes_to) (record f { stage = runs rest; newest = put_at f.newest u.number (Some k); obtained = obtained; made = made })
    seen_binding = seen_goes p (frame_at place) o after_o s after place q f Nothing Nothing bound it seen record {
      grows = grows;
      made_before = h.made_before;
      made = h.made_here;
      over = λ a m x l owes over. inl (over_grows grows (place.0, m) Nothing Nothing a x (λ none g y. none g (sym (h.same_member g) ∙ y)) (λ y. y) over);
      saved = λ relies v a m x e c w. is_saved x c (saves_grow grows a x w);
      lives = λ relies v a m x owed l. live_on relies v a owed l (cases_eq v.number u.number);
      awaits = λ relies c v a up among kind stage class held. elim (cases_eq v.number u.number) [
        | inl same ↦ absurd (h.not_awaited relies v among kind same (sym (group_next relies v q.events (occurrence_of d.comes_to)) ∙ class))
        | inr ne ↦ (let r = seen.awaits relies d.comes_to.goes_on.code v a up among kind d.comes_to.goes_on.stage (sym (class_else relies v ne) ∙ class) (sym (h.others_hold v.number ne) ∙ held) in
            (r.0, r.1, saves_grow grows a r.0 r.2))
      ];
      lent_active = λ relies passing y a none w c g made. no_call it seen f.waiting d.none_waits passing w;
      unmade_yet = λ relies v own class. elim (cases_eq v.number u.number) [
        | inl same ↦ absurd (h.not_unmade relies v own same (sym (group_next relies v q.events (occurrence_of d.comes_to)) ∙ class))
        | inr ne ↦ h.others_hold v.number ne ∙ seen.unmade_yet relies v own (sym (class_else relies v ne) ∙ class)
      ];
    }

-- A binding of a cancel variable

cancel_plain : (relies : Promises) (v : ℕ) (c : GroupClass) (e : Event) (u : VariableAt) → BindsCancel e u → change_group relies v e c ≡ c
cancel_plain relies v c e u obtains = refl
cancel_plain relies v c e u obtains_into = refl
cancel_plain relies v c e u clears = refl

module _ {p : Program} {o : Origins} {s : Store} {place : Place} {q : Past} {f : Frame}
    (it : IsHolder p o s place q f) (seen : IsSeenOver p o s place Nothing Nothing q f) where
  pub seen_binding_cancel : BindsItsOwn p → {after_o : Origins} {e : Event} {rest : Code Event} (d : DoesNext f e rest) (u b : VariableAt) (value : Value) (t : Store)
      → BindsCancel e b
      → b.number ≡ u.number
      → ChangesContexts s t
      → Grows (frame_at place) o after_o s (binding t f u value)
      → (obtained : List ℕ)
      → IsSeenOver p after_o (binding t f u value) place Nothing Nothing (behind q d.comes_to) (record (binds t f u) { stage = runs rest; obtained = obtained })
  seen_binding_cancel binds_own {after_o} {e} {rest} d u b value t is_binding its_number changes grows obtained =
      seen_binding it seen grows d u (bound_cell t f u) obtained f.made record {
        same_member = λ g. ap (λ (m : ℕ → Option ℕ). m g) changes.same_member;
        made_before = λ a m x l. sym (ap (λ (m : ℕ → _). m a) changes.same_maker) ∙ x;
        others_hold = λ v ne. held_else s (binding t f u value) f u.number (bound_cell t f u) v (λ j. ap (λ (c : ℕ → ℕ → Option ℕ). c j v) changes.same_holds) ne;
        others_stay = λ relies v c ne. cancel_plain relies v c e b is_binding;
        not_live = λ relies v owed same class. let there = owed_there owed in no_group v there.0 there.1 same;
        not_awaited = λ relies v among kind same class. no_group v among kind same;
        not_unmade = λ relies v own same class. no_group v own.is_of_body own.is_group_variable same;
        made_here = λ a c. inl c;
      }
    where
      no_group : (v : Variable) → Contains (variables_in f.body) v → v.kind ≡ group → v.number ≡ u.number → ⊥
      no_group v among kind same =
          let own = binds_own.each f.body q.events (occurrence_of d.comes_to) b it.is_of (reached p o s place q f it e rest d.comes_to) is_binding in
          cancel≢group (sym own.is_of_kind ∙ one_kind f.body own.variable v own.is_of_body among (own.is_it ∙ its_number ∙ sym same) ∙ kind)

  -- A making

  -- the new group is live, or has no member yet and no context
  made_state : IsKnown s → {state : GroupState} {context : Option ℕ} {t : Store} (u : VariableAt) → Makes s state context t
      → (state ≡ live) ⊎ IsOver (binding_group (with_group t (frame_at place) context) f u t.group_count) Nothing t.group_count
  made_state known u zero_group = inr record {
    has_no_member = λ g m. known.of_groups g s.group_count m (known.is_fresh s.group_count (omega arith));
    has_ended = λ context e. absurd (none-some context (sym (put_at-same s.group_context s.group_count None) ∙ e));
    is_untouched = λ x. x;
  }
  made_state known u (with_context parent earlier) = inl refl

  module _ (used : BodiesAreWellUsed p) (known : IsKnown s) {u : VariableAt} {state : GroupState} {context : Option ℕ} {t : Store} {rest : Code Event}
      (d : DoesNext f (make u state) rest) (makes : Makes s state context t) where
    abbrev its_cell : ℕ
    its_cell = bound_cell t f u

    abbrev made_store : Store
    made_store = binding_group (with_group t (frame_at place) context) f u t.group_count

    module _ {after_o : Origins} (grows : Grows (frame_at place) o after_o s made_store) where
      abbrev with_made : Onward
      with_made = bound it seen grows d u its_cell f.obtained (t.group_count ∷ f.made)

      own_group : (v : Variable) × IsOwnGroup f.body v × (v.number ≡ u.number)
      own_group = used.makes_own f.body q.events (occurrence_of d.comes_to) u state it.is_of (reached p o s place q f it (make u state) rest d.comes_to) refl

      not_live : (relies : Promises) (v : Variable) → IsOwed p f.body relies v → v.number ≡ u.number
          → group_class_of relies v q.events ≡ in_state live
          → ⊥
      not_live relies v (of_made none own) same class =
          none.none _ (loses_group v u state q.events (occurrence_of d.comes_to) (reached p o s place q f it (make u state) rest d.comes_to) refl (sym same) record {
            is_of_body = own.is_of_body;
            is_group_variable = own.is_group_variable;
            is_live = class;
          })
      not_live relies v (of_wait w) same class =
          let x = own_group in
          declared_is_not_captured f.body x.0 v x.1.is_of_body w.waits_for.is_of_body (x.2 ∙ sym same) x.1.is_declared_here w.waits_for.is_captured

      its_class : (relies : Promises) (v : Variable) → v.number ≡ u.number
          → change_group relies v.number (make u state) (group_class_of relies v q.events) ≡ in_state state
      its_class relies v same = named_so u.number v.number (in_state state) (group_class_of relies v q.events) (sym same)

      new_held : (v : ℕ) → v ≡ u.number → held_group made_store (frame_on f with_made) v ≡ Some t.group_count
      new_held v same =
          ap (λ w. group_in_cell made_store w (put_at f.newest u.number (Some its_cell) w)) same
          ∙ ap (group_in_cell made_store u.number) (put_at-same f.newest u.number (Some its_cell))
          ∙ put_here t.holds its_cell u.number (Some t.group_count)

      new_settled : (relies : Promises) (v : Variable) → v.number ≡ u.number
          → (state ≡ live) ⊎ IsOver made_store Nothing t.group_count
          → SettledOn p (frame_at place) o after_o s made_store place q f Nothing Nothing with_made relies v t.group_count
      new_settled relies v same (inl is_live_now) = is_live record {
        code = rest;
        stage = refl;
        is_live = group_next relies v q.events (occurrence_of d.comes_to) ∙ its_class relies v same ∙ ap in_state is_live_now;
        is_held = new_held v.number same;
      }
      new_settled relies v same (inr over) = is_over over

      pub seen_making : ((a m : ℕ) → made_store.maker a ≡ frame_at (place.0, m) → m < place.1 → s.maker a ≡ frame_at (place.0, m))
          → IsSeenOver p after_o made_store place Nothing Nothing (behind q d.comes_to) (record (binds t f u) { stage = runs rest; made = t.group_count ∷ f.made })
      seen_making back =
          let changes = making_changes s t state context makes in
          seen_binding it seen grows d u its_cell f.obtained (t.group_count ∷ f.made) record {
            same_member = λ g. ap (λ (m : ℕ → Option ℕ). m g) changes.same_member;
            made_before = back;
            others_hold = λ v ne. held_else s made_store f u.number its_cell v (λ j. put_in t.holds its_cell u.number (Some t.group_count) j v ne ∙ ap (λ (c : ℕ → ℕ → Option ℕ). c j v) changes.same_holds) ne;
            others_stay = λ relies v c ne. named_otherwise u.number v (in_state state) c (λ x. ne (sym x));
            not_live = not_live;
            not_awaited = λ relies v among kind same class. state≢awaited state (sym (its_class relies v same) ∙ class);
            not_unmade = λ relies v own same class. state≢unmade state (sym (its_class relies v same) ∙ class);
            made_here = λ a c. elim (contains_cases t.group_count a f.made c) [
              | inl same ↦ inr (λ relies none. let x = own_group in
                  (x.0, x.1, subst (SettledOn p (frame_at place) o after_o s made_store place q f Nothing Nothing with_made relies x.0) same (new_settled relies x.0 x.2 (made_state known u makes))))
              | inr i ↦ inl i
            ];
          }
