-- Frames that begin, and what calls that are made, and what was saved and runs, do to the groups of the frame below.
use Rattle.std.proofs.Common.{◌≡◌, ℕ, ◌<◌, ◌⊎◌, inl, inr, Bool, true, false, cond, List, [], ◌∷◌, Option, Some, None, Contains, refl, sym, ap, ◌∙◌, subst, arith}
use Rattle.std.proofs.lemmas.Bool.{cases_eq, true≢false, false_from_ne_true}
use Rattle.std.proofs.lemmas.Option.{none-some, same_Some}
use Rattle.meaning.specs.Code.{Code}
use Rattle.meaning.specs.Uses.{Event}
use Rattle.meaning.specs.BodyEvents.{Variable}
use Rattle.meaning.specs.Classes.{Promises, entry_group}
use Rattle.meaning.proofs.Membership.{contains_here, contains_there, contains_cases, contains_nil}
use Rattle.meaning_runs.specs.Bodies.{Program, Body, code_of, is_parameter_of, is_captured_by}
use Rattle.meaning_runs.specs.World.{Value, nobody, outside, frame_at, Place, Store, HasNoMember, with_cells, Lent, Passing, Saved, Stage, runs, exits, Frame, group_in_cell, new_frame}
use Rattle.meaning_runs.specs.Steps.{GoesOn, RunsSaved, at_code, Fits}
use Rattle.meaning_runs.specs.Duties.{IsWaitingFor}
use Rattle.meaning_runs.proofs.Contexts.{put_at-other}
use Rattle.meaning_runs.proofs.OwnNumbers.{parameter_is_own, captured_is_not, wait_is_captured}
use Rattle.meaning_runs.proofs.Places.{exits≢runs}
use Rattle.meaning_runs.proofs.Remembered.{Origins, Past, with_block, group_given, no_past}
use Rattle.meaning_runs.proofs.Holders.{Grows, IsSource, is_outside, is_made, was_lent, IsHolder}
use Rattle.meaning_runs.proofs.HolderFrames.{declared_no_parameter, declared_not_captured}
use Rattle.meaning_runs.proofs.HolderSteps.{own_is_declared, outside_is}
use Rattle.meaning_runs.proofs.MadeGroups.{HasNoFaultUnder, SavesWait, IsOver, MustWait, is_over, is_saved, is_above, is_live, IsActive, active_saved, active_live, IsSeenOver, Nothing}
use Rattle.meaning_runs.proofs.StoreGrowth.{outside-frame, ChangesContexts, no_change, block_grows}
use Rattle.meaning_runs.proofs.GroupClasses.{entry_not_awaited}
use Rattle.meaning_runs.proofs.MadeGroupsStand.{saves_grow, over_grows}
use Rattle.meaning_runs.proofs.MadeGroupFrames.{OwesEnd, not_lower, Onward, MadeOn, SettledOn}
use Rattle.meaning_runs.proofs.MadeGroupEvents.{same_group, over_stays, still, seen_still}
use Rattle.meaning_runs.proofs.MadeGroupUses.{grown, made_as_before, over_as_before}

-- Frames that begin

-- what a body is known to wait for is none of its parameters
pub waits_no_parameter : (b : Body) (v : Variable) → IsWaitingFor b v → is_parameter_of b v.number ≡ false
waits_no_parameter b v w = false_from_ne_true (is_parameter_of b v.number)
    (λ e. true≢false (sym (parameter_is_own b v.number e) ∙ captured_is_not b v w.is_of_body w.is_captured))

module _ (s : Store) (values : ℕ → Value) (groups : ℕ → Option ℕ) (b : Body) (around : ℕ → Option ℕ) where
  -- what parameters were lent
  pub parameter_lent : (v a : ℕ) → is_parameter_of b v ≡ true → group_given s b groups around v ≡ Some a → groups v ≡ Some a
  parameter_lent v a is e = sym (ap (λ x. cond x (groups v) (group_in_cell s v (around v))) is) ∙ e

  -- and what is waited for is in a cell around
  pub waits_around : (v : Variable) (a : ℕ) → IsWaitingFor b v → group_given s b groups around v.number ≡ Some a
      → group_in_cell s v.number (around v.number) ≡ Some a
  waits_around v a w e =
      sym (ap (λ x. cond x (groups v.number) (group_in_cell s v.number (around v.number))) (waits_no_parameter b v w)) ∙ e

  pub waits_given : (v : Variable) (a : ℕ) → IsWaitingFor b v → group_in_cell s v.number (around v.number) ≡ Some a
      → group_given s b groups around v.number ≡ Some a
  waits_given v a w e =
      ap (λ x. cond x (groups v.number) (group_in_cell s v.number (around v.number))) (waits_no_parameter b v w) ∙ e

  module _ (cells_in : (v k : ℕ) → around v ≡ Some k → k < s.cell_count) where
    old_cell : (v : ℕ) (cell : Option ℕ) → ((k : ℕ) → cell ≡ Some k → k < s.cell_count)
        → group_in_cell (with_cells s values groups) v cell ≡ group_in_cell s v cell
    old_cell v None within = refl
    old_cell v (Some k) within = ap (λ (c : ℕ → Option ℕ). c v) (put_at-other s.holds s.cell_count groups k (λ e. let l = within k refl in omega (arith, e, l)))

    newest_of : (v : ℕ) (c d : Bool) → is_parameter_of b v ≡ c → is_captured_by b v ≡ d
        → (new_frame s b around).newest v ≡ cond c (Some s.cell_count) (cond d (around v) None)
    newest_of v c d e g =
        ap (λ x. cond x (Some s.cell_count) (cond (is_captured_by b v) (around v) None)) e
        ∙ ap (λ x. cond c (Some s.cell_count) (cond x (around v) None)) g

    -- a frame that begins made no group yet, and what it is to wait for is live
    pub seen_new : (p : Program) (o : Origins) (place : Place)
        → ((v : Variable) (a : ℕ) → IsWaitingFor b v → group_in_cell s v.number (around v.number) ≡ Some a → (u c : ℕ) → groups u ≡ Some c → s.maker c ≡ outside)
        → IsSeenOver p (with_block o s.cell_count) (with_cells s values groups) place Nothing Nothing (no_past o s b values groups around) (new_frame s b around)
    seen_new p o place alone = record {
      made = λ relies a none c. absurd (contains_nil a c);
      waits = λ relies v a m w e made l. is_live record {
        code = code_of b;
        stage = refl;
        is_live = ap entry_group w.waits_for.is_captured;
        is_held =
            ap (group_in_cell (with_cells s values groups) v.number) (newest_of v.number false true (waits_no_parameter b v w.waits_for) (wait_is_captured b v w.waits_for))
            ∙ old_cell v.number (around v.number) (cells_in v.number) ∙ waits_around v a w.waits_for e;
      };
      apart = λ v a c w e lent. alone v a w (waits_around v a w e) lent.0 c (parameter_lent lent.0 c lent.1 lent.2);
      awaits = λ relies c v a up among kind stage class held. absurd (entry_not_awaited v.role class);
      lent_active = λ relies passing y a none w. absurd (none-some passing w);
      unmade_yet = λ relies v own class.
          let declared = own_is_declared b v v.number own refl in
          ap (group_in_cell (with_cells s values groups) v.number) (newest_of v.number false false (declared_no_parameter b v.number declared) (declared_not_captured b v.number declared));
    }

-- Whether a group is among what is lent

same_or_not : (o : Option ℕ) (a : ℕ) → (o ≡ Some a) ⊎ (o ≡ Some a → ⊥)
same_or_not None a = inr (λ e. none-some a e)
same_or_not (Some b) a = elim (cases_eq b a) [ inl same ↦ inl (ap Some same) | inr ne ↦ inr (λ e. ne (same_Some b a e)) ]

abbrev pub IsAmongLent : List Lent → ℕ → Type 0
IsAmongLent ys a = (y : Lent) × Contains ys y × (y.group ≡ Some a)

pub is_among_lent : (a : ℕ) (ys : List Lent) → IsAmongLent ys a ⊎ (IsAmongLent ys a → ⊥)
is_among_lent a [] = inr (λ x. contains_nil x.0 x.1)
is_among_lent a (x ∷ ys) = elim (same_or_not x.group a) [
  | inl is ↦ inl (x, contains_here x ys, is)
  | inr ne ↦ elim (is_among_lent a ys) [
    | inl r ↦ inl (r.0, contains_there x r.0 ys r.1, r.2)
    | inr none ↦ inr (λ y. elim (contains_cases x y.0 ys y.1) [ inl same ↦ ne (ap (λ (l : Lent). l.group) same ∙ y.2) | inr more ↦ none (y.0, more, y.2) ])
  ]
]

-- what a call lends to a body
pub lent_among : (s : Store) (b : Body) (passing : Passing) (values : ℕ → Value) (groups : ℕ → Option ℕ) → Fits s b passing values groups
    → (v a : ℕ)
    → groups v ≡ Some a
    → IsAmongLent passing.lent a ⊎ (s.maker a ≡ outside)
lent_among s b passing values groups fits v a e = elim (fits.other_groups v) [
  | inl x ↦ inl (x.argument, x.is_lent, sym (fits.same_group x.parameter x.argument x.is_of_body x.is_lent x.is_its_position) ∙ ap groups x.is_its_number ∙ e)
  | inr x ↦ inr (outside_is s (groups v) a x e)
]

stage_cases : (x : Stage) → (x ≡ exits) ⊎ ((c : Code Event) × (x ≡ runs c))
stage_cases exits = inl refl
stage_cases (runs c) = inr (c, refl)

module _ {p : Program} {o : Origins} {s : Store} {place : Place} {q : Past} {f : Frame}
    (it : IsHolder p o s place q f) (seen : IsSeenOver p o s place Nothing Nothing q f) where
  waits_in_body : (passing : Passing) → f.waiting ≡ Some passing → (c : Code Event) × (f.stage ≡ runs c)
  waits_in_body passing w = elim (stage_cases f.stage) [
    | inl e ↦ absurd (none-some passing (sym (it.none_waits e) ∙ w))
    | inr r ↦ r
  ]

  -- a branch is taken, or a statement's end passed
  pub seen_silent : {rest : Code Event} → GoesOn f None rest → IsSeenOver p o s place Nothing Nothing q (at_code f rest)
  seen_silent {rest} d = seen_still it seen (grown it seen (no_change s)) Nothing Nothing (runs rest) f.waiting f.saved record {
    runs_on = λ c e. (rest, refl);
    ran_before = λ c e. (d.code, d.stage);
    keeps_saved = λ c e x h. h;
    made_before = made_as_before it seen (no_change s);
    over = λ a m e l owes h. inl h;
    saves = λ relies v a m x e c w. is_saved x c w;
    still_waits = λ passing w. w;
  } (λ passing w. (rest, refl))

  -- the frame stays where it is, and contexts alone change
  pub seen_staying : {after : Store} → ChangesContexts s after → IsSeenOver p o after place Nothing Nothing q f
  seen_staying changes = seen_still it seen (grown it seen changes) Nothing Nothing f.stage f.waiting f.saved record {
    runs_on = λ c e. (c, e);
    ran_before = λ c e. (c, e);
    keeps_saved = λ c e x h. h;
    made_before = made_as_before it seen changes;
    over = λ a m e l owes h. inl (over_as_before it seen changes a m e l h);
    saves = λ relies v a m x e c w. is_saved x c (saves_grow (grown it seen changes) a x w);
    still_waits = λ passing w. w;
  } waits_in_body

  -- the call under way is over, or is saved
  pub seen_without_call : (saved : List Saved) → ((x : Saved) → Contains f.saved x → Contains saved x)
      → IsSeenOver p o s place Nothing Nothing q (record f { waiting = None; saved = saved })
  seen_without_call saved more = seen_still it seen (grown it seen (no_change s)) Nothing Nothing f.stage None saved record {
    runs_on = λ c e. (c, e);
    ran_before = λ c e. (c, e);
    keeps_saved = λ c e x h. more x h;
    made_before = made_as_before it seen (no_change s);
    over = λ a m e l owes h. inl h;
    saves = λ relies v a m x e c w. is_saved x (more x c) w;
    still_waits = λ passing w. absurd (none-some passing w);
  } (λ passing w. absurd (none-some passing w))

  -- what a frame can lend is none of what a frame below made, which it is to wait for
  pub waited_not_lent : (a m : ℕ) → s.maker a ≡ frame_at (place.0, m) → m < place.1 → MustWait f.body q.lent a
      → IsSource s place f.body q.lent a
      → ⊥
  waited_not_lent a m e l (v, w, lent) (is_outside x) = outside-frame (place.0, m) (sym x ∙ e)
  waited_not_lent a m e l (v, w, lent) (is_made x) = not_lower place m l (sym x ∙ e)
  waited_not_lent a m e l (v, w, lent) (was_lent x) = outside-frame (place.0, m) (sym (seen.apart v a a w lent x) ∙ e)

  -- Others start work in what a call under way lends, or are going to.
  module _ {passing : Passing} (waits : f.waiting ≡ Some passing) {after_o : Origins} {after : Store} (grows : Grows nobody o after_o s after)
      (may must : ℕ → Type 0) (waiting : Option Passing) where
    abbrev lent_out : Onward
    lent_out = still it seen grows may must f.stage waiting f.saved

    settled_now : (relies : Promises) (v : Variable) (a : ℕ) → IsActive relies o s q f v a
        → SettledOn p nobody o after_o s after place q f may must lent_out relies v a
    settled_now relies v a (active_saved x c w) = is_saved x c (saves_grow grows a x w)
    settled_now relies v a (active_live l) =
        is_live record { code = l.code; stage = l.stage; is_live = l.is_live; is_held = same_group it seen grows v.number ∙ l.is_held }

    -- a group that is lent was over, and is the frame's again
    over_or_active : ((a m : ℕ) → s.maker a ≡ frame_at (place.0, m) → (IsAmongLent passing.lent a → ⊥) → IsOver s Nothing a → IsOver after may a)
        → (a m : ℕ)
        → s.maker a ≡ frame_at (place.0, m)
        → OwesEnd place q f a m
        → IsOver s Nothing a
        → IsAmongLent passing.lent a ⊎ (IsAmongLent passing.lent a → ⊥)
        → IsOver after may a
        ⊎ (Contains f.made a × ((relies : Promises) → HasNoFaultUnder p f.body relies → MadeOn p nobody o after_o s after place q f may must lent_out relies a))
    over_or_active free a m e (inl made) h (inl y) =
        inr (made, λ relies none. let r = seen.lent_active relies passing y.0 a none waits y.1 y.2 made in (r.0, r.1, settled_now relies r.0 a r.2))
    over_or_active free a m e (inr (l, w)) h (inl y) = absurd (waited_not_lent a m e l w (it.lent_from passing y.0 a waits y.1 y.2))
    over_or_active free a m e owes h (inr none) = inl (free a m e none h)

    pub seen_lending_out : ((r : Passing) → waiting ≡ Some r → f.waiting ≡ Some r)
        → ((a m : ℕ) → after.maker a ≡ frame_at (place.0, m) → m < place.1 → s.maker a ≡ frame_at (place.0, m))
        → ((a m : ℕ) → s.maker a ≡ frame_at (place.0, m) → (IsAmongLent passing.lent a → ⊥) → IsOver s Nothing a → IsOver after may a)
        → IsSeenOver p after_o after place may must q (record f { waiting = waiting })
    seen_lending_out same back free = seen_still it seen grows may must f.stage waiting f.saved record {
      runs_on = λ c e. (c, e);
      ran_before = λ c e. (c, e);
      keeps_saved = λ c e x h. h;
      made_before = back;
      over = λ a m e l owes h. over_or_active free a m e owes h (is_among_lent a passing.lent);
      saves = λ relies v a m x e c w. is_saved x c (saves_grow grows a x w);
      still_waits = same;
    } (λ r w. waits_in_body r (same r w))

  -- a call begins, and the frame above can start work in what is lent to it
  pub seen_calling : {passing : Passing} (waits : f.waiting ≡ Some passing) (values : ℕ → Value) (groups : ℕ → Option ℕ) (may must : ℕ → Type 0)
      → ((a : ℕ) → may a → IsAmongLent passing.lent a ⊎ (s.maker a ≡ outside))
      → IsSeenOver p (with_block o s.cell_count) (with_cells s values groups) place may must q (record f { waiting = None })
  seen_calling waits values groups may must lends =
      let grows = block_grows nobody o s values groups in
      seen_lending_out waits grows may must None (λ r w. absurd (none-some r w)) (λ a m e l. e)
      (λ a m e none h. over_grows grows (place.0, m) Nothing may a e (λ n. n)
      (λ x. elim (lends a x) [ inl y ↦ none y | inr y ↦ outside-frame (place.0, m) (sym y ∙ e) ]) h)

  -- What was saved last runs.
  pub seen_popping : {after_o : Origins} {after : Store} (grows : Grows nobody o after_o s after) (may must : ℕ → Type 0) {item : Saved} {left : List Saved} (r : RunsSaved f item left)
      → ((a : ℕ) → HasNoMember s a → HasNoMember after a)
      → ((a m : ℕ) → after.maker a ≡ frame_at (place.0, m) → m < place.1 → s.maker a ≡ frame_at (place.0, m))
      → ((a m : ℕ) → s.maker a ≡ frame_at (place.0, m) → may a → ⊥)
      → ((a : ℕ) → SavesWait o s a item → IsOver after may a ⊎ must a)
      → IsSeenOver p after_o after place may must q (record f { saved = left })
  seen_popping grows may must {item} {left} r members back free runs_it = seen_still it seen grows may must f.stage f.waiting left record {
    runs_on = λ c e. absurd (exits≢runs c (sym r.stage ∙ e));
    ran_before = λ c e. absurd (exits≢runs c (sym r.stage ∙ e));
    keeps_saved = λ c e. absurd (exits≢runs c (sym r.stage ∙ e));
    made_before = back;
    over = λ a m e l owes h. inl (over_stays it seen grows may members (λ b n x k y. free b n x y) a m e l h);
    saves = λ relies v a m x e c w. elim (contains_cases item x left (subst (λ (l : List Saved). Contains l x) r.saved c)) [
      | inl same ↦ elim (runs_it a (subst (SavesWait o s a) (sym same) w)) [ inl over ↦ is_over over | inr above ↦ is_above above ]
      | inr i ↦ is_saved x i (saves_grow grows a x w)
    ];
    still_waits = λ passing w. w;
  } (λ passing w. absurd (none-some passing (sym (it.none_waits r.stage) ∙ w)))
