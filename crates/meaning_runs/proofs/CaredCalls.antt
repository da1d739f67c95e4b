-- Calls, what is saved for a return, and returns, with what is said of a frame's cancel functions.
use Rattle.std.proofs.Common.{◌≡◌, ℕ, ◌≤◌, ◌⊎◌, inl, inr, true, false, cond, List, ◌∷◌, map, Option, Some, None, Contains, refl, sym, ap, ◌∙◌, subst}
use Rattle.std.proofs.lemmas.Bool.{cases_Bool}
use Rattle.std.proofs.lemmas.Option.{none-some, same_Some}
use Rattle.meaning.specs.Code.{Code}
use Rattle.meaning.specs.Uses.{Handed, Event, return_event}
use Rattle.meaning.specs.BodyEvents.{Variable}
use Rattle.meaning.specs.Classes.{Promises, awaited}
use Rattle.meaning.proofs.Membership.{contains_nil, contains_here, contains_there, contains_cases, contains_map}
use Rattle.meaning_packages.specs.PathFaults.{returns_open, returns_kept, OwesCall, ComesToReturn, paths_of, is_handed, is_handed_kept}
use Rattle.meaning_runs.specs.Bodies.{Program, Body, IsFunction}
use Rattle.meaning_runs.specs.World.{Value, nothing, cancel_function, nobody, frame_at, Place, Store, MayEndWait, calling, waiting_for, with_cells, Given, Passing, Closure, Saved, saved_call, saved_pass, saved_literal, saved_wait, exits, Frame, in_cell, group_in_cell, held, kept_value, value_handed, handed_by, nothing_around}
use Rattle.meaning_runs.specs.Steps.{DoesNext, RunsSaved, IsAtEnd, Fits, HasNoBody, WasCalled, DeclaredIsTrue}
use Rattle.meaning_runs.specs.Runs.{Owes}
use Rattle.meaning_runs.specs.Duties.{TakesUp, IsWaitingFor, AreTakenUp}
use Rattle.meaning_runs.proofs.CaredBindings.{captured_no_parameter}
use Rattle.meaning_runs.proofs.CaredEvents.{left_still}
use Rattle.meaning_runs.proofs.CaredFor.{level_in, level, IsMet, was_called, is_taken, left_is_taken, IsCalledUnder, IsLeftTo, MustCall, MustAwait, MustSee, SavesCall, calls_it, passes_it, credits_it, IsPending, IsOpen, is_held, is_kept, is_pending, IsStillLeft, IsSeen, is_met, is_saved, is_passed, is_waiting, left_to_made, left_to_awaited, is_open, IsCared, SeenAbove, IsOwn, LetsGo, AreKept, IsRelied, of_flag, of_credit}
use Rattle.meaning_runs.proofs.CaredGoesOn.{met_grows, LeftStill, left_same, none_left, left_or_met, cared_on, saves_call_grows, sees_more, cared_goes, cared_stands}
use Rattle.meaning_runs.proofs.GroupPaths.{returns_none_pending, kept_is_not_pending, group_class_of}
use Rattle.meaning_runs.proofs.Holders.{Grows, IsHolder}
use Rattle.meaning_runs.proofs.HolderFrames.{reached}
use Rattle.meaning_runs.proofs.KeptEvents.{IsItsObject}
use Rattle.meaning_runs.proofs.ObjectEvents.{events_keep_well}
use Rattle.meaning_runs.proofs.MadeGroups.{HasNoFaultUnder, IsWaitedForUnder, SavesWait, by_wait, by_literal, IsOver, IsSettled, is_over, is_saved as is_saved_for, is_above, is_live, IsSeenOver, Nothing, IsGone, is_gone}
use Rattle.meaning_runs.proofs.MadeGroupsStand.{saves_grow}
use Rattle.meaning_runs.proofs.Places.{called_now, exits≢runs, handed_there, handed_kept_there, handed_neither}
use Rattle.meaning_runs.proofs.Remembered.{Origins, Past, with_block, behind, occurrence_of, no_past}
use Rattle.meaning_runs.proofs.StoreGrowth.{frame-nobody, no_change, calling_changes, waiting_changes, contexts_grow, block_grows}
use Rattle.meaning_runs.proofs.OwnNumbers.{flag_is_its}

-- What a frame that begins has to see to

-- a function has to call what it is given at a parameter that it is known to call
must_of_call : {p : Program} {caller : Body} (o : Origins) (s : Store) (b : Body) (passing : Passing) (values : ℕ → Value)
    (groups : ℕ → Option ℕ)
    → IsFunction p caller passing.callee b
    → Fits s b passing values groups
    → (x : Given) (a : ℕ)
    → Contains passing.given x
    → x.value ≡ cancel_function a
    → TakesUp p caller passing.callee x.position
    → o.least ≤ 1
    → MustCall p b (no_past o s b values groups nothing_around) a
must_of_call o s b passing values groups is fits x a h e takes deep =
    let t = takes.each b is in (
      t.0,
      of_flag t.1,
      ap (λ c. cond c (values t.0.number) nothing) (flag_is_its b t.0 t.1) ∙ fits.same t.0 x t.1.is_of_body h t.2 ∙ e,
      subst (λ r. o.least ≤ level_in b.place.at r) (sym t.2) deep,
    )

-- a function without a body that is known to call what it is given has done so when it returns: it is declared
called_there : {p : Program} {caller : Body} (s : Store) (passing : Passing)
    → HasNoBody p caller passing.callee
    → DeclaredIsTrue p s passing
    → (x : Given) (a : ℕ)
    → Contains passing.given x
    → x.value ≡ cancel_function a
    → TakesUp p caller passing.callee x.position
    → Contains s.called a
called_there s passing no_body holds x a h e takes =
    subst (WasCalled s) e (holds x h (takes.is_declared no_body))

-- What a saved item sees to, by its kind

call_of : {p : Program} {b : Body} {o : Origins} {s : Store} {a : ℕ} {value : Value}
    → SavesCall p b o s a (saved_call value)
    → value ≡ cancel_function a
call_of (calls_it e) = e

literal_must : {p : Program} {b : Body} {o : Origins} {s : Store} {a : ℕ} (c : Closure) (values : ℕ → Value)
    (groups : ℕ → Option ℕ)
    → SavesCall p b o s a (saved_literal c)
    → MustCall p c.literal (no_past o s c.literal values groups c.newest) a
literal_must {s = s} c values groups (credits_it _ v k credited n l once h deep) = (
  v,
  of_credit credited,
  ap (λ x. cond x (values v.number) (in_cell s v.number (c.newest v.number)))
      (captured_no_parameter c.literal v credited.is_of_body credited.is_captured)
      ∙ ap (in_cell s v.number) n ∙ h,
  deep,
)

literal_awaits : {o : Origins} {s : Store} {group a : ℕ} (c : Closure) (values : ℕ → Value) (groups : ℕ → Option ℕ)
    → SavesWait o s group (saved_literal c)
    → IsLeftTo o s group a
    → MustAwait c.literal (no_past o s c.literal values groups c.newest) a
literal_awaits {s = s} {group = group} c values groups (by_literal _ v k waits n l once h) left = (
  v,
  group,
  waits,
  ap (λ x. cond x (groups v.number) (group_in_cell s v.number (c.newest v.number)))
      (captured_no_parameter c.literal v waits.is_of_body waits.is_captured)
      ∙ ap (group_in_cell s v.number) n ∙ h,
  left,
)

module _ {p : Program} {o : Origins} {s : Store} {place : Place} {q : Past} {f : Frame}
    (it : IsHolder p o s place q f) (cared : IsCared p o s Nothing q f)
  where
    same_grows : Grows nobody o o s s
    same_grows = contexts_grow nobody o s s (no_change s)

    same_left : LeftStill p o s o s
    same_left = left_still (no_change s)

    elsewhere : frame_at place ≡ nobody → ⊥
    elsewhere = frame-nobody place

    -- A call under way

    -- the frame stays in its code, where this sees to what the call has to
    waits_no_more : {after_o : Origins} {after : Store} {must_now : ℕ → Type 0} (grows : Grows nobody o after_o s after)
        (still : LeftStill p o s after_o after) (saved : List Saved)
        → ((x : Saved) → Contains f.saved x → Contains saved x)
        → ((passing : Passing) (x : Given) (a : ℕ) → f.waiting ≡ Some passing
        → Contains passing.given x
        → x.value ≡ cancel_function a
        → TakesUp p f.body passing.callee x.position
        → o.least ≤ 1
        → IsSeen p after_o after must_now (record f { waiting = None; saved = saved }) ⊥ a)
        → IsCared p after_o after must_now q (record f { waiting = None; saved = saved })
    waits_no_more grows still saved more sees =
        cared_goes grows still elsewhere it f.stage None saved (λ c e. (c, e)) (λ e. e)
        (sees_more grows still (record f { waiting = None; saved = saved }) refl more (λ group h. h)
        (λ a bad. absurd bad) sees) cared

    block_left : (values : ℕ → Value) (groups : ℕ → Option ℕ)
        → LeftStill p o s (with_block o s.cell_count) (with_cells s values groups)
    block_left values groups = left_same (λ g. refl) (λ g. refl) (λ r h. h) refl

    -- the call is made: of a function, which has to see to what it is given
    pub cared_caller : (passing : Passing) (b : Body) (values : ℕ → Value) (groups : ℕ → Option ℕ)
        → f.waiting ≡ Some passing
        → IsFunction p f.body passing.callee b
        → Fits s b passing values groups
        → IsCared p (with_block o s.cell_count) (with_cells s values groups)
        (SeenAbove p b (no_past o s b values groups nothing_around) Nothing) q (record f { waiting = None })
    cared_caller passing b values groups waits is fits =
        waits_no_more (block_grows nobody o s values groups) (block_left values groups) f.saved (λ x h. h)
        (λ r x a w h e t l. is_passed (inl (inl (its r x a (same_Some r passing (sym w ∙ waits)) h e t l))))
      where
        its : (r : Passing) (x : Given) (a : ℕ) → r ≡ passing → Contains r.given x → x.value ≡ cancel_function a
            → TakesUp p f.body r.callee x.position
            → o.least ≤ 1
            → MustCall p b (no_past o s b values groups nothing_around) a
        its r x a same h e t l =
            must_of_call o s b passing values groups is fits x a (subst (λ (y : Passing). Contains y.given x) same h) e
            (subst (λ (y : Passing). TakesUp p f.body y.callee x.position) same t) l

    -- or of one without a body, which has called what it is declared to call
    pub cared_outside : (passing : Passing) → f.waiting ≡ Some passing → HasNoBody p f.body passing.callee
        → DeclaredIsTrue p s passing
        → IsCared p o s Nothing q (record f { waiting = None })
    cared_outside passing waits no_body holds =
        waits_no_more same_grows same_left f.saved (λ x h. h)
        (λ r x a w h e t l. is_met (was_called (its r x a (same_Some r passing (sym w ∙ waits)) h e t)))
      where
        its : (r : Passing) (x : Given) (a : ℕ) → r ≡ passing → Contains r.given x → x.value ≡ cancel_function a
            → TakesUp p f.body r.callee x.position
            → Contains s.called a
        its r x a same h e t =
            called_there s passing no_body holds x a (subst (λ (y : Passing). Contains y.given x) same h) e
            (subst (λ (y : Passing). TakesUp p f.body y.callee x.position) same t)

    pub cared_saving_pass : (passing : Passing) → f.waiting ≡ Some passing
        → IsCared p o s Nothing q (record f { waiting = None; saved = saved_pass passing ∷ f.saved })
    cared_saving_pass passing waits =
        waits_no_more same_grows same_left (saved_pass passing ∷ f.saved) (λ x h. contains_there (saved_pass passing) x f.saved h)
        (λ r x a w h e t l. subst (λ y. IsSeen p o s Nothing (record f { waiting = None; saved = saved_pass y ∷ f.saved }) ⊥ a)
        (same_Some r passing (sym w ∙ waits)) (is_saved (saved_pass r) (contains_here (saved_pass r) f.saved) (passes_it r x h e t l)))

    pub cared_argument : (value : Value) → IsCared p o (calling s value) Nothing q f
    cared_argument value =
        cared_stands (contexts_grow nobody o s (calling s value) (calling_changes s value))
        (left_still (calling_changes s value)) elsewhere it (λ a bad. absurd bad) cared

    -- What was saved runs

    module _ {after_o : Origins} {after : Store} {must_now : ℕ → Type 0} (grows : Grows nobody o after_o s after)
        (still : LeftStill p o s after_o after) {item : Saved} {left : List Saved} (r : RunsSaved f item left)
      where
        pub cared_popping :
            ((a : ℕ) → SavesCall p f.body o s a item → IsSeen p after_o after must_now (record f { saved = left }) ⊥ a)
            → ((group a : ℕ) → SavesWait o s group item
            → IsLeftTo o s group a
            → IsSeen p after_o after must_now (record f { saved = left }) ⊥ a)
            → IsCared p after_o after must_now q (record f { saved = left })
        cared_popping runs_it waits_it =
            cared_goes grows still elsewhere it f.stage f.waiting left (λ c e. absurd (exits≢runs c (sym r.stage ∙ e)))
            (λ e. e) record {
              met = met_grows grows;
              saves = λ x a h c. elim (cases x h) [
                | inl same ↦ runs_it a (subst (λ y. SavesCall p f.body o s a y) (sym same) c)
                | inr i ↦ is_saved x i (saves_call_grows grows a x c)
              ];
              musts = λ a bad. absurd bad;
              waits = λ passing x a w. absurd (none-some passing (sym (it.none_waits r.stage) ∙ w));
              made = λ group a h l. left_or_met still group a (λ x. left_to_made group h x) (λ x. is_met x) l;
              awaited = λ group x a h w l. elim (cases x h) [
                | inl same ↦ waits_it group a (subst (λ y. SavesWait o s group y) (sym same) w) l
                | inr i ↦ left_or_met still group a (λ y. left_to_awaited group x i (saves_grow grows group x w) y)
                    (λ y. is_met y) l
              ];
            } cared
          where
            cases : (x : Saved) → Contains f.saved x → (item ≡ x) ⊎ Contains left x
            cases x h = contains_cases item x left (subst (λ l. Contains l x) r.saved h)

    pub cared_running_call : {value : Value} {left : List Saved} → RunsSaved f (saved_call value) left
        → IsCared p o (calling s value) Nothing q (record f { saved = left })
    cared_running_call {value} r =
        cared_popping (contexts_grow nobody o s (calling s value) (calling_changes s value))
        (left_still (calling_changes s value)) r
        (λ a c. is_met (was_called (called_now s value a (call_of c)))) (λ group a w l. elim w [ ])

    pub cared_running_pass : {passing : Passing} {left : List Saved} → RunsSaved f (saved_pass passing) left
        → (b : Body) (values : ℕ → Value) (groups : ℕ → Option ℕ)
        → IsFunction p f.body passing.callee b
        → Fits s b passing values groups
        → IsCared p (with_block o s.cell_count) (with_cells s values groups)
        (SeenAbove p b (no_past o s b values groups nothing_around) Nothing) q (record f { saved = left })
    cared_running_pass {passing} {left} r b values groups is fits =
        cared_popping (block_grows nobody o s values groups) (block_left values groups) r (λ a c. its a c)
        (λ group a w l. elim w [ ])
      where
        its : (a : ℕ) → SavesCall p f.body o s a (saved_pass passing)
            → IsSeen p (with_block o s.cell_count) (with_cells s values groups)
            (SeenAbove p b (no_past o s b values groups nothing_around) Nothing) (record f { saved = left }) ⊥ a
        its a (passes_it _ x h e t l) = is_passed (inl (inl (must_of_call o s b passing values groups is fits x a h e t l)))

    pub cared_running_outside : {passing : Passing} {left : List Saved} → RunsSaved f (saved_pass passing) left
        → HasNoBody p f.body passing.callee
        → DeclaredIsTrue p s passing
        → IsCared p o s Nothing q (record f { saved = left })
    cared_running_outside {passing} {left} r no_body holds =
        cared_popping same_grows same_left r (λ a c. its a c) (λ group a w l. elim w [ ])
      where
        its : (a : ℕ) → SavesCall p f.body o s a (saved_pass passing) → IsSeen p o s Nothing (record f { saved = left }) ⊥ a
        its a (passes_it _ x h e t l) = is_met (was_called (called_there s passing no_body holds x a h e t))

    pub cared_running_literal : {c : Closure} {left : List Saved} → RunsSaved f (saved_literal c) left
        → (values : ℕ → Value) (groups : ℕ → Option ℕ)
        → IsCared p (with_block o s.cell_count) (with_cells s values groups)
        (SeenAbove p c.literal (no_past o s c.literal values groups c.newest) Nothing) q (record f { saved = left })
    cared_running_literal {c} r values groups =
        cared_popping (block_grows nobody o s values groups) (block_left values groups) r
        (λ a x. is_passed (inl (inl (literal_must c values groups x))))
        (λ group a w l. is_passed (inl (inr (literal_awaits c values groups w l))))

    pub cared_running_wait : {group : Option ℕ} {left : List Saved} → RunsSaved f (saved_wait group) left
        → MayEndWait s group
        → IsCared p o (waiting_for s group) Nothing q (record f { saved = left })
    cared_running_wait {group} {left} r ends =
        cared_popping (contexts_grow nobody o s (waiting_for s group) (waiting_changes s group))
        (left_still (waiting_changes s group)) r (λ a c. elim c [ ]) (λ number a w l. its number a w l)
      where
        its : (number a : ℕ) → SavesWait o s number (saved_wait group) → IsLeftTo o s number a
            → IsSeen p o (waiting_for s group) Nothing (record f { saved = left }) ⊥ a
        its number a (by_wait e) l = absurd (none_left number a (subst (MayEndWait s) e ends) l)

    -- Returns

    module _ (over : IsSeenOver p o s place Nothing Nothing q f) where
      -- the frame when it has come to its return
      abbrev pub back : List Handed → Frame
      back handed = record f { stage = exits; handed_on = map (handed_by s f) handed }

      abbrev SeenBack : List Handed → Past → Promises → Variable → ℕ → Type 0
      SeenBack handed now relies v a = IsSeen p o s Nothing (back handed) (IsOpen relies o s now (back handed) v a) a

      pub cared_returning : {handed : List Handed} {rest : Code Event} (d : DoesNext f (return_event handed) rest)
          → IsCared p o s Nothing (behind q d.comes_to) (back handed)
      cared_returning {handed} {rest} d = cared_on record {
        same_body = refl;
        same_least = refl;
        sees = sees_more same_grows same_left (back handed) refl (λ x h. h) (λ group h. h) (λ a bad. absurd bad)
            (λ passing x a w. absurd (none-some passing (sym d.none_waits ∙ w)));
        hands = λ a h. elim h [
          | inl x ↦ absurd (exits≢runs d.comes_to.goes_on.code (sym x.0 ∙ d.comes_to.goes_on.stage))
          | inr x ↦ inr x
        ];
        obtained = λ relies a top none h. inl h;
        own = λ relies v a top none its h. own relies v a none its h;
        duty = λ relies v a deep under h. duty relies v a under h;
        awaits = λ relies v group a under h.
            absurd (under.never_live handed q.events (occurrence_of d.comes_to) (returns relies) h.is_live.is_live);
      } cared
        where
          returns : (relies : Promises)
              → ComesToReturn (paths_of f.body.file relies f.body.place) q.events (occurrence_of d.comes_to) handed
          returns relies = record {
            reaches = reached p o s place q f it (return_event handed) rest d.comes_to;
            is_return = refl;
          }

          -- a group that is waited for at the return
          waited : (relies : Promises) (v : Variable) (a : ℕ) (k : IsPending relies o s q f v a)
              → AreTakenUp p f.body relies
              → group_class_of relies k.left_to q.events ≡ awaited
              → SeenBack handed (behind q d.comes_to) relies v a
          waited relies v a k up class =
              let r = over.awaits relies k.code k.left_to k.group up k.is_other.is_of_body k.is_other.is_group_variable
              k.stage class k.is_held in
              left_to_awaited k.group r.0 r.1 r.2 k.is_left

          hands_on : (h : Handed) (a : ℕ) → Contains handed h → handed_by s f h ≡ cancel_function a → LetsGo (back handed) a
          hands_on h a among is =
              inl (refl, subst (λ y. Contains (map (handed_by s f) handed) y) is (contains_map (handed_by s f) handed h among))

          -- by itself
          hand : (v a : ℕ) → is_handed v handed ≡ true → held s f v ≡ cancel_function a → LetsGo (back handed) a
          hand v a e h =
              let r = handed_there handed v e in
              hands_on r.0 a r.1 (of_none r.0 r.3 ∙ ap (held s f) r.2 ∙ h)
            where
              of_none : (y : Handed) → y.object ≡ None → handed_by s f y ≡ held s f y.number
              of_none y none = ap (value_handed s f y.number) none

          -- or in its object
          hand_kept : (v a : ℕ) → is_handed_kept v handed ≡ true → held s f v ≡ cancel_function a → AreKept f v a
              → LetsGo (back handed) a
          hand_kept v a e h keeps =
              let r = handed_kept_there handed v e in
              hands_on r.0 a r.1 (by r.0 r.1 r.2 r.0.object refl)
            where
              by : (y : Handed) → Contains handed y → y.number ≡ v → (x : Option ℕ) → y.object ≡ x
                  → handed_by s f y ≡ cancel_function a
              by y among same None e = ap (value_handed s f y.number) e ∙ ap (held s f) same ∙ h
              by y among same (Some x) e =
                  ap (value_handed s f y.number) e
                  ∙ ap (λ n. kept_value f.kept n x) same
                  ∙ keeps x (subst (λ n. IsItsObject f.body.file n x) same
                  (events_keep_well p f.body it.is_of q.events (occurrence_of d.comes_to)
                  (reached p o s place q f it (return_event handed) rest d.comes_to) y among x e))

          owes : (relies : Promises) (v : Variable) → IsOwn f.body v → is_handed v.number handed ≡ false
              → OwesCall (paths_of f.body.file relies f.body.place) v handed
          owes relies v its kept = record {
            is_of_body = its.is_of_body;
            is_cancel_variable = its.is_cancel_variable;
            is_declared_here = its.is_declared_here;
            is_kept = kept;
          }

          own : (relies : Promises) (v : Variable) (a : ℕ) → HasNoFaultUnder p f.body relies
              → IsOwn f.body v
              → IsOpen relies o s q f v a
              → LetsGo (back handed) a
              ⊎ SeenBack handed (behind q d.comes_to) relies v a
          own relies v a none its (is_held c stage k h) = elim (cases_Bool (is_handed v.number handed)) [
            | inl e ↦ inl (hand v.number a e h)
            | inr e ↦ absurd (none.none _ (returns_open v handed q.events (occurrence_of d.comes_to) (returns relies) (owes relies v its e) k))
          ]
          own relies v a none its (is_kept c stage k declared h keeps) = elim (cases_Bool (is_handed_kept v.number handed)) [
            | inl e ↦ inl (hand_kept v.number a e h keeps)
            | inr e ↦ absurd (none.none _ (returns_kept v handed q.events (occurrence_of d.comes_to) (returns relies)
                (owes relies v its (handed_neither v.number handed e)) k e))
          ]
          own relies v a none its (is_pending k h) = elim k.is_working [
            | inr class ↦ inr (waited relies v a k none.are_taken_up class)
            | inl works ↦ elim (cases_Bool (is_handed v.number handed)) [
              | inl e ↦ inl (hand v.number a e h)
              | inr e ↦ absurd (returns_none_pending relies f.body none.none v k.left_to handed q.events (occurrence_of d.comes_to)
                  (owes relies v its e) k.is_other.is_of_body k.is_other.is_group_variable (returns relies) k.is_pending works)
            ]
          ]

          duty : (relies : Promises) (v : Variable) (a : ℕ) → IsCalledUnder p f.body relies v
              → IsOpen relies o s q f v a
              → SeenBack handed (behind q d.comes_to) relies v a
          duty relies v a under (is_held c stage k h) =
              absurd (under.keeps.never_open handed q.events (occurrence_of d.comes_to) (returns relies) k)
          duty relies v a under (is_kept c stage k declared h keeps) =
              absurd (under.keeps.never_kept handed q.events (occurrence_of d.comes_to) (returns relies) k)
          duty relies v a under (is_pending k h) = elim k.is_working [
            | inr class ↦ waited relies v a k under.are_taken_up class
            | inl works ↦ absurd (kept_is_not_pending relies f.body v k.left_to handed q.events (occurrence_of d.comes_to) under.keeps
                k.is_other.is_of_body k.is_other.is_group_variable (returns relies) k.is_pending works)
          ]

      -- The frame stands at its return with nothing left to do. It is known of its body what the paths of its package say.
      module _ (none : (relies : Promises) × HasNoFaultUnder p f.body relies)
          (relied : (v : Variable) → IsRelied p f.body v → (relies : Promises) × IsCalledUnder p f.body relies v)
          (waited : (v : Variable) → IsWaitingFor f.body v → (relies : Promises) × IsWaitedForUnder p f.body relies v)
          (ended : IsAtEnd f)
        where
          saves_none : (x : Saved) → Contains f.saved x → ⊥
          saves_none x h = contains_nil x (subst (λ l. Contains l x) ended.saved h)

          settled_over : (relies : Promises) (v : Variable) (a : ℕ) → IsSettled relies o s Nothing Nothing q f v a
              → IsOver s Nothing a ⊎ IsGone o a
          settled_over relies v a (is_over h) = inl h
          settled_over relies v a (is_gone h) = inr h
          settled_over relies v a (is_saved_for x h w) = absurd (saves_none x h)
          settled_over relies v a (is_above bad) = absurd bad
          settled_over relies v a (is_live h) = absurd (exits≢runs h.code (sym ended.stage ∙ h.stage))

          pub made_over : (a : ℕ) → Contains f.made a → IsOver s Nothing a ⊎ IsGone o a
          made_over a h = let r = over.made none.0 a none.1 h in settled_over none.0 r.0 a r.2

          seen_at_end : {Open : Type 0} (a : ℕ) → (Open → ⊥) → IsSeen p o s Nothing f Open a → IsMet p o s a
          seen_at_end a closed (is_met h) = h
          seen_at_end a closed (is_saved x h c) = absurd (saves_none x h)
          seen_at_end a closed (is_passed bad) = absurd bad
          seen_at_end a closed (is_waiting passing x w h e t l) =
              absurd (none-some passing (sym (it.none_waits ended.stage) ∙ w))
          seen_at_end a closed (left_to_made group h l) = elim (made_over group h) [
            | inl over ↦ absurd (none_left group a over.has_no_member l)
            | inr gone ↦ is_taken (left_is_taken group a gone.has_gone l)
          ]
          seen_at_end a closed (left_to_awaited group x h w l) = absurd (saves_none x h)
          seen_at_end a closed (is_open h) = absurd (closed h)

          closed_at_end : (relies : Promises) (v : Variable) (a : ℕ) → IsOpen relies o s q f v a → ⊥
          closed_at_end relies v a (is_held c stage k h) = exits≢runs c (sym ended.stage ∙ stage)
          closed_at_end relies v a (is_kept c stage k declared h keeps) = exits≢runs c (sym ended.stage ∙ stage)
          closed_at_end relies v a (is_pending k h) = exits≢runs k.code (sym ended.stage ∙ k.stage)

          pub owed_at_end : (a : ℕ) → o.least ≡ 0 → Owes f a → IsMet p o s a
          owed_at_end a top owes = elim (cared.obtained none.0 a top none.1 owes.was_obtained) [
            | inl h ↦ elim h [ inl x ↦ absurd (owes.is_kept x.1) | inr x ↦ absurd (owes.is_its_own x) ]
            | inr r ↦ seen_at_end a (closed_at_end none.0 r.0 a) r.2
          ]

          pub must_at_end : (a : ℕ) → MustSee p f.body q a → IsMet p o s a
          must_at_end a (inl x) =
              let r = relied x.0 x.1 in
              seen_at_end a (closed_at_end r.0 x.0 a) (cared.duties r.0 x.0 a (subst (λ n. n ≤ level f.body x.0) cared.same_least x.3) r.1 x.2)
          must_at_end a (inr x) =
              let r = waited x.0 x.2 in
              seen_at_end a (λ (h : IsStillLeft r.0 o s q f x.0 x.1 a). exits≢runs h.is_live.code (sym ended.stage ∙ h.is_live.stage))
              (cared.awaits r.0 x.0 x.1 a r.1 x.3 x.4)
