-- What the running frame does at an event that binds nothing keeps what is said of its cancel functions.
use Rattle.std.proofs.Common.{◌≡◌, ℕ, ◌+◌, ◌<◌, ◌≤◌, arith, ◌⊎◌, inl, inr, Bool, true, false, cond, List, [], ◌∷◌, Option, Some, None, Contains, refl, sym, ap, ◌∙◌, subst}
use Rattle.std.specs.Prelude.{◌==◌, ◌&&◌}
use Rattle.std.proofs.lemmas.Bool.{cases_Bool, cases_eq, eq-eqb, ne_eqb}
use Rattle.std.proofs.lemmas.Option.{none-some}
use Rattle.meaning.specs.Code.{Code}
use Rattle.meaning.specs.FunctionFacts.{cancel, group as group_kind}
use Rattle.meaning.specs.Tracked.{live}
use Rattle.meaning.specs.Uses.{Callee, VariableAt, Event, other, call, defer_call, lend, try, wait, defer_wait, defer_literal, Work, go_literal, go}
use Rattle.meaning.specs.BodyEvents.{Variable, VariableRole, own_parameter, own_receiver, declared_in_body, captured}
use Rattle.meaning.specs.Classes.{Promises, CancelClass, opened, kept, safe, pending, left_to, started, waited_over, change_cancel, GroupClass, in_state, awaited, at_work, at_rest, change_group}
use Rattle.meaning.proofs.Membership.{contains_here, contains_there}
use Rattle.meaning_packages.specs.PathFaults.{is_declared}
use Rattle.meaning_reports.specs.UsedImports.{HandsTo}
use Rattle.meaning_runs.specs.Bodies.{Program, Body, IsLiteralIn, variables_in}
use Rattle.meaning_runs.specs.World.{nothing, cancel_function, nobody, Place, Store, MayEndWait, calling, waiting_for, Given, Lent, Passing, Closure, Saved, saved_call, saved_literal, saved_wait, runs, Frame, in_cell, held, held_group}
use Rattle.meaning_runs.specs.Steps.{GoesOn, ComesTo, DoesNext, MayJoin, is_first, is_next, joining, evaluating, lending, at_code, Starts, by_start, by_try}
use Rattle.meaning_runs.specs.Duties.{TakesUp, IsWaitingFor, AreTakenUp}
use Rattle.meaning_runs.proofs.CaredFor.{level_in, level, IsMet, was_called, IsLeftTo, calls_it, credits_it, IsOtherGroup, IsPending, IsOpen, is_held, is_kept, is_pending, IsStillLeft, IsSeen, is_met, is_saved, is_waiting, left_to_made, left_to_awaited, is_open, IsCared, relied_there, AreKept}
use Rattle.meaning_runs.proofs.CaredGoesOn.{LeftStill, left_same, none_left, left_or_met, seen_anyway, cared_on, still_value, sees_more, cared_goes}
use Rattle.meaning_runs.proofs.GroupClasses.{group_next, work_live, starting_change, named_so, named_otherwise}
use Rattle.meaning_runs.proofs.GroupPaths.{is_made, made_works, still_works, group_class_of, IsWorking}
use Rattle.meaning_runs.proofs.Holders.{Grows, IsHolder}
use Rattle.meaning_runs.proofs.HandedEvents.{hands_there}
use Rattle.meaning_runs.proofs.HolderFrames.{reached, still_holds}
use Rattle.meaning_runs.proofs.HolderSteps.{captured_is_frozen, own_is_declared, held_in}
use Rattle.meaning_runs.proofs.MadeGroups.{by_wait, by_literal, Nothing}
use Rattle.meaning_runs.proofs.Places.{class_of, class_next, called_now, exits≢runs}
use Rattle.meaning_runs.proofs.Remembered.{Origins, Past, behind, occurrence_of}
use Rattle.meaning_runs.proofs.StoreGrowth.{frame-nobody, ChangesContexts, no_change, calling_changes, waiting_changes, contexts_grow}
use Rattle.meaning_runs.proofs.WhoStarts.{BodiesAreWellUsed}
use Rattle.meaning_runs.proofs.OwnNumbers.{wait_is_captured, credit_is_captured}

pub in_cell_some : (s : Store) (v a : ℕ) (cell : Option ℕ) → in_cell s v cell ≡ cancel_function a
    → (k : ℕ) × (cell ≡ Some k) × (s.cells k v ≡ cancel_function a)
in_cell_some s v a None e = let bad : nothing ≡ cancel_function a = e in absurd cc
in_cell_some s v a (Some k) e = (k, refl, e)

-- a group whose work may have ended, and of which a Wait is saved or not
works_or_awaited : (b : Bool) (k : GroupClass) → IsWorking k → IsWorking (cond b awaited k)
works_or_awaited true k w = inr refl
works_or_awaited false k w = w

works_at_work : (b : Bool) (k : GroupClass) → IsWorking k → IsWorking (cond b (at_work k) k)
works_at_work true k w = still_works k w
works_at_work false k w = w

-- a cancel variable of the body
abbrev pub IsItsCancel : Body → Variable → Type 0
IsItsCancel b v = Contains (variables_in b) v × (v.kind ≡ cancel)

-- a store that changed in contexts and calls alone has the members that it had
pub left_still : {p : Program} {o : Origins} {s after : Store} → ChangesContexts s after → LeftStill p o s o after
left_still changes =
    left_same (λ g. ap (λ (m : ℕ → Option ℕ). m g) changes.same_member) (λ g. refl) (λ r h. h) refl

-- nothing of a body stands deeper than what its literals capture
pub level_low : (b : Body) (v : Variable) → level b v ≤ b.place.at + 2
level_low b v = by v.role
  where
    by : (r : VariableRole) → level_in b.place.at r ≤ b.place.at + 2
    by declared_in_body = omega arith
    by (own_parameter k) = omega arith
    by own_receiver = omega arith
    by captured = omega arith

-- so what a literal in it captures stands deeper
pub goes_deeper : (least : ℕ) (b literal : Body) (u v : Variable) → least ≤ level b u → b.place.at < literal.place.at
    → v.role ≡ captured
    → least < level literal v
goes_deeper least b literal u v deep behind is =
    let low = level_low b u in
    subst (λ r. least < level_in literal.place.at r) (sym is) (omega (arith, deep, behind, low))

-- a try leaves nothing to a member, of which it is not known that it begins
start_changes : (e : Event) (v : ℕ) (literal : Option ℕ) → Starts e v literal
    → (known : Option ℕ) × ((at : ℕ) → known ≡ Some at → literal ≡ Some at)
    × ((relies : Promises) (u : ℕ) (k : CancelClass) → change_cancel relies u e k ≡ started relies u v known k)
start_changes e v literal by_start = (literal, λ at is. is, λ relies u k. refl)
start_changes e v literal by_try = (None, λ at is. absurd (none-some at is), λ relies u k. refl)

-- what a literal waits for it captures
joined_callee : (w : Option Passing) (c : Callee) (is_deferred : Bool) (k : ℕ) (xs : List Given) (ys : List Lent) → MayJoin c is_deferred k w
    → (joining w c is_deferred xs ys).callee ≡ c
joined_callee w c is_deferred k xs ys is_first = refl
joined_callee w c is_deferred k xs ys (is_next same d rising above) = same

joined_has : (w : Option Passing) (c : Callee) (is_deferred : Bool) (x : Given) → Contains (joining w c is_deferred (x ∷ []) []).given x
joined_has None c is_deferred x = contains_here x []
joined_has (Some passing) c is_deferred x = contains_here x passing.given

module _ {p : Program} {o : Origins} {s : Store} {place : Place} {q : Past} {f : Frame}
    (it : IsHolder p o s place q f) (cared : IsCared p o s Nothing q f)
  where
    -- It goes past an event, in a store where it wrote nothing; others may have become members.
    module _ {after_o : Origins} {after : Store} (grows : Grows nobody o after_o s after)
        (still : LeftStill p o s after_o after) {e : Event} {rest : Code Event} (d : ComesTo f e rest)
        (waiting : Option Passing) (saved : List Saved)
      where
        abbrev pub gone : Frame
        gone = record f { stage = runs rest; waiting = waiting; saved = saved }

        abbrev pub SeenNow : Type 0 → ℕ → Type 0
        SeenNow Open a = IsSeen p after_o after Nothing gone Open a

        abbrev pub OpenNow : Promises → Variable → ℕ → Type 0
        OpenNow relies v a = IsOpen relies after_o after (behind q d) gone v a

        abbrev pub LeftNow : Promises → Variable → ℕ → ℕ → Type 0
        LeftNow relies v group a = IsStillLeft relies after_o after (behind q d) gone v group a

        value_now : (v : ℕ) → held after f v ≡ held s f v
        value_now v = still_value grows p place q f (frame-nobody place) it v

        pub group_now : (v : ℕ) → held_group after f v ≡ held_group s f v
        group_now v = still_holds nobody o after_o s after grows p place q f (frame-nobody place) it v

        class_now : (relies : Promises) (v : Variable)
            → class_of relies v (behind q d).events ≡ change_cancel relies v.number e (class_of relies v q.events)
        class_now relies v = class_next relies v q.events (occurrence_of d)

        pub group_class_now : (relies : Promises) (v : Variable)
            → group_class_of relies v (behind q d).events
            ≡ change_group relies v.number e (group_class_of relies v q.events)
        group_class_now relies v = group_next relies v q.events (occurrence_of d)

        pub kept_still : (relies : Promises) (v : Variable) (a : ℕ) → change_cancel relies v.number e kept ≡ kept
            → class_of relies v q.events ≡ kept
            → is_declared v.role ≡ true
            → held s f v.number ≡ cancel_function a
            → AreKept f v.number a
            → SeenNow (OpenNow relies v a) a
        kept_still relies v a stays k declared h keeps =
            is_open (is_kept rest refl (class_now relies v ∙ ap (λ c. change_cancel relies v.number e c) k ∙ stays) declared
            (value_now v.number ∙ h) keeps)

        pub held_still : (relies : Promises) (v : Variable) (a : ℕ) → change_cancel relies v.number e opened ≡ opened
            → class_of relies v q.events ≡ opened
            → held s f v.number ≡ cancel_function a
            → SeenNow (OpenNow relies v a) a
        held_still relies v a stays k h =
            is_open (is_held rest refl (class_now relies v ∙ ap (λ c. change_cancel relies v.number e c) k ∙ stays)
            (value_now v.number ∙ h))

        -- what was left to a group that works, and of which the class is this now
        pub left_in : (relies : Promises) (v : Variable) (a : ℕ) (u : Variable) (group : ℕ)
            → change_cancel relies v.number e (class_of relies v q.events) ≡ pending u.number
            → IsOtherGroup f.body u
            → IsWorking (change_group relies u.number e (group_class_of relies u q.events))
            → held_group s f u.number ≡ Some group
            → held s f v.number ≡ cancel_function a
            → IsLeftTo after_o after group a
            → SeenNow (OpenNow relies v a) a
        left_in relies v a u group k is_other works h g l = is_open (is_pending record {
          code = rest;
          stage = refl;
          left_to = u;
          group = group;
          is_pending = class_now relies v ∙ k;
          is_other = is_other;
          is_working = subst IsWorking (sym (group_class_now relies u)) works;
          is_held = group_now u.number ∙ h;
          is_left = l;
        } (value_now v.number ∙ g))

        pub pending_still : (relies : Promises) (v : Variable) (a : ℕ) (k : IsPending relies o s q f v a)
            → change_cancel relies v.number e (pending k.left_to.number) ≡ pending k.left_to.number
            → IsWorking (change_group relies k.left_to.number e (group_class_of relies k.left_to q.events))
            → held s f v.number ≡ cancel_function a
            → SeenNow (OpenNow relies v a) a
        pending_still relies v a k stays works h =
            left_or_met still k.group a (left_in relies v a k.left_to k.group
            (ap (λ c. change_cancel relies v.number e c) k.is_pending ∙ stays) k.is_other works k.is_held h)
            (λ x. is_met x) k.is_left

        -- the event keeps a group at work that the body does not make
        abbrev pub Works : Promises → Type 0
        Works relies = (u : Variable) → IsOtherGroup f.body u → (k : GroupClass)
            → IsWorking k
            → IsWorking (change_group relies u.number e k)

        abbrev pub IsSafe : Promises → Variable → ℕ → Type 0
        IsSafe relies v a = ((k : CancelClass) → change_cancel relies v.number e k ≡ k)
            ⊎ (held s f v.number ≡ cancel_function a → SeenNow ⊥ a)

        -- an event that keeps the class of a variable, or sees to what it holds
        pub safely : (relies : Promises) (v : Variable) (a : ℕ) → IsSafe relies v a
            → Works relies
            → IsOpen relies o s q f v a
            → SeenNow (OpenNow relies v a) a
        safely relies v a (inl same) works (is_held c stage k h) = held_still relies v a (same opened) k h
        safely relies v a (inl same) works (is_kept c stage k declared h keeps) =
            kept_still relies v a (same kept) k declared h keeps
        safely relies v a (inl same) works (is_pending k h) =
            pending_still relies v a k (same (pending k.left_to.number))
            (works k.left_to k.is_other (group_class_of relies k.left_to q.events) k.is_working) h
        safely relies v a (inr sees) works (is_held c stage k h) = seen_anyway (sees h)
        safely relies v a (inr sees) works (is_kept c stage k declared h keeps) = seen_anyway (sees h)
        safely relies v a (inr sees) works (is_pending k h) = seen_anyway (sees h)

        pub live_still : (relies : Promises) (v : Variable) (group a : ℕ)
            → change_group relies v.number e (in_state live) ≡ in_state live
            → IsStillLeft relies o s q f v group a
            → SeenNow (LeftNow relies v group a) a
        live_still relies v group a stays h =
            left_or_met still group a (λ l. is_open record {
              is_live = record {
                code = rest;
                stage = refl;
                is_live = group_class_now relies v ∙ ap (λ c. change_group relies v.number e c) h.is_live.is_live ∙ stays;
                is_held = group_now v.number ∙ h.is_live.is_held;
              };
              is_left = l;
            }) (λ x. is_met x) h.is_left

        -- what a call under way has to see to
        abbrev pub WaitsOn : Type 0
        WaitsOn = (passing : Passing) (x : Given) (a : ℕ) → f.waiting ≡ Some passing
            → Contains passing.given x
            → x.value ≡ cancel_function a
            → TakesUp p f.body passing.callee x.position
            → o.least ≤ 1
            → SeenNow ⊥ a

        pub none_wait : f.waiting ≡ None → WaitsOn
        none_wait none passing x a w = absurd (none-some passing (sym none ∙ w))

        pub cared_event : WaitsOn
            → ((x : Saved) → Contains f.saved x → Contains saved x)
            → ((relies : Promises) (v : Variable) (a : ℕ) → o.least ≤ level f.body v
            → AreTakenUp p f.body relies
            → IsItsCancel f.body v
            → IsOpen relies o s q f v a
            → SeenNow (OpenNow relies v a) a)
            → ((relies : Promises) (v : Variable) (group a : ℕ) → AreTakenUp p f.body relies
            → IsWaitingFor f.body v
            → IsStillLeft relies o s q f v group a
            → SeenNow (LeftNow relies v group a) a)
            → IsCared p after_o after Nothing (behind q d) gone
        cared_event waits more opens lives = cared_on record {
          same_body = refl;
          same_least = grows.same_least;
          sees = sees_more grows still gone refl more (λ group h. h) (λ a bad. absurd bad) waits;
          hands = λ a h. elim h [
            | inl x ↦ absurd (exits≢runs d.goes_on.code (sym x.0 ∙ d.goes_on.stage))
            | inr x ↦ inr x
          ];
          obtained = λ relies a top none h. inl h;
          own = λ relies v a top none own h.
              inr (opens relies v a (omega (arith, top)) none.are_taken_up (own.is_of_body, own.is_cancel_variable) h);
          duty = λ relies v a deep under h.
              opens relies v a deep under.are_taken_up (relied_there p f.body v under.is_relied) h;
          awaits = λ relies v group a under h. lives relies v group a under.are_taken_up under.waits_for h;
        } cared

    same_grows : Grows nobody o o s s
    same_grows = contexts_grow nobody o s s (no_change s)

    same_left : LeftStill p o s o s
    same_left = left_still (no_change s)

    pub cared_other : {rest : Code Event} (d : DoesNext f other rest)
        → IsCared p o s Nothing (behind q d.comes_to) (at_code f rest)
    cared_other d =
        let c = d.comes_to in
        cared_event same_grows same_left c f.waiting f.saved (none_wait same_grows same_left c f.waiting f.saved d.none_waits)
        (λ x h. h)
        (λ relies v a deep up its h. safely same_grows same_left c f.waiting f.saved relies v a (inl (λ k. refl)) (λ u is k w. w) h)
        (λ relies v group a up waits h. live_still same_grows same_left c f.waiting f.saved relies v group a refl h)

    pub cared_silent : {rest : Code Event} (d : GoesOn f None rest) → IsCared p o s Nothing q (at_code f rest)
    cared_silent {rest} d =
        cared_goes same_grows same_left (frame-nobody place) it (runs rest) f.waiting f.saved (λ c e. (rest, refl))
        (λ e. absurd (exits≢runs d.code (sym e ∙ d.stage)))
        (sees_more same_grows same_left (at_code f rest) refl (λ x h. h) (λ group h. h) (λ a bad. absurd bad)
        (λ passing x a w h e t l. is_waiting passing x w h e t l)) cared

    pub cared_calling : {v : ℕ} {rest : Code Event} (d : DoesNext f (call v) rest)
        → IsCared p o (calling s (held s f v)) Nothing (behind q d.comes_to) (at_code f rest)
    cared_calling {v} {rest} d =
        cared_event grows still c f.waiting f.saved (none_wait grows still c f.waiting f.saved d.none_waits) (λ x h. h)
        (λ relies u a deep up its h. safely grows still c f.waiting f.saved relies u a (by_number relies u a (cases_eq v u.number)) (λ w is k i. i) h)
        (λ relies u group a up waits h. live_still grows still c f.waiting f.saved relies u group a refl h)
      where
        c : ComesTo f (call v) rest
        c = d.comes_to

        after : Store
        after = calling s (held s f v)

        grows : Grows nobody o o s after
        grows = contexts_grow nobody o s after (calling_changes s (held s f v))

        still : LeftStill p o s o after
        still = left_still (calling_changes s (held s f v))

        by_number : (relies : Promises) (u : Variable) (a : ℕ) → (v ≡ u.number) ⊎ (v ≡ u.number → ⊥)
            → IsSafe grows still c f.waiting f.saved relies u a
        by_number relies u a (inl same) =
            inr (λ h. is_met (was_called (called_now s (held s f v) a (ap (held s f) same ∙ h))))
        by_number relies u a (inr ne) = inl (λ k. named_otherwise v u.number safe k ne)

    pub cared_saving_call : {v : ℕ} {rest : Code Event} (d : DoesNext f (defer_call v) rest)
        → IsCared p o s Nothing (behind q d.comes_to)
        (record f { stage = runs rest; saved = saved_call (held s f v) ∷ f.saved })
    cared_saving_call {v} {rest} d =
        cared_event same_grows same_left c f.waiting saved (none_wait same_grows same_left c f.waiting saved d.none_waits)
        (λ x h. contains_there item x f.saved h)
        (λ relies u a deep up its h. safely same_grows same_left c f.waiting saved relies u a (by_number relies u a (cases_eq v u.number)) (λ w is k i. i) h)
        (λ relies u group a up waits h. live_still same_grows same_left c f.waiting saved relies u group a refl h)
      where
        c : ComesTo f (defer_call v) rest
        c = d.comes_to

        item : Saved
        item = saved_call (held s f v)

        saved : List Saved
        saved = item ∷ f.saved

        by_number : (relies : Promises) (u : Variable) (a : ℕ) → (v ≡ u.number) ⊎ (v ≡ u.number → ⊥)
            → IsSafe same_grows same_left c f.waiting saved relies u a
        by_number relies u a (inl same) =
            inr (λ h. is_saved item (contains_here item f.saved) (calls_it (ap (held s f) same ∙ h)))
        by_number relies u a (inr ne) = inl (λ k. named_otherwise v u.number safe k ne)

    -- Arguments of a call

    -- what arguments before had to see to, this call has to
    joins_on : {e : Event} {rest : Code Event} (d : ComesTo f e rest) (callee : Callee) (is_deferred : Bool)
        (xs : List Given) (ys : List Lent)
        → WaitsOn same_grows same_left d (Some (joining f.waiting callee is_deferred (xs) ys)) f.saved
    joins_on d callee is_deferred xs ys passing x a w h e t l =
        is_waiting (joining (Some passing) callee is_deferred xs ys) x
        (ap (λ (m : Option Passing). Some (joining m callee is_deferred xs ys)) w) (behind_all xs) e t l
      where
        behind_all : (zs : List Given) → Contains (joining (Some passing) callee is_deferred zs ys).given x
        behind_all [] = h
        behind_all (z ∷ zs) = contains_there z x (joining (Some passing) callee is_deferred zs ys).given (behind_all zs)

    pub cared_evaluating : {e : Event} {rest : Code Event} (u : VariableAt) (callee : Callee) (position : ℕ)
        (is_deferred : Bool) (d : ComesTo f e rest)
        → MayJoin callee is_deferred position f.waiting
        → ((relies : Promises) (v : ℕ) (k : CancelClass)
        → change_cancel relies v e k ≡ cond ((u.number == v) && relies.calls callee position) safe k)
        → ((relies : Promises) (v : ℕ) (k : GroupClass) → change_group relies v e k ≡ k)
        → HandsTo callee e
        → ((v : Variable) → Contains (variables_in f.body) v → u.number ≡ v.number → level f.body v ≤ 1)
        → IsCared p o s Nothing (behind q d) (evaluating s f u.number callee position is_deferred rest)
    cared_evaluating {e = e} {rest = rest} u callee position is_deferred d joins changes keeps hands low =
        cared_event same_grows same_left d waiting f.saved (joins_on d callee is_deferred (x ∷ []) []) (λ y h. h)
        (λ relies v a deep up its h. safely same_grows same_left d waiting f.saved relies v a
        (by_number relies v a deep its.0 up (cases_eq u.number v.number) (cases_Bool (relies.calls callee position)))
        (λ w is k i. subst IsWorking (sym (keeps relies w.number k)) i) h)
        (λ relies v group a up waits h.
        live_still same_grows same_left d waiting f.saved relies v group a (keeps relies v.number (in_state live)) h)
      where
        x : Given
        x = record { position = position; value = held s f u.number }

        joined : Passing
        joined = joining f.waiting callee is_deferred (x ∷ []) []

        waiting : Option Passing
        waiting = Some joined

        by_number : (relies : Promises) (v : Variable) (a : ℕ) → o.least ≤ level f.body v
            → Contains (variables_in f.body) v
            → AreTakenUp p f.body relies
            → (u.number ≡ v.number) ⊎ (u.number ≡ v.number → ⊥)
            → (relies.calls callee position ≡ true) ⊎ (relies.calls callee position ≡ false)
            → IsSafe same_grows same_left d waiting f.saved relies v a
        by_number relies v a deep among up (inl same) (inl calls) = inr (λ h.
            is_waiting joined x refl (joined_has f.waiting callee is_deferred x) (ap (held s f) same ∙ h)
            (subst (λ g. TakesUp p f.body g position)
            (sym (joined_callee f.waiting callee is_deferred position (x ∷ []) [] joins))
            (up.functions callee position (hands_there f.body it.is_of.is_body callee q.events (occurrence_of d) (reached p o s place q f it e rest d) hands) calls))
            (let one = low v among same in omega (arith, deep, one)))
        by_number relies v a deep among up (inl same) (inr calls) = inl (λ k. changes relies v.number k
            ∙ ap (λ b. cond (b && relies.calls callee position) safe k) (eq-eqb u.number v.number same)
            ∙ ap (λ b. cond b safe k) calls)
        by_number relies v a deep among up (inr ne) calls = inl (λ k. changes relies v.number k
            ∙ ap (λ b. cond (b && relies.calls callee position) safe k) (ne_eqb u.number v.number ne))

    pub cared_lending : {v : ℕ} {callee : Callee} {position : ℕ} {rest : Code Event}
        (d : ComesTo f (lend v callee position) rest)
        → IsCared p o s Nothing (behind q d) (lending s f v callee position rest)
    cared_lending {v} {callee} {position} d =
        cared_event same_grows same_left d waiting f.saved (joins_on d callee false [] (y ∷ [])) (λ x h. h)
        (λ relies u a deep up its h. safely same_grows same_left d waiting f.saved relies u a (inl (λ k. refl))
        (λ w is k i. works_at_work (v == w.number) k i) h)
        (λ relies u group a up waits h. live_still same_grows same_left d waiting f.saved relies u group a
        (work_live (v == u.number) (in_state live) refl) h)
      where
        y : Lent
        y = record { position = position; group = held_group s f v }

        waiting : Option Passing
        waiting = Some (joining f.waiting callee false [] (y ∷ []))

    -- Groups

    pub cared_trying : {v : ℕ} {literal : Option ℕ} {rest : Code Event} (d : DoesNext f (try v literal) rest)
        → IsCared p o s Nothing (behind q d.comes_to) (at_code f rest)
    cared_trying {v} d =
        let c = d.comes_to in
        cared_event same_grows same_left c f.waiting f.saved (none_wait same_grows same_left c f.waiting f.saved d.none_waits)
        (λ x h. h)
        (λ relies u a deep up its h. safely same_grows same_left c f.waiting f.saved relies u a (inl (λ k. refl))
        (λ w is k i. works_at_work (v == w.number) k i) h)
        (λ relies u group a up waits h. live_still same_grows same_left c f.waiting f.saved relies u group a
        (work_live (v == u.number) (in_state live) refl) h)

    pub cared_waiting : {v : ℕ} {rest : Code Event} (d : DoesNext f (wait v) rest) → MayEndWait s (held_group s f v)
        → IsCared p o (waiting_for s (held_group s f v)) Nothing (behind q d.comes_to) (at_code f rest)
    cared_waiting {v} {rest} d ends =
        cared_event grows still c f.waiting f.saved (none_wait grows still c f.waiting f.saved d.none_waits) (λ x h. h)
        (λ relies u a deep up its h. opens relies u a h)
        (λ relies u group a up waits h. lives relies u group a h (cases_eq v u.number))
      where
        c : ComesTo f (wait v) rest
        c = d.comes_to

        after : Store
        after = waiting_for s (held_group s f v)

        grows : Grows nobody o o s after
        grows = contexts_grow nobody o s after (waiting_changes s (held_group s f v))

        still : LeftStill p o s o after
        still = left_still (waiting_changes s (held_group s f v))

        nobody_there : (u group a : ℕ) → held_group s f u ≡ Some group → IsLeftTo o s group a → v ≡ u → ⊥
        nobody_there u group a h l same =
            none_left group a (subst (MayEndWait s) (ap (held_group s f) same ∙ h) ends) l

        pending_elsewhere : (relies : Promises) (u : Variable) (a : ℕ) (k : IsPending relies o s q f u a)
            → held s f u.number ≡ cancel_function a
            → (v ≡ k.left_to.number) ⊎ (v ≡ k.left_to.number → ⊥)
            → SeenNow grows still c f.waiting f.saved (OpenNow grows still c f.waiting f.saved relies u a) a
        pending_elsewhere relies u a k h (inl same) =
            absurd (nobody_there k.left_to.number k.group a k.is_held k.is_left same)
        pending_elsewhere relies u a k h (inr ne) =
            let class = group_class_of relies k.left_to q.events in
            pending_still grows still c f.waiting f.saved relies u a k
            (named_otherwise v k.left_to.number safe (pending k.left_to.number) ne)
            (subst IsWorking (sym (named_otherwise v k.left_to.number (at_rest class) class ne)) k.is_working) h

        opens : (relies : Promises) (u : Variable) (a : ℕ) → IsOpen relies o s q f u a
            → SeenNow grows still c f.waiting f.saved (OpenNow grows still c f.waiting f.saved relies u a) a
        opens relies u a (is_held code stage k h) = held_still grows still c f.waiting f.saved relies u a refl k h
        opens relies u a (is_kept code stage k declared h keeps) =
            kept_still grows still c f.waiting f.saved relies u a refl k declared h keeps
        opens relies u a (is_pending k h) = pending_elsewhere relies u a k h (cases_eq v k.left_to.number)

        lives : (relies : Promises) (u : Variable) (group a : ℕ) → IsStillLeft relies o s q f u group a
            → (v ≡ u.number) ⊎ (v ≡ u.number → ⊥)
            → SeenNow grows still c f.waiting f.saved (LeftNow grows still c f.waiting f.saved relies u group a) a
        lives relies u group a h (inl same) = absurd (nobody_there u.number group a h.is_live.is_held h.is_left same)
        lives relies u group a h (inr ne) =
            live_still grows still c f.waiting f.saved relies u group a
            (named_otherwise v u.number (at_rest (in_state live)) (in_state live) ne) h

    pub cared_saving_wait : {v : ℕ} {rest : Code Event} (d : DoesNext f (defer_wait v) rest)
        → IsCared p o s Nothing (behind q d.comes_to)
        (record f { stage = runs rest; saved = saved_wait (held_group s f v) ∷ f.saved })
    cared_saving_wait {v} {rest} d =
        cared_event same_grows same_left c f.waiting saved (none_wait same_grows same_left c f.waiting saved d.none_waits)
        (λ x h. contains_there item x f.saved h)
        (λ relies u a deep up its h. safely same_grows same_left c f.waiting saved relies u a (inl (λ k. refl))
        (λ w is k i. works_or_awaited (v == w.number) k i) h)
        (λ relies u group a up waits h. lives relies u group a h (cases_eq v u.number))
      where
        c : ComesTo f (defer_wait v) rest
        c = d.comes_to

        item : Saved
        item = saved_wait (held_group s f v)

        saved : List Saved
        saved = item ∷ f.saved

        lives : (relies : Promises) (u : Variable) (group a : ℕ) → IsStillLeft relies o s q f u group a
            → (v ≡ u.number) ⊎ (v ≡ u.number → ⊥)
            → SeenNow same_grows same_left c f.waiting saved (LeftNow same_grows same_left c f.waiting saved relies u group a) a
        lives relies u group a h (inl same) =
            left_to_awaited group item (contains_here item f.saved)
            (by_wait (ap (held_group s f) same ∙ h.is_live.is_held)) h.is_left
        lives relies u group a h (inr ne) =
            live_still same_grows same_left c f.waiting saved relies u group a
            (named_otherwise v u.number awaited (in_state live) ne) h

    -- a literal is saved for the return
    module _ (used : BodiesAreWellUsed p) where
      pub cared_saving_literal : {at : ℕ} {rest : Code Event} (b : Body) (d : DoesNext f (defer_literal at) rest)
          → IsLiteralIn f.body b
          → b.place.at ≡ at
          → IsCared p o s Nothing (behind q d.comes_to)
          (record f { stage = runs rest; saved = saved_literal record { literal = b; newest = f.newest } ∷ f.saved })
      cared_saving_literal {at} {rest} b d is_in is_at =
          cared_event same_grows same_left c f.waiting saved (none_wait same_grows same_left c f.waiting saved d.none_waits)
          (λ x h. contains_there item x f.saved h)
          (λ relies u a deep up its h. safely same_grows same_left c f.waiting saved relies u a
          (by_credit relies u a deep up its (cases_Bool (relies.credits at u.number)))
          (λ w is k i. works_or_awaited (relies.credits at w.number) k i) h)
          (λ relies u group a up waits h. lives relies u group a up waits h (cases_Bool (relies.credits at u.number)))
        where
          c : ComesTo f (defer_literal at) rest
          c = d.comes_to

          closure : Closure
          closure = record { literal = b; newest = f.newest }

          item : Saved
          item = saved_literal closure

          saved : List Saved
          saved = item ∷ f.saved

          by_credit : (relies : Promises) (u : Variable) (a : ℕ) → o.least ≤ level f.body u
              → AreTakenUp p f.body relies
              → IsItsCancel f.body u
              → (relies.credits at u.number ≡ true) ⊎ (relies.credits at u.number ≡ false)
              → IsSafe same_grows same_left c f.waiting saved relies u a
          by_credit relies u a deep up its (inr no_credit) = inl (λ k. ap (λ x. cond x safe k) no_credit)
          by_credit relies u a deep up its (inl credit) = inr (λ h.
              let t = up.literals u b its.0 its.1 is_in (ap (λ n. relies.credits n u.number) is_at ∙ credit) in
              let w = t.0 in
              let r = in_cell_some s w.number a (f.newest w.number) (ap (held s f) t.2 ∙ h) in
              is_saved item (contains_here item f.saved) (credits_it closure w r.0 t.1 r.1 (it.cells_in w.number r.0 r.1)
              (captured_is_frozen p used o s place q f it b is_in w.number r.0 r.1 (credit_is_captured b w t.1)) r.2
              (let far = goes_deeper o.least f.body b u w deep (used.begins_behind f.body b it.is_of is_in) t.1.is_captured in
              omega (arith, far))))

          lives : (relies : Promises) (u : Variable) (group a : ℕ) → AreTakenUp p f.body relies
              → IsWaitingFor f.body u
              → IsStillLeft relies o s q f u group a
              → (relies.credits at u.number ≡ true) ⊎ (relies.credits at u.number ≡ false)
              → SeenNow same_grows same_left c f.waiting saved
              (LeftNow same_grows same_left c f.waiting saved relies u group a) a
          lives relies u group a up waits h (inr no_credit) =
              live_still same_grows same_left c f.waiting saved relies u group a
              (ap (λ x. cond x awaited (in_state live)) no_credit) h
          lives relies u group a up waits h (inl credit) =
              let t = up.waits u b waits.is_of_body waits.is_group_variable is_in
              (ap (λ n. relies.credits n u.number) is_at ∙ credit) in
              let w = t.0 in
              let r = held_in s w.number group (f.newest w.number) (ap (held_group s f) t.2 ∙ h.is_live.is_held) in
              left_to_awaited group item (contains_here item f.saved)
              (by_literal closure w r.0 t.1 r.1 (it.cells_in w.number r.0 r.1)
              (captured_is_frozen p used o s place q f it b is_in w.number r.0 r.1 (wait_is_captured b w t.1)) r.2) h.is_left

    -- a goroutine is started, which takes on some of what variables hold
    module _ {after_o : Origins} {after : Store} (grows : Grows nobody o after_o s after)
        (still : LeftStill p o s after_o after) {work : Work} {rest : Code Event} (d : DoesNext f (go work) rest)
        (takes : Promises → ℕ → Bool)
      where
        abbrev pub MeetsTaken : Type 0
        MeetsTaken = (relies : Promises) (u : Variable) (a : ℕ) → o.least ≤ level f.body u
            → AreTakenUp p f.body relies
            → IsItsCancel f.body u
            → takes relies u.number ≡ true
            → held s f u.number ≡ cancel_function a
            → IsMet p after_o after a

        pub cared_taking :
            ((relies : Promises) (u : ℕ) (k : CancelClass)
            → change_cancel relies u (go work) k ≡ cond (takes relies u) safe k)
            → ((relies : Promises) (u : ℕ) (k : GroupClass) → change_group relies u (go work) k ≡ k)
            → MeetsTaken
            → IsCared p after_o after Nothing (behind q d.comes_to) (at_code f rest)
        cared_taking changes groups met =
            cared_event grows still c f.waiting f.saved (none_wait grows still c f.waiting f.saved d.none_waits) (λ x h. h)
            (λ relies u a deep up its h. safely grows still c f.waiting f.saved relies u a
            (by_test relies u a deep up its (cases_Bool (takes relies u.number)))
            (λ w is k i. subst IsWorking (sym (groups relies w.number k)) i) h)
            (λ relies u group a up waits h.
            live_still grows still c f.waiting f.saved relies u group a (groups relies u.number (in_state live)) h)
          where
            c : ComesTo f (go work) rest
            c = d.comes_to

            by_test : (relies : Promises) (u : Variable) (a : ℕ) → o.least ≤ level f.body u
                → AreTakenUp p f.body relies
                → IsItsCancel f.body u
                → (takes relies u.number ≡ true) ⊎ (takes relies u.number ≡ false)
                → IsSafe grows still c f.waiting f.saved relies u a
            by_test relies u a deep up its (inl e) = inr (λ h. is_met (met relies u a deep up its e h))
            by_test relies u a deep up its (inr e) =
                inl (λ k. changes relies u.number k ∙ ap (λ b. cond b safe k) e)

    -- it runs a literal, which may wait for groups too, so that what was left to their members is taken on
    module _ {after_o : Origins} {after : Store} (grows : Grows nobody o after_o s after)
        (still : LeftStill p o s after_o after) {at : ℕ} {rest : Code Event} (d : DoesNext f (go (go_literal at)) rest)
      where
        abbrev off : ComesTo f (go (go_literal at)) rest
        off = d.comes_to

        pub cared_gone_literal : MeetsTaken grows still d (λ relies u. relies.credits at u)
            → ((group a : ℕ) → IsLeftTo o s group a → IsMet p after_o after a)
            → IsCared p after_o after Nothing (behind q off) (at_code f rest)
        cared_gone_literal met left =
            cared_event grows still off f.waiting f.saved (none_wait grows still off f.waiting f.saved d.none_waits) (λ x h. h)
            (λ relies u a deep up its h. opens relies u a deep up its h (cases_Bool (relies.credits at u.number)))
            (λ relies u group a up waits h. lives relies u group a h (cases_Bool (relies.credits at u.number)))
          where
            pendings : (relies : Promises) (u : Variable) (a : ℕ) → relies.credits at u.number ≡ false
                → (k : IsPending relies o s q f u a)
                → held s f u.number ≡ cancel_function a
                → (relies.credits at k.left_to.number ≡ true) ⊎ (relies.credits at k.left_to.number ≡ false)
                → SeenNow grows still off f.waiting f.saved (OpenNow grows still off f.waiting f.saved relies u a) a
            pendings relies u a e k h (inl waits) = is_met (left k.group a k.is_left)
            pendings relies u a e k h (inr none) =
                let class = group_class_of relies k.left_to q.events in
                let was : CancelClass = pending k.left_to.number in
                pending_still grows still off f.waiting f.saved relies u a k
                (ap (λ b. cond b safe (waited_over relies at was)) e ∙ ap (λ b. cond b safe was) none)
                (subst IsWorking (sym (ap (λ b. cond b (at_rest class) class) none)) k.is_working) h

            opens : (relies : Promises) (u : Variable) (a : ℕ) → o.least ≤ level f.body u
                → AreTakenUp p f.body relies
                → IsItsCancel f.body u
                → IsOpen relies o s q f u a
                → (relies.credits at u.number ≡ true) ⊎ (relies.credits at u.number ≡ false)
                → SeenNow grows still off f.waiting f.saved (OpenNow grows still off f.waiting f.saved relies u a) a
            opens relies u a deep up its (is_held code stage k h) (inl e) = is_met (met relies u a deep up its e h)
            opens relies u a deep up its (is_kept code stage k declared h keeps) (inl e) =
                is_met (met relies u a deep up its e h)
            opens relies u a deep up its (is_pending k h) (inl e) = is_met (met relies u a deep up its e h)
            opens relies u a deep up its (is_held code stage k h) (inr e) =
                held_still grows still off f.waiting f.saved relies u a (ap (λ b. cond b safe opened) e) k h
            opens relies u a deep up its (is_kept code stage k declared h keeps) (inr e) =
                kept_still grows still off f.waiting f.saved relies u a (ap (λ b. cond b safe kept) e) k declared h keeps
            opens relies u a deep up its (is_pending k h) (inr e) =
                pendings relies u a e k h (cases_Bool (relies.credits at k.left_to.number))

            lives : (relies : Promises) (u : Variable) (group a : ℕ) → IsStillLeft relies o s q f u group a
                → (relies.credits at u.number ≡ true) ⊎ (relies.credits at u.number ≡ false)
                → SeenNow grows still off f.waiting f.saved (LeftNow grows still off f.waiting f.saved relies u group a) a
            lives relies u group a h (inl e) = is_met (left group a h.is_left)
            lives relies u group a h (inr e) =
                live_still grows still off f.waiting f.saved relies u group a
                (ap (λ b. cond b (at_rest (in_state live)) (in_state live)) e) h

    -- Work is started in a group that the frame holds. What the literal has to call is left to a new member.
    module _ {after_o : Origins} {after : Store} (grows : Grows nobody o after_o s after)
        (still : LeftStill p o s after_o after) {e : Event} {rest : Code Event} (d : DoesNext f e rest)
        (group_variable : Variable) (among : Contains (variables_in f.body) group_variable)
        (kind : group_variable.kind ≡ group_kind) (group : ℕ) (holds : held_group s f group_variable.number ≡ Some group)
      where
        abbrev pub LeftToIt : Option ℕ → Type 0
        LeftToIt literal = (relies : Promises) (u : Variable) (a at : ℕ) → o.least ≤ level f.body u
            → AreTakenUp p f.body relies
            → IsItsCancel f.body u
            → literal ≡ Some at
            → relies.credits at u.number ≡ true
            → held s f u.number ≡ cancel_function a
            → IsLeftTo after_o after group a

        abbrev c : ComesTo f e rest
        c = d.comes_to

        abbrev g : ℕ
        g = group_variable.number

        abbrev Sees : Promises → Variable → ℕ → Type 0
        Sees relies u a =
            SeenNow grows still c f.waiting f.saved (OpenNow grows still c f.waiting f.saved relies u a) a

        works_on : ((relies : Promises) (u : ℕ) (k : GroupClass) → change_group relies u e k ≡ cond (g == u) (at_work k) k)
            → (relies : Promises)
            → Works grows still c f.waiting f.saved relies
        works_on changes relies u is k i =
            subst IsWorking (sym (changes relies u.number k)) (works_at_work (g == u.number) k i)

        -- a variable that is open when its literal is started
        left_now : ((relies : Promises) (u : ℕ) (k : GroupClass) → change_group relies u e k ≡ cond (g == u) (at_work k) k)
            → (relies : Promises) (u : Variable) (a : ℕ)
            → change_cancel relies u.number e (class_of relies u q.events) ≡ pending g
            → held s f u.number ≡ cancel_function a
            → IsLeftTo after_o after group a
            → (is_declared group_variable.role ≡ true) ⊎ (is_declared group_variable.role ≡ false)
            → Sees relies u a
        left_now changes relies u a k h l (inl own) =
            left_to_made group (it.own g group (own_is_declared f.body group_variable g
            record { is_of_body = among; is_group_variable = kind; is_declared_here = own } refl) holds) l
        left_now changes relies u a k h l (inr other_one) =
            left_in grows still c f.waiting f.saved relies u a group_variable group k
            record { is_of_body = among; is_group_variable = kind; is_not_declared_here = other_one }
            (subst IsWorking (sym (changes relies g (group_class_of relies group_variable q.events) ∙ named_so g g (at_work (group_class_of relies group_variable q.events)) (group_class_of relies group_variable q.events) refl))
            (made_works (group_class_of relies group_variable q.events) (is_made relies group_variable other_one q.events)))
            holds h l

        same_class : (relies : Promises) (u : Variable) → ((k : CancelClass) → change_cancel relies u.number e k ≡ k)
            → ((relies : Promises) (u : ℕ) (k : GroupClass) → change_group relies u e k ≡ cond (g == u) (at_work k) k)
            → (a : ℕ) → IsOpen relies o s q f u a → Sees relies u a
        same_class relies u same changes a h =
            safely grows still c f.waiting f.saved relies u a (inl same) (works_on changes relies) h

        event_done : ((relies : Promises) (u : ℕ) (k : GroupClass) → change_group relies u e k ≡ cond (g == u) (at_work k) k)
            → ((relies : Promises) (u : Variable) (a : ℕ) → o.least ≤ level f.body u
            → AreTakenUp p f.body relies
            → IsItsCancel f.body u
            → IsOpen relies o s q f u a
            → Sees relies u a)
            → IsCared p after_o after Nothing (behind q d.comes_to) (at_code f rest)
        event_done changes opens =
            cared_event grows still c f.waiting f.saved (none_wait grows still c f.waiting f.saved d.none_waits) (λ x h. h)
            opens
            (λ relies u b a up waits h. live_still grows still c f.waiting f.saved relies u b a
            (changes relies u.number (in_state live) ∙ work_live (g == u.number) (in_state live) refl) h)

        cared_started : (literal : Option ℕ)
            → ((relies : Promises) (u : ℕ) (k : CancelClass) → change_cancel relies u e k ≡ started relies u g literal k)
            → ((relies : Promises) (u : ℕ) (k : GroupClass) → change_group relies u e k ≡ cond (g == u) (at_work k) k)
            → LeftToIt literal
            → IsCared p after_o after Nothing (behind q d.comes_to) (at_code f rest)
        cared_started None cancels changes lefts =
            event_done changes (λ relies u a deep up its h. same_class relies u (λ k. cancels relies u.number k) changes a h)
        cared_started (Some at) cancels changes lefts =
            event_done changes (λ relies u a deep up its h. by_credit relies u a deep up its h (cases_Bool (relies.credits at u.number)))
          where
            class_left : (relies : Promises) (u : Variable) (k : CancelClass) → relies.credits at u.number ≡ true
                → change_cancel relies u.number e k ≡ left_to g k
            class_left relies u k credit = cancels relies u.number k ∙ ap (λ x. cond x (left_to g k) k) credit

            by_credit : (relies : Promises) (u : Variable) (a : ℕ) → o.least ≤ level f.body u
                → AreTakenUp p f.body relies
                → IsItsCancel f.body u
                → IsOpen relies o s q f u a
                → (relies.credits at u.number ≡ true) ⊎ (relies.credits at u.number ≡ false)
                → Sees relies u a
            by_credit relies u a deep up its h (inr no_credit) =
                same_class relies u (λ k. cancels relies u.number k ∙ ap (λ x. cond x (left_to g k) k) no_credit) changes a h
            by_credit relies u a deep up its (is_held code stage k h) (inl credit) =
                left_now changes relies u a
                (class_left relies u (class_of relies u q.events) credit ∙ ap (λ x. left_to g x) k) h
                (lefts relies u a at deep up its refl credit h) (cases_Bool (is_declared group_variable.role))
            by_credit relies u a deep up its (is_kept code stage k declared h keeps) (inl credit) =
                kept_still grows still c f.waiting f.saved relies u a (class_left relies u kept credit) k declared h keeps
            by_credit relies u a deep up its (is_pending k h) (inl credit) =
                pending_still grows still c f.waiting f.saved relies u a k
                (class_left relies u (pending k.left_to.number) credit)
                (subst IsWorking (sym (changes relies k.left_to.number (group_class_of relies k.left_to q.events)))
                (works_at_work (g == k.left_to.number) (group_class_of relies k.left_to q.events) k.is_working)) h

        pub cared_starting : (literal : Option ℕ) → Starts e group_variable.number literal → LeftToIt literal
            → IsCared p after_o after Nothing (behind q d.comes_to) (at_code f rest)
        cared_starting literal starts lefts =
            let r = start_changes e g literal starts in
            cared_started r.0 r.2 (λ relies u k. starting_change relies e g literal starts u k)
            (λ relies u a at deep up its is credit h. lefts relies u a at deep up its (r.1 at is) credit h)
