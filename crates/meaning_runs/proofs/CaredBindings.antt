-- A frame that binds a variable, and one that begins, with what is said of their cancel functions.
use Rattle.std.proofs.Common.{◌≡◌, ℕ, ◌<◌, ◌⊎◌, inl, inr, Bool, true, false, cond, List, ◌∷◌, Option, Some, None, Contains, refl, sym, ap, ◌∙◌, subst}
use Rattle.std.specs.Prelude.{◌==◌, ◌&&◌}
use Rattle.std.proofs.lemmas.Bool.{true≢false, cases_Bool, cases_eq, and_parts}
use Rattle.std.proofs.lemmas.Option.{none-some}
use Rattle.meaning.specs.Code.{Code}
use Rattle.meaning.specs.Tracked.{GroupState}
use Rattle.meaning.specs.Uses.{Callee, VariableAt, Event, obtain, obtain_kept, clear, make}
use Rattle.meaning.specs.BodyEvents.{Variable, captured}
use Rattle.meaning.specs.Classes.{Promises, unset, opened, kept, safe, pending, change_cancel, GroupClass, in_state, change_group}
use Rattle.meaning.proofs.Membership.{contains_nil, contains_there, contains_cases}
use Rattle.meaning_packages.specs.PathFaults.{loses_cancel, is_lost, BindsCancel, obtains, obtains_into, clears, is_declared}
use Rattle.meaning_runs.specs.Bodies.{Program, Body, IsOf, code_of, variables_in, is_parameter_of, is_captured_by}
use Rattle.meaning_runs.specs.World.{Value, nothing, cancel_function, nobody, frame_at, Place, Store, put_at, with_group, with_cells, runs, InObject, Frame, in_cell, group_in_cell, held, held_group, kept_value, own_cell, bound_cell, binding, binding_group, binds, new_frame}
use Rattle.meaning_runs.specs.Steps.{DoesNext, at_code, with_function, Obtains, Makes}
use Rattle.meaning_runs.specs.Duties.{IsWaitingFor}
use Rattle.meaning_runs.proofs.Captured.{any_there}
use Rattle.meaning_runs.proofs.CaredFor.{IsOpen, is_held, is_kept, is_pending, IsStillLeft, IsSeen, is_met, is_open, IsCared, IsOwn, AreKept, IsRelied, of_flag, of_credit, relied_there}
use Rattle.meaning_runs.proofs.CaredGoesOn.{LeftStill, left_same, left_or_met, cared_on, sees_more}
use Rattle.meaning_runs.proofs.Contexts.{put_at-same, put_at-other}
use Rattle.meaning_runs.proofs.Credited.{same_kind}
use Rattle.meaning_runs.proofs.GivenValues.{same_role}
use Rattle.meaning_runs.proofs.GroupClasses.{group_next, cancel≢group, named_so, named_otherwise}
use Rattle.meaning_runs.proofs.GroupPaths.{is_open_at_entry, is_live_at_entry, binds_none_pending, group_class_of, IsWorking}
use Rattle.meaning_runs.proofs.Holders.{Grows, IsHolder}
use Rattle.meaning_runs.proofs.HolderBindings.{captured_holds}
use Rattle.meaning_runs.proofs.HolderFrames.{reached}
use Rattle.meaning_runs.proofs.HolderSteps.{obtaining_changes, making_changes}
use Rattle.meaning_runs.proofs.KeptEvents.{IsPutInto, one_object}
use Rattle.meaning_runs.proofs.KeptValues.{kept_first, kept_other}
use Rattle.meaning_runs.proofs.MadeGroups.{HasNoFaultUnder, Nothing}
use Rattle.meaning_runs.proofs.OwnBindings.{BindsOwn, BindsItsOwn}
use Rattle.meaning_runs.proofs.OwnNumbers.{captured_is_not, parameter_is_own, wait_is_captured, credit_is_captured, flag_is_its}
use Rattle.meaning_runs.proofs.Places.{class_of, class_next, eqb_is, exits≢runs}
use Rattle.meaning_runs.proofs.Remembered.{Origins, Past, with_block, written, behind, occurrence_of, no_past}
use Rattle.meaning_runs.proofs.StoreGrowth.{ChangesContexts, no_change, block_grows, in_cell_grows, put_in, put_here}
use Rattle.meaning_runs.proofs.WhoStarts.{is_declared_in, BodiesAreWellUsed}

-- Variables that the body does not declare

same_number : (b : Body) (u v : Variable) → Contains (variables_in b) u → Contains (variables_in b) v
    → is_declared u.role ≡ true
    → is_declared v.role ≡ false
    → u.number ≡ v.number
    → ⊥
same_number b u v c d declared other_one same =
    true≢false (sym declared ∙ ap is_declared (same_role b u v c d same) ∙ other_one)

pub declared_elsewhere : (b : Body) (w : ℕ) → is_declared_in b w ≡ true → (v : Variable) → Contains (variables_in b) v
    → is_declared v.role ≡ false
    → w ≡ v.number
    → ⊥
declared_elsewhere b w own v among other_one same =
    let x = any_there (λ (y : Variable). (y.number == w) && is_declared y.role) (variables_in b) own in
    let r = and_parts (x.0.number == w) (is_declared x.0.role) x.2 in
    same_number b x.0 v x.1 among r.1 other_one (eqb_is x.0.number w r.0 ∙ same)

pub relied_elsewhere : (p : Program) (b : Body) (v : Variable) → IsRelied p b v → is_declared v.role ≡ false
relied_elsewhere p b v (of_flag g) = ap is_declared g.is_parameter
relied_elsewhere p b v (of_credit c) = ap is_declared c.is_captured

module _ {p : Program} {o : Origins} {s : Store} {place : Place} {q : Past} {f : Frame}
    (it : IsHolder p o s place q f) (cared : IsCared p o s Nothing q f)
  where
    -- A variable of that number is bound, and others hold what they held.
    module _ {after_o : Origins} {after : Store} (grows : Grows (frame_at place) o after_o s after)
        (still : LeftStill p o s after_o after) {e : Event} {rest : Code Event} (d : DoesNext f e rest)
        (w : ℕ) (own : is_declared_in f.body w ≡ true) (cell : Option ℕ) (obtained made : List ℕ)
        (keeping : List InObject)
        (cells : (k v : ℕ) → (v ≡ w → ⊥) → after.cells k v ≡ s.cells k v)
        (holds : (k v : ℕ) → (v ≡ w → ⊥) → after.holds k v ≡ s.holds k v)
      where
        abbrev pub bound : Frame
        bound = record f {
          stage = runs rest;
          newest = put_at f.newest w cell;
          obtained = obtained;
          made = made;
          kept = keeping;
        }

        abbrev pub SeenNow : Type 0 → ℕ → Type 0
        SeenNow Open a = IsSeen p after_o after Nothing bound Open a

        abbrev pub OpenNow : Promises → Variable → ℕ → Type 0
        OpenNow relies v a = IsOpen relies after_o after (behind q d.comes_to) bound v a

        value_now : (v : ℕ) → (w ≡ v → ⊥) → held after bound v ≡ held s f v
        value_now v ne =
            ap (in_cell after v) (put_at-other f.newest w cell v (λ x. ne (sym x))) ∙ as_before (f.newest v)
          where
            as_before : (c : Option ℕ) → in_cell after v c ≡ in_cell s v c
            as_before None = refl
            as_before (Some k) = cells k v (λ x. ne (sym x))

        group_now : (v : ℕ) → (w ≡ v → ⊥) → held_group after bound v ≡ held_group s f v
        group_now v ne =
            ap (group_in_cell after v) (put_at-other f.newest w cell v (λ x. ne (sym x))) ∙ as_before (f.newest v)
          where
            as_before : (c : Option ℕ) → group_in_cell after v c ≡ group_in_cell s v c
            as_before None = refl
            as_before (Some k) = holds k v (λ x. ne (sym x))

        pub class_now : (relies : Promises) (v : Variable)
            → class_of relies v (behind q d.comes_to).events ≡ change_cancel relies v.number e (class_of relies v q.events)
        class_now relies v = class_next relies v q.events (occurrence_of d.comes_to)

        group_class_now : (relies : Promises) (v : Variable)
            → group_class_of relies v (behind q d.comes_to).events
            ≡ change_group relies v.number e (group_class_of relies v q.events)
        group_class_now relies v = group_next relies v q.events (occurrence_of d.comes_to)

        -- what the event does to classes of other variables
        pub record KeepsOthers : Type 0 where
          pub open_ones : (relies : Promises) (v : ℕ) → (w ≡ v → ⊥) → change_cancel relies v e opened ≡ opened
          pub kept_ones : (relies : Promises) (v : ℕ) → (w ≡ v → ⊥) → change_cancel relies v e kept ≡ kept
          pub in_objects : (v x : ℕ) → (w ≡ v → ⊥) → kept_value keeping v x ≡ kept_value f.kept v x
          pub pending_ones : (relies : Promises) (v u : ℕ) → (w ≡ v → ⊥) → (w ≡ u → ⊥)
              → change_cancel relies v e (pending u) ≡ pending u
          pub groups : (relies : Promises) (u : ℕ) → (w ≡ u → ⊥) → (k : GroupClass) → change_group relies u e k ≡ k

        module _ (keeps : KeepsOthers) where
          open_elsewhere : (relies : Promises) (v : Variable) (a : ℕ) → (w ≡ v.number → ⊥)
              → IsOpen relies o s q f v a
              → SeenNow (OpenNow relies v a) a
          open_elsewhere relies v a ne (is_held c stage k h) =
              is_open (is_held rest refl (class_now relies v ∙ ap (λ x. change_cancel relies v.number e x) k ∙ keeps.open_ones relies v.number ne) (value_now v.number ne ∙ h))
          open_elsewhere relies v a ne (is_kept c stage k declared h in_object) =
              is_open (is_kept rest refl (class_now relies v ∙ ap (λ x. change_cancel relies v.number e x) k ∙ keeps.kept_ones relies v.number ne)
              declared (value_now v.number ne ∙ h) (λ x is. keeps.in_objects v.number x ne ∙ in_object x is))
          open_elsewhere relies v a ne (is_pending k h) =
              let u = k.left_to in
              let far = declared_elsewhere f.body w own u k.is_other.is_of_body k.is_other.is_not_declared_here in
              left_or_met still k.group a (λ l. is_open (is_pending record {
                code = rest;
                stage = refl;
                left_to = u;
                group = k.group;
                is_pending = class_now relies v ∙ ap (λ x. change_cancel relies v.number e x) k.is_pending
                    ∙ keeps.pending_ones relies v.number u.number ne far;
                is_other = k.is_other;
                is_working = subst IsWorking (sym (group_class_now relies u ∙ keeps.groups relies u.number far (group_class_of relies u q.events))) k.is_working;
                is_held = group_now u.number far ∙ k.is_held;
                is_left = l;
              } (value_now v.number ne ∙ h))) (λ x. is_met x) k.is_left

          live_elsewhere : (relies : Promises) (v : Variable) (group a : ℕ) → IsWaitingFor f.body v
              → IsStillLeft relies o s q f v group a
              → SeenNow (IsStillLeft relies after_o after (behind q d.comes_to) bound v group a) a
          live_elsewhere relies v group a waits h =
              let far = declared_elsewhere f.body w own v waits.is_of_body (ap is_declared waits.is_captured) in
              left_or_met still group a (λ l. is_open record {
                is_live = record {
                  code = rest;
                  stage = refl;
                  is_live = group_class_now relies v
                      ∙ keeps.groups relies v.number far (group_class_of relies v q.events) ∙ h.is_live.is_live;
                  is_held = group_now v.number far ∙ h.is_live.is_held;
                };
                is_left = l;
              }) (λ x. is_met x) h.is_left

          pub cared_binding :
              ((relies : Promises) (v : Variable) (a : ℕ) → HasNoFaultUnder p f.body relies
              → IsOwn f.body v
              → w ≡ v.number
              → IsOpen relies o s q f v a
              → ⊥)
              → ((group : ℕ) → Contains f.made group → Contains made group)
              → ((relies : Promises) (a : ℕ) → HasNoFaultUnder p f.body relies
              → Contains obtained a
              → Contains f.obtained a ⊎ ((v : Variable) × IsOwn f.body v × SeenNow (OpenNow relies v a) a))
              → IsCared p after_o after Nothing (behind q d.comes_to) bound
          cared_binding lost more new_ones = cared_on record {
            same_body = refl;
            same_least = grows.same_least;
            sees = sees_more grows still bound refl (λ x h. h) more (λ a bad. absurd bad)
                (λ passing x a h. absurd (none-some passing (sym d.none_waits ∙ h)));
            hands = λ a h. elim h [
              | inl x ↦ absurd (exits≢runs d.comes_to.goes_on.code (sym x.0 ∙ d.comes_to.goes_on.stage))
              | inr x ↦ inr x
            ];
            obtained = λ relies a top none h. new_ones relies a none h;
            own = λ relies v a top none its h. inr (elim (cases_eq w v.number) [
              | inl same ↦ absurd (lost relies v a none its same h)
              | inr ne ↦ open_elsewhere relies v a ne h
            ]);
            duty = λ relies v a deep under h.
                let among = relied_there p f.body v under.is_relied in
                open_elsewhere relies v a
                (declared_elsewhere f.body w own v among.0 (relied_elsewhere p f.body v under.is_relied)) h;
            awaits = λ relies v group a under h. live_elsewhere relies v group a under.waits_for h;
          } cared

    -- no function is lost where its variable is bound again
    lost_none : {e : Event} {rest : Code Event} (d : DoesNext f e rest) (u : VariableAt) → BindsCancel e u
        → (relies : Promises) (v : Variable) (a : ℕ)
        → HasNoFaultUnder p f.body relies
        → IsOwn f.body v
        → u.number ≡ v.number
        → IsOpen relies o s q f v a
        → ⊥
    lost_none {e} {rest} d u is_binding relies v a none own same (is_held c stage k h) =
        none.none _ (loses_cancel v u q.events (occurrence_of d.comes_to) own.is_of_body own.is_cancel_variable
        (reached p o s place q f it e rest d.comes_to) is_binding same (ap (is_lost (variables_in f.body)) k))
    lost_none {e} {rest} d u is_binding relies v a none own same (is_kept c stage k declared h in_object) =
        none.none _ (loses_cancel v u q.events (occurrence_of d.comes_to) own.is_of_body own.is_cancel_variable
        (reached p o s place q f it e rest d.comes_to) is_binding same (ap (is_lost (variables_in f.body)) k))
    lost_none {e} {rest} d u is_binding relies v a none own same (is_pending k h) =
        let r = binds_none_pending relies f.body none.none v u k.left_to.number q.events (occurrence_of d.comes_to)
        own.is_of_body own.is_cancel_variable (reached p o s place q f it e rest d.comes_to) is_binding same k.is_pending in
        same_number f.body r.0.variable k.left_to r.0.is_of_body k.is_other.is_of_body r.1 k.is_other.is_not_declared_here
        r.0.is_it

    -- a cancel variable is bound, in a store that changed in contexts alone
    module _ {t : Store} (changes : ChangesContexts s t) {e : Event} {rest : Code Event} (d : DoesNext f e rest)
        (u : VariableAt) (value : Value) (obtained : List ℕ) (keeping : List InObject)
        (own : is_declared_in f.body u.number ≡ true)
        (grows : Grows (frame_at place) o (written o place f.body (bound_cell t f u) u.number) s (binding t f u value))
      where
        abbrev k0 : ℕ
        k0 = bound_cell t f u

        abbrev after : Store
        after = binding t f u value

        its_left : LeftStill p o s (written o place f.body k0 u.number) after
        its_left = left_same (λ g. ap (λ (m : ℕ → Option ℕ). m g) changes.same_member) (λ g. refl) (λ r h. h) refl

        cells_stay : (k v : ℕ) → (v ≡ u.number → ⊥) → after.cells k v ≡ s.cells k v
        cells_stay k v ne = put_in t.cells k0 u.number value k v ne ∙ ap (λ (c : ℕ → ℕ → Value). c k v) changes.same_cells

        holds_stay : (k v : ℕ) → (v ≡ u.number → ⊥) → after.holds k v ≡ s.holds k v
        holds_stay k v ne = ap (λ (c : ℕ → ℕ → Option ℕ). c k v) changes.same_holds

        abbrev now : Frame
        now = record (binds t f u) { stage = runs rest; obtained = obtained; kept = keeping }

        abbrev ItsOpen : Promises → Variable → ℕ → Type 0
        ItsOpen relies v a = IsOpen relies (written o place f.body k0 u.number) after (behind q d.comes_to) now v a

        bound_value : (v : ℕ) → v ≡ u.number → held after now v ≡ value
        bound_value v same =
            ap (λ n. held after now n) same
            ∙ ap (in_cell after u.number) (put_at-same f.newest u.number (Some k0))
            ∙ put_here t.cells k0 u.number value

        -- its variable is open, and holds the value
        open_now : (relies : Promises) (v : Variable) (a : ℕ) → v.number ≡ u.number
            → change_cancel relies v.number e (class_of relies v q.events) ≡ opened
            → value ≡ cancel_function a
            → IsSeen p (written o place f.body k0 u.number) after Nothing now (ItsOpen relies v a) a
        open_now relies v a same opens is =
            is_open (is_held rest refl (class_next relies v q.events (occurrence_of d.comes_to) ∙ opens)
            (bound_value v.number same ∙ is))

        -- its variable is kept, and its object keeps the value
        kept_now : (relies : Promises) (v : Variable) (a : ℕ) → v.number ≡ u.number
            → change_cancel relies v.number e (class_of relies v q.events) ≡ kept
            → is_declared v.role ≡ true
            → value ≡ cancel_function a
            → AreKept now v.number a
            → IsSeen p (written o place f.body k0 u.number) after Nothing now (ItsOpen relies v a) a
        kept_now relies v a same keeps declared is in_object =
            is_open (is_kept rest refl (class_next relies v q.events (occurrence_of d.comes_to) ∙ keeps) declared
            (bound_value v.number same ∙ is) in_object)

        cared_value : (b : VariableAt) → BindsCancel e b
            → b.number ≡ u.number
            → KeepsOthers grows its_left d u.number own (Some k0) obtained f.made keeping cells_stay holds_stay
            → ((relies : Promises) (a : ℕ) → HasNoFaultUnder p f.body relies
            → Contains obtained a
            → Contains f.obtained a ⊎ ((v : Variable) × IsOwn f.body v
            × IsSeen p (written o place f.body k0 u.number) after Nothing now (ItsOpen relies v a) a))
            → IsCared p (written o place f.body k0 u.number) after Nothing (behind q d.comes_to) now
        cared_value b is_binding its_number keeps new_ones =
            cared_binding grows its_left d u.number own (Some k0) obtained f.made keeping cells_stay holds_stay keeps
            (λ relies v a none its same h. lost_none d b is_binding relies v a none its (its_number ∙ same) h)
            (λ group h. h) new_ones

    pub cared_clearing : {u : VariableAt} {rest : Code Event} (d : DoesNext f (clear u) rest)
        → is_declared_in f.body u.number ≡ true
        → Grows (frame_at place) o (written o place f.body (bound_cell s f u) u.number) s (binding s f u nothing)
        → IsCared p (written o place f.body (bound_cell s f u) u.number) (binding s f u nothing) Nothing
        (behind q d.comes_to) (at_code (binds s f u) rest)
    cared_clearing {u} d own grows =
        cared_value (no_change s) d u nothing f.obtained f.kept own grows u clears refl record {
          open_ones = λ relies v ne. named_otherwise u.number v unset opened ne;
          kept_ones = λ relies v ne. named_otherwise u.number v unset kept ne;
          in_objects = λ v x ne. refl;
          pending_ones = λ relies v w ne far. named_otherwise u.number v unset (pending w) ne;
          groups = λ relies w ne k. refl;
        } (λ relies a none h. inl h)

    pub cared_obtaining : BindsItsOwn p → {u : VariableAt} {c : Callee} {n : ℕ} {is_new : Bool} {rest : Code Event}
        {value : Value} {made : Store} (d : DoesNext f (obtain u c n is_new) rest)
        → Obtains s c value made
        → is_declared_in f.body u.number ≡ true
        → Grows (frame_at place) o (written o place f.body (bound_cell made f u) u.number) s (binding made f u value)
        → IsCared p (written o place f.body (bound_cell made f u) u.number) (binding made f u value) Nothing
        (behind q d.comes_to)
        (record (binds made f u) { stage = runs rest; obtained = with_function value f.obtained })
    cared_obtaining own_bindings {u} {c} {n} {is_new} {rest} {value} {made} d gives own grows =
        cared_value changes d u value (with_function value f.obtained) f.kept own grows u obtains refl record {
          open_ones = λ relies v ne. named_otherwise u.number v opened opened ne;
          kept_ones = λ relies v ne. named_otherwise u.number v opened kept ne;
          in_objects = λ v x ne. refl;
          pending_ones = λ relies v w ne far. named_otherwise u.number v opened (pending w) ne;
          groups = λ relies w ne k. refl;
        } (λ relies a none h. new_one relies value a refl h)
      where
        changes : ChangesContexts s made
        changes = obtaining_changes s made c value gives

        its : BindsOwn f.body u
        its = own_bindings.each f.body q.events (occurrence_of d.comes_to) u it.is_of
            (reached p o s place q f it (obtain u c n is_new) rest d.comes_to) obtains

        new_one : (relies : Promises) (x : Value) (a : ℕ) → value ≡ x → Contains (with_function x f.obtained) a
            → Contains f.obtained a ⊎ ((v : Variable) × IsOwn f.body v
            × IsSeen p (written o place f.body (bound_cell made f u) u.number) (binding made f u value) Nothing
            (record (binds made f u) { stage = runs rest; obtained = with_function value f.obtained })
            (ItsOpen changes d u value (with_function value f.obtained) f.kept own grows relies v a) a)
        new_one relies nothing a is h = inl h
        new_one relies (cancel_function b) a is h = elim (contains_cases b a f.obtained h) [
          | inr i ↦ inl i
          | inl same ↦ inr (
            its.variable,
            record {
              is_of_body = its.is_of_body;
              is_cancel_variable = its.is_of_kind;
              is_declared_here = its.is_declared_here;
            },
            open_now changes d u value (with_function value f.obtained) f.kept own grows relies its.variable a its.is_it
                (named_so u.number its.variable.number opened (class_of relies its.variable q.events) (sym its.is_it))
                (is ∙ ap cancel_function same),
          )
        ]

    -- a field of a new object obtains a function, and keeps it
    pub cared_obtaining_into : BindsItsOwn p → {u : VariableAt} {c : Callee} {n x : ℕ} {rest : Code Event}
        {value : Value} {made : Store} (d : DoesNext f (obtain_kept u c n x) rest)
        → Obtains s c value made
        → IsPutInto f.body.file u.number x
        → is_declared_in f.body u.number ≡ true
        → Grows (frame_at place) o (written o place f.body (bound_cell made f (own_cell u.number)) u.number) s
        (binding made f (own_cell u.number) value)
        → IsCared p (written o place f.body (bound_cell made f (own_cell u.number)) u.number)
        (binding made f (own_cell u.number) value) Nothing (behind q d.comes_to)
        (record (binds made f (own_cell u.number)) {
          stage = runs rest;
          obtained = with_function value f.obtained;
          kept = record { variable = u.number; object = x; value = value } ∷ f.kept;
        })
    cared_obtaining_into own_bindings {u} {c} {n} {x} {rest} {value} {made} d gives put own grows =
        cared_value changes d cell value (with_function value f.obtained) (one ∷ f.kept) own grows u obtains_into refl record {
          open_ones = λ relies v ne. named_otherwise u.number v kept opened ne;
          kept_ones = λ relies v ne. named_otherwise u.number v kept kept ne;
          in_objects = λ v y ne. kept_other f.kept one v y ne;
          pending_ones = λ relies v w ne far. named_otherwise u.number v kept (pending w) ne;
          groups = λ relies w ne k. refl;
        } (λ relies a none h. new_one relies value a refl h)
      where
        cell : VariableAt
        cell = own_cell u.number

        one : InObject
        one = record { variable = u.number; object = x; value = value }

        changes : ChangesContexts s made
        changes = obtaining_changes s made c value gives

        its : BindsOwn f.body u
        its = own_bindings.each f.body q.events (occurrence_of d.comes_to) u it.is_of
            (reached p o s place q f it (obtain_kept u c n x) rest d.comes_to) obtains_into

        its_own : IsOwn f.body its.variable
        its_own = record {
          is_of_body = its.is_of_body;
          is_cancel_variable = its.is_of_kind;
          is_declared_here = its.is_declared_here;
        }

        keeps : (a : ℕ) → value ≡ cancel_function a
            → AreKept (now changes d cell value (with_function value f.obtained) (one ∷ f.kept) own grows) its.variable.number a
        keeps a is y its_object =
            kept_first f.kept one its.variable.number y (sym its.is_it)
            (sym (one_object f.body.file its.variable.number y x its_object
            (subst (λ v. IsPutInto f.body.file v x) (sym its.is_it) put))) ∙ is

        new_one : (relies : Promises) (y : Value) (a : ℕ) → value ≡ y → Contains (with_function y f.obtained) a
            → Contains f.obtained a ⊎ ((v : Variable) × IsOwn f.body v
            × IsSeen p (written o place f.body (bound_cell made f (own_cell u.number)) u.number)
            (binding made f (own_cell u.number) value) Nothing
            (record (binds made f (own_cell u.number)) {
              stage = runs rest;
              obtained = with_function value f.obtained;
              kept = record { variable = u.number; object = x; value = value } ∷ f.kept;
            })
            (ItsOpen changes d (own_cell u.number) value (with_function value f.obtained)
            (record { variable = u.number; object = x; value = value } ∷ f.kept) own grows relies v a) a)
        new_one relies nothing a is h = inl h
        new_one relies (cancel_function b) a is h = elim (contains_cases b a f.obtained h) [
          | inr i ↦ inl i
          | inl same ↦ (let held_now = is ∙ ap cancel_function same in inr (
            its.variable,
            its_own,
            kept_now changes d cell value (with_function value f.obtained) (one ∷ f.kept) own grows relies its.variable a its.is_it
                (named_so u.number its.variable.number kept (class_of relies its.variable q.events) (sym its.is_it))
                its.is_declared_here held_now (keeps a held_now),
          ))
        ]

    -- a group is made
    pub cared_making : BodiesAreWellUsed p → {u : VariableAt} {state : GroupState} {context : Option ℕ} {made : Store}
        {rest : Code Event} (d : DoesNext f (make u state) rest)
        → Makes s state context made
        → is_declared_in f.body u.number ≡ true
        → Grows (frame_at place) o (written o place f.body (bound_cell made f u) u.number) s
        (binding_group (with_group made (frame_at place) context) f u made.group_count)
        → IsCared p (written o place f.body (bound_cell made f u) u.number)
        (binding_group (with_group made (frame_at place) context) f u made.group_count) Nothing (behind q d.comes_to)
        (record (binds made f u) { stage = runs rest; made = made.group_count ∷ f.made })
    cared_making used {u} {state} {context} {made} {rest} d makes own grows =
        cared_binding grows its_left d u.number own (Some k0) f.obtained (made.group_count ∷ f.made) f.kept cells_stay holds_stay record {
          open_ones = λ relies v ne. refl;
          kept_ones = λ relies v ne. refl;
          in_objects = λ v x ne. refl;
          pending_ones = λ relies v w ne far. named_otherwise u.number w safe (pending w) far;
          groups = λ relies w ne k. named_otherwise u.number w (in_state state) k ne;
        } lost (λ group h. contains_there made.group_count group f.made h) (λ relies a none h. inl h)
      where
        k0 : ℕ
        k0 = bound_cell made f u

        changes : ChangesContexts s made
        changes = making_changes s made state context makes

        after : Store
        after = binding_group (with_group made (frame_at place) context) f u made.group_count

        its_left : LeftStill p o s (written o place f.body (bound_cell made f u) u.number)
            (binding_group (with_group made (frame_at place) context) f u made.group_count)
        its_left = left_same (λ g. ap (λ (m : ℕ → Option ℕ). m g) changes.same_member) (λ g. refl) (λ r h. h) refl

        cells_stay : (k v : ℕ) → (v ≡ u.number → ⊥)
            → (binding_group (with_group made (frame_at place) context) f u made.group_count).cells k v ≡ s.cells k v
        cells_stay k v ne = ap (λ (c : ℕ → ℕ → Value). c k v) changes.same_cells

        holds_stay : (k v : ℕ) → (v ≡ u.number → ⊥)
            → (binding_group (with_group made (frame_at place) context) f u made.group_count).holds k v ≡ s.holds k v
        holds_stay k v ne = put_in made.holds (bound_cell made f u) u.number (Some made.group_count) k v ne
            ∙ ap (λ (c : ℕ → ℕ → Option ℕ). c k v) changes.same_holds

        -- a group variable is no cancel variable
        lost : (relies : Promises) (v : Variable) (a : ℕ) → HasNoFaultUnder p f.body relies
            → IsOwn f.body v
            → u.number ≡ v.number
            → IsOpen relies o s q f v a
            → ⊥
        lost relies v a none its same h =
            let x = used.makes_own f.body q.events (occurrence_of d.comes_to) u state it.is_of
            (reached p o s place q f it (make u state) rest d.comes_to) refl in
            cancel≢group (sym its.is_cancel_variable
            ∙ sym (same_kind f.body.file f.body.place.at f.body.place.at v x.0 its.is_of_body x.1.is_of_body (x.2 ∙ same))
            ∙ x.1.is_group_variable)

-- A frame that begins

pub captured_no_parameter : (b : Body) (v : Variable) → Contains (variables_in b) v → v.role ≡ captured
    → is_parameter_of b v.number ≡ false
captured_no_parameter b v among role = elim (cases_Bool (is_parameter_of b v.number)) [
  | inl is ↦ absurd (true≢false (sym (parameter_is_own b v.number is) ∙ captured_is_not b v among role))
  | inr differs ↦ differs
]

module _ (p : Program) (used : BodiesAreWellUsed p) (o : Origins) (s : Store) (values : ℕ → Value)
    (groups : ℕ → Option ℕ) (b : Body) (around : ℕ → Option ℕ) (of : IsOf p b)
    (around_in : (v k : ℕ) → around v ≡ Some k → k < s.cell_count)
    (around_once : (v k : ℕ) → around v ≡ Some k → is_captured_by b v ≡ true → o.is_frozen k ≡ true)
  where
    abbrev new_store : Store
    new_store = with_cells s values groups

    abbrev begun : Frame
    begun = new_frame s b around

    abbrev its_past : Past
    its_past = no_past o s b values groups around

    -- what it was given
    parameter_value : (v : ℕ) → is_parameter_of b v ≡ true → held new_store begun v ≡ its_past.given v
    parameter_value v is =
        ap (λ c. in_cell new_store v (cond c (Some s.cell_count) (cond (is_captured_by b v) (around v) None))) is
        ∙ ap (λ (c : ℕ → Value). c v) (put_at-same s.cells s.cell_count values)
        ∙ sym (ap (λ c. cond c (values v) (in_cell s v (around v))) is)

    captured_value : (v : ℕ) → is_parameter_of b v ≡ false → is_captured_by b v ≡ true
        → held new_store begun v ≡ its_past.given v
    captured_value v no_parameter is =
        ap (λ c. in_cell new_store v (cond c (Some s.cell_count) (cond (is_captured_by b v) (around v) None))) no_parameter
        ∙ ap (λ c. in_cell new_store v (cond c (around v) None)) is
        ∙ in_cell_grows nobody o (with_block o s.cell_count) s new_store (block_grows nobody o s values groups) v (around v)
        (λ k e. (around_in v k e, inl (around_once v k e is)))
        ∙ sym (ap (λ c. cond c (values v) (in_cell s v (around v))) no_parameter)

    relied_value : (v : Variable) → IsRelied p b v → held new_store begun v.number ≡ its_past.given v.number
    relied_value v (of_flag g) = parameter_value v.number (flag_is_its b v g)
    relied_value v (of_credit c) =
        captured_value v.number (captured_no_parameter b v c.is_of_body c.is_captured) (credit_is_captured b v c)

    waited_group : (v : Variable) → IsWaitingFor b v → held_group new_store begun v.number ≡ its_past.lent v.number
    waited_group v w =
        let no_parameter = captured_no_parameter b v w.is_of_body w.is_captured in
        captured_holds p used o s values groups b around of around_in around_once v.number no_parameter
        (wait_is_captured b v w)
        ∙ sym (ap (λ c. cond c (groups v.number) (group_in_cell s v.number (around v.number))) no_parameter)

    pub cared_new : IsCared p (with_block o s.cell_count) new_store Nothing its_past begun
    cared_new = record {
      same_least = refl;
      obtained = λ relies a top none h. absurd (contains_nil a h);
      duties = λ relies v a deep under e.
          is_open (is_held (code_of b) refl (is_open_at_entry v.role (relied_elsewhere p b v under.is_relied))
          (relied_value v under.is_relied ∙ e));
      awaits = λ relies v group a under e l. is_open record {
        is_live = record {
          code = code_of b;
          stage = refl;
          is_live = is_live_at_entry v.role (ap is_declared under.waits_for.is_captured);
          is_held = waited_group v under.waits_for ∙ e;
        };
        is_left = record { goroutine = l.goroutine; is_member = l.is_member; must = l.must; is_begun = l.is_begun };
      };
    }
