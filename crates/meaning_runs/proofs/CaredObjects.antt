-- Events of objects keep what is said of a frame's cancel functions: what a variable holds is put into a field of its
-- object, called there, saved, or given to others, and the object may be new again.
use Rattle.std.proofs.Common.{◌≡◌, ℕ, ◌⊎◌, inl, inr, Bool, true, false, cond, List, ◌∷◌, Contains, refl, sym, ap, ◌∙◌, subst}
use Rattle.std.proofs.lemmas.Bool.{cases_eq}
use Rattle.std.proofs.lemmas.Option.{none-some}
use Rattle.meaning.specs.Code.{Code}
use Rattle.meaning.specs.Uses.{Event, renew, keep, call_kept, defer_kept, give, give_field}
use Rattle.meaning.specs.BodyEvents.{Variable}
use Rattle.meaning.specs.Classes.{Promises, CancelClass, opened, kept, pending, given_back, kept_from, settled_from_kept, settled_from_open, change_cancel, GroupClass, change_group}
use Rattle.meaning.proofs.Membership.{contains_here, contains_there}
use Rattle.meaning_packages.specs.PathFaults.{is_declared}
use Rattle.meaning_runs.specs.Bodies.{Program}
use Rattle.meaning_runs.specs.World.{Value, cancel_function, nobody, Place, Store, calling, Saved, saved_call, runs, InObject, Frame, held, held_group, kept_value, without_kept, giving_away, with_kept}
use Rattle.meaning_runs.specs.Steps.{DoesNext, at_code}
use Rattle.meaning_runs.proofs.CaredBindings.{declared_elsewhere, relied_elsewhere}
use Rattle.meaning_runs.proofs.CaredEvents.{left_still}
use Rattle.meaning_runs.proofs.CaredFor.{LetsGo, AreKept, IsOwn, calls_it, IsPending, IsOpen, is_held, is_kept, is_pending, IsStillLeft, IsSeen, is_met, was_called, is_saved, is_open, IsCared, relied_there}
use Rattle.meaning_runs.proofs.CaredGoesOn.{LeftStill, left_or_met, cared_on, still_value, sees_more}
use Rattle.meaning_runs.proofs.GroupClasses.{group_next, named_so, named_otherwise}
use Rattle.meaning_runs.proofs.GroupPaths.{group_class_of, IsWorking}
use Rattle.meaning_runs.proofs.Holders.{Grows, IsHolder}
use Rattle.meaning_runs.proofs.HolderFrames.{still_holds}
use Rattle.meaning_runs.proofs.KeptEvents.{IsItsObject, IsPutInto, one_object}
use Rattle.meaning_runs.proofs.KeptValues.{kept_first, kept_other, without_other}
use Rattle.meaning_runs.proofs.MadeGroups.{Nothing}
use Rattle.meaning_runs.proofs.ObjectEvents.{IsKeptThere}
use Rattle.meaning_runs.proofs.Places.{class_of, class_next, called_now, exits≢runs}
use Rattle.meaning_runs.proofs.Remembered.{Origins, Past, behind, occurrence_of}
use Rattle.meaning_runs.proofs.StoreGrowth.{frame-nobody, ChangesContexts, no_change, calling_changes, contexts_grow}
use Rattle.meaning_runs.proofs.WhoStarts.{is_declared_in}

either : {A : Type 0} (b : Bool) (k : A) → cond b k k ≡ k
either true k = refl
either false k = refl

module _ {p : Program} {o : Origins} {s : Store} {place : Place} {q : Past} {f : Frame}
    (it : IsHolder p o s place q f) (cared : IsCared p o s Nothing q f)
  where
    -- It goes past an event that tells of one variable, in a store where contexts alone changed.
    module _ {after : Store} (changes : ChangesContexts s after) {e : Event} {rest : Code Event} (d : DoesNext f e rest)
        (v : ℕ) (saved : List Saved) (keeping : List InObject) (given : List Value)
      where
        abbrev pub gone : Frame
        gone = record f { stage = runs rest; saved = saved; kept = keeping; given_away = given }

        abbrev pub SeenNow : Promises → Variable → ℕ → Type 0
        SeenNow relies u a = IsSeen p o after Nothing gone (IsOpen relies o after (behind q d.comes_to) gone u a) a

        grows : Grows nobody o o s after
        grows = contexts_grow nobody o s after changes

        still : LeftStill p o s o after
        still = left_still changes

        value_now : (u : ℕ) → held after f u ≡ held s f u
        value_now u = still_value grows p place q f (frame-nobody place) it u

        group_now : (u : ℕ) → held_group after f u ≡ held_group s f u
        group_now u = still_holds nobody o o s after grows p place q f (frame-nobody place) it u

        class_now : (relies : Promises) (u : Variable) (k l : CancelClass) → class_of relies u q.events ≡ k
            → change_cancel relies u.number e k ≡ l
            → class_of relies u (behind q d.comes_to).events ≡ l
        class_now relies u k l was now =
            class_next relies u q.events (occurrence_of d.comes_to) ∙ ap (change_cancel relies u.number e) was ∙ now

        pub held_now : (relies : Promises) (u : Variable) (a : ℕ) (k : CancelClass) → class_of relies u q.events ≡ k
            → change_cancel relies u.number e k ≡ opened
            → held s f u.number ≡ cancel_function a
            → SeenNow relies u a
        held_now relies u a k was now h = is_open (is_held rest refl (class_now relies u k opened was now) (value_now u.number ∙ h))

        pub kept_now : (relies : Promises) (u : Variable) (a : ℕ) (k : CancelClass) → class_of relies u q.events ≡ k
            → change_cancel relies u.number e k ≡ kept
            → is_declared u.role ≡ true
            → held s f u.number ≡ cancel_function a
            → AreKept gone u.number a
            → SeenNow relies u a
        kept_now relies u a k was now declared h keeps =
            is_open (is_kept rest refl (class_now relies u k kept was now) declared (value_now u.number ∙ h) keeps)

        -- what the event does
        pub record TellsOf : Type 0 where
          pub more_saved : (x : Saved) → Contains f.saved x → Contains saved x
          pub more_given : (x : Value) → Contains f.given_away x → Contains given x
          pub groups : (relies : Promises) (u : ℕ) (k : GroupClass) → change_group relies u e k ≡ k
          pub others : (relies : Promises) (u : ℕ) (k : CancelClass) → (v ≡ u → ⊥) → change_cancel relies u e k ≡ k
          pub pendings : (relies : Promises) (u g : ℕ) → change_cancel relies u e (pending g) ≡ pending g
          pub in_objects : (u x : ℕ) → (v ≡ u → ⊥) → kept_value keeping u x ≡ kept_value f.kept u x
          pub opens : (relies : Promises) (u : Variable) (a : ℕ) → IsOwn f.body u
              → v ≡ u.number
              → class_of relies u q.events ≡ opened
              → held s f u.number ≡ cancel_function a
              → LetsGo gone a ⊎ SeenNow relies u a
          pub keeps : (relies : Promises) (u : Variable) (a : ℕ) → IsOwn f.body u
              → v ≡ u.number
              → class_of relies u q.events ≡ kept
              → held s f u.number ≡ cancel_function a
              → AreKept f u.number a
              → LetsGo gone a ⊎ SeenNow relies u a

        module _ (tells : TellsOf) where
          pending_now : (relies : Promises) (u : Variable) (a : ℕ) → (k : IsPending relies o s q f u a)
              → held s f u.number ≡ cancel_function a
              → SeenNow relies u a
          pending_now relies u a k h =
              left_or_met still k.group a (λ l. is_open (is_pending record {
                code = rest;
                stage = refl;
                left_to = k.left_to;
                group = k.group;
                is_pending = class_now relies u (pending k.left_to.number) (pending k.left_to.number) k.is_pending
                    (tells.pendings relies u.number k.left_to.number);
                is_other = k.is_other;
                is_working = subst IsWorking (sym (group_next relies k.left_to q.events (occurrence_of d.comes_to)
                    ∙ tells.groups relies k.left_to.number (group_class_of relies k.left_to q.events))) k.is_working;
                is_held = group_now k.left_to.number ∙ k.is_held;
                is_left = l;
              } (value_now u.number ∙ h))) (λ x. is_met x) k.is_left

          elsewhere : (relies : Promises) (u : Variable) (a : ℕ) → (v ≡ u.number → ⊥) → IsOpen relies o s q f u a
              → SeenNow relies u a
          elsewhere relies u a ne (is_held c stage k h) =
              held_now relies u a opened k (tells.others relies u.number opened ne) h
          elsewhere relies u a ne (is_kept c stage k declared h in_object) =
              kept_now relies u a kept k (tells.others relies u.number kept ne) declared h
              (λ x is. tells.in_objects u.number x ne ∙ in_object x is)
          elsewhere relies u a ne (is_pending k h) = pending_now relies u a k h

          own_now : (relies : Promises) (u : Variable) (a : ℕ) → IsOwn f.body u → IsOpen relies o s q f u a
              → (v ≡ u.number) ⊎ (v ≡ u.number → ⊥)
              → LetsGo gone a ⊎ SeenNow relies u a
          own_now relies u a own h (inr ne) = inr (elsewhere relies u a ne h)
          own_now relies u a own (is_held c stage k h) (inl same) = tells.opens relies u a own same k h
          own_now relies u a own (is_kept c stage k declared h in_object) (inl same) =
              tells.keeps relies u a own same k h in_object
          own_now relies u a own (is_pending k h) (inl same) = inr (pending_now relies u a k h)

          live_now : (relies : Promises) (u : Variable) (group a : ℕ) → IsStillLeft relies o s q f u group a
              → IsSeen p o after Nothing gone (IsStillLeft relies o after (behind q d.comes_to) gone u group a) a
          live_now relies u group a h =
              left_or_met still group a (λ l. is_open record {
                is_live = record {
                  code = rest;
                  stage = refl;
                  is_live = group_next relies u q.events (occurrence_of d.comes_to)
                      ∙ tells.groups relies u.number (group_class_of relies u q.events) ∙ h.is_live.is_live;
                  is_held = group_now u.number ∙ h.is_live.is_held;
                };
                is_left = l;
              }) (λ x. is_met x) h.is_left

          pub cared_telling : is_declared_in f.body v ≡ true → IsCared p o after Nothing (behind q d.comes_to) gone
          cared_telling declared = cared_on record {
            same_body = refl;
            same_least = refl;
            sees = sees_more grows still gone refl tells.more_saved (λ group h. h) (λ a bad. absurd bad)
                (λ passing x a w. absurd (none-some passing (sym d.none_waits ∙ w)));
            hands = λ a h. elim h [
              | inl x ↦ absurd (exits≢runs d.comes_to.goes_on.code (sym x.0 ∙ d.comes_to.goes_on.stage))
              | inr x ↦ inr (tells.more_given (cancel_function a) x)
            ];
            obtained = λ relies a top none h. inl h;
            own = λ relies u a top none own h. own_now relies u a own h (cases_eq v u.number);
            duty = λ relies u a deep under h.
                elsewhere relies u a
                (declared_elsewhere f.body v declared u (relied_there p f.body u under.is_relied).0
                (relied_elsewhere p f.body u under.is_relied)) h;
            awaits = λ relies u group a under h. live_now relies u group a h;
          } cared

    pub cared_keeping : {v x : ℕ} {rest : Code Event} (d : DoesNext f (keep v x) rest)
        → IsPutInto f.body.file v x
        → is_declared_in f.body v ≡ true
        → IsCared p o s Nothing (behind q d.comes_to) (with_kept (at_code f rest) v x (held s f v))
    cared_keeping {v} {x} {rest} d put declared =
        cared_telling (no_change s) d v f.saved keeping f.given_away record {
          more_saved = λ y h. h;
          more_given = λ y h. h;
          groups = λ relies u k. refl;
          others = λ relies u k ne. named_otherwise v u (kept_from k) k ne;
          pendings = λ relies u g. either _ (pending g);
          in_objects = λ u y ne. kept_other f.kept one u y ne;
          opens = λ relies u a own same k h. inr (kept_now (no_change s) d v f.saved keeping f.given_away relies u a opened k
              (named_so v u.number kept opened same) own.is_declared_here h (in_object u.number a same h));
          keeps = λ relies u a own same k h keeps. inr (kept_now (no_change s) d v f.saved keeping f.given_away relies u a kept k
              (either _ kept) own.is_declared_here h (in_object u.number a same h));
        } declared
      where
        one : InObject
        one = record { variable = v; object = x; value = held s f v }

        keeping : List InObject
        keeping = one ∷ f.kept

        in_object : (u a : ℕ) → v ≡ u → held s f u ≡ cancel_function a
            → AreKept (with_kept (at_code f rest) v x (held s f v)) u a
        in_object u a same h y its =
            kept_first f.kept one u y same
            (sym (one_object f.body.file u y x its (subst (λ w. IsPutInto f.body.file w x) same put)))
            ∙ ap (held s f) same ∙ h

    pub cared_renewing : {v x : ℕ} {rest : Code Event} (d : DoesNext f (renew v x) rest)
        → is_declared_in f.body v ≡ true
        → IsCared p o s Nothing (behind q d.comes_to) (record f { stage = runs rest; kept = without_kept f.kept v x })
    cared_renewing {v} {x} {rest} d declared =
        cared_telling (no_change s) d v f.saved keeping f.given_away record {
          more_saved = λ y h. h;
          more_given = λ y h. h;
          groups = λ relies u k. refl;
          others = λ relies u k ne. named_otherwise v u (given_back k) k ne;
          pendings = λ relies u g. either _ (pending g);
          in_objects = λ u y ne. without_other f.kept v x u y ne;
          opens = λ relies u a own same k h.
              inr (held_now (no_change s) d v f.saved keeping f.given_away relies u a opened k (either _ opened) h);
          keeps = λ relies u a own same k h keeps.
              inr (held_now (no_change s) d v f.saved keeping f.given_away relies u a kept k (named_so v u.number opened kept same) h);
        } declared
      where
        keeping : List InObject
        keeping = without_kept f.kept v x

    pub cared_calling_kept : {v x : ℕ} {rest : Code Event} (d : DoesNext f (call_kept v x) rest) → IsKeptThere f.body v x
        → IsCared p o (calling s (kept_value f.kept v x)) Nothing (behind q d.comes_to) (at_code f rest)
    cared_calling_kept {v} {x} d there =
        cared_telling changes d v f.saved f.kept f.given_away record {
          more_saved = λ y h. h;
          more_given = λ y h. h;
          groups = λ relies u k. refl;
          others = λ relies u k ne. named_otherwise v u (settled_from_kept k) k ne;
          pendings = λ relies u g. either _ (pending g);
          in_objects = λ u y ne. refl;
          opens = λ relies u a own same k h.
              inr (held_now changes d v f.saved f.kept f.given_away relies u a opened k (either _ opened) h);
          keeps = λ relies u a own same k h keeps.
              inr (is_met (was_called (called_now s value a (ap (λ w. kept_value f.kept w x) same
              ∙ keeps x (subst (λ w. IsItsObject f.body.file w x) same there.is_its_object)))));
        } there.is_declared_here
      where
        value : Value
        value = kept_value f.kept v x

        changes : ChangesContexts s (calling s (kept_value f.kept v x))
        changes = calling_changes s (kept_value f.kept v x)

    pub cared_saving_kept : {v x : ℕ} {rest : Code Event} (d : DoesNext f (defer_kept v x) rest) → IsKeptThere f.body v x
        → IsCared p o s Nothing (behind q d.comes_to)
        (record f { stage = runs rest; saved = saved_call (kept_value f.kept v x) ∷ f.saved })
    cared_saving_kept {v} {x} d there =
        cared_telling (no_change s) d v saved f.kept f.given_away record {
          more_saved = λ y h. contains_there item y f.saved h;
          more_given = λ y h. h;
          groups = λ relies u k. refl;
          others = λ relies u k ne. named_otherwise v u (settled_from_kept k) k ne;
          pendings = λ relies u g. either _ (pending g);
          in_objects = λ u y ne. refl;
          opens = λ relies u a own same k h.
              inr (held_now (no_change s) d v saved f.kept f.given_away relies u a opened k (either _ opened) h);
          keeps = λ relies u a own same k h keeps.
              inr (is_saved item (contains_here item f.saved) (calls_it (ap (λ w. kept_value f.kept w x) same
              ∙ keeps x (subst (λ w. IsItsObject f.body.file w x) same there.is_its_object))));
        } there.is_declared_here
      where
        item : Saved
        item = saved_call (kept_value f.kept v x)

        saved : List Saved
        saved = item ∷ f.saved

    pub cared_giving : {v x : ℕ} {rest : Code Event} (d : DoesNext f (give v x) rest) → IsKeptThere f.body v x
        → IsCared p o s Nothing (behind q d.comes_to) (giving_away (at_code f rest) (kept_value f.kept v x))
    cared_giving {v} {x} d there =
        cared_telling (no_change s) d v f.saved f.kept given record {
          more_saved = λ y h. h;
          more_given = λ y h. contains_there value y f.given_away h;
          groups = λ relies u k. refl;
          others = λ relies u k ne. named_otherwise v u (settled_from_kept k) k ne;
          pendings = λ relies u g. either _ (pending g);
          in_objects = λ u y ne. refl;
          opens = λ relies u a own same k h.
              inr (held_now (no_change s) d v f.saved f.kept given relies u a opened k (either _ opened) h);
          keeps = λ relies u a own same k h keeps.
              inl (inr (subst (λ (y : Value). Contains given y) (ap (λ w. kept_value f.kept w x) same
              ∙ keeps x (subst (λ w. IsItsObject f.body.file w x) same there.is_its_object))
              (contains_here value f.given_away)));
        } there.is_declared_here
      where
        value : Value
        value = kept_value f.kept v x

        given : List Value
        given = value ∷ f.given_away

    pub cared_giving_field : {v : ℕ} {rest : Code Event} (d : DoesNext f (give_field v) rest)
        → is_declared_in f.body v ≡ true
        → IsCared p o s Nothing (behind q d.comes_to) (giving_away (at_code f rest) (held s f v))
    cared_giving_field {v} d declared =
        cared_telling (no_change s) d v f.saved f.kept given record {
          more_saved = λ y h. h;
          more_given = λ y h. contains_there value y f.given_away h;
          groups = λ relies u k. refl;
          others = λ relies u k ne. named_otherwise v u (settled_from_open k) k ne;
          pendings = λ relies u g. either _ (pending g);
          in_objects = λ u y ne. refl;
          opens = λ relies u a own same k h.
              inl (inr (subst (λ (y : Value). Contains given y) (ap (held s f) same ∙ h) (contains_here value f.given_away)));
          keeps = λ relies u a own same k h keeps.
              inr (kept_now (no_change s) d v f.saved f.kept given relies u a kept k (either _ kept) own.is_declared_here h keeps);
        } declared
      where
        value : Value
        value = held s f v

        given : List Value
        given = value ∷ f.given_away
