-- What a board answers, by what is kept.
use Rattle.std.proofs.Common.{◌≡◌, ℕ, ◌⊎◌, Bool, true, false, List, [], ◌∷◌, Contains, Option, Some, None, inl, inr, refl, sym, ap, ◌∙◌, subst, length, map, arith, slice_get, slice_set}
use Rattle.std.specs.Prelude.{replicate, ◌==◌, if◌then◌else◌, IsSome, IfSome}
use Rattle.std.specs.Borrow.{Bor}
use Rattle.std.specs.Option.{option_copied}
use Rattle.std.proofs.lemmas.Bool.{eqb-true}
use Rattle.std.proofs.lemmas.List.{length-map}
use Rattle.std.proofs.lemmas.Option.{slice_get_within, get_or_from_slice_get}
use Rattle.std.specs.declared.alloc.Global.{Global}
use Rattle.std.specs.declared.vec.Vec.{Vec as VecIn}
use Rattle.imports.specs.Ranks.{Package, IsOrder}
use Rattle.imports.specs.Settling.{given_imports, places_of, place_from}
use Rattle.imports.specs.Views.{rows_view}
use Rattle.imports.proofs.GivenImports.{table_imports}
use Rattle.board.specs.declared.entries.Phase.{Phase}
use Rattle.board.specs.declared.entries.Phase.TheVariants.{Untaken, Taken, Delivered, GivenBack}
use Rattle.board.specs.declared.entries.DeliverFault.{DeliverFault}
use Rattle.board.specs.History.{State, state_of}
use Rattle.board.specs.Legal.{IsIn, IsReady, AreImportsIn}
use Rattle.board.specs.Ready.{row, CanTake, AreListed, Listing, Stands, Takes}
use Rattle.board.specs.declared.entries.Task.{Task}
use Rattle.board.specs.declared.entries.Task.TheVariants.{Wait, Over}
use Rattle.board.specs.Answers.{Board, flat, state_in, told, CanBeJudged, IsTask, IsWaiting, IsOver, refusal_at}
use Rattle.board.specs.Kept.{Fields, IsBoard, Fits, kept_at, IsKept}
use Rattle.board.proofs.Lists.{get_there}
use Rattle.board.proofs.Phases.{true_false, stays_in}
use Rattle.board.proofs.Steps.{one_taken, ready_by, can_by, ready_there, all_in}

abbrev Vec : Type 0 → Type 0
Vec T = VecIn T Global

same_none : (b : Bool) (f : DeliverFault) → (if b then None else Some f) ≡ None → b ≡ true
same_none true f e = refl
same_none false f e = cc

never_none : (b : Bool) (f g : DeliverFault) → (if b then Some f else Some g) ≡ None → ⊥
never_none true f g e = cc
never_none false f g e = cc

-- what may be closed was taken by that worker
taken_by : (r : Option ℕ) (w : ℕ) (x : Option Phase) → refusal_at r w x ≡ None → x ≡ Some (Taken w)
taken_by None w x e = cc
taken_by (Some r) w None e = cc
taken_by (Some r) w (Some Untaken) e = cc
taken_by (Some r) w (Some (Taken v)) e = ap (λ (k : ℕ). Some (Taken k)) (eqb-true v w (same_none _ _ e))
taken_by (Some r) w (Some (Delivered v)) e = absurd (never_none _ _ _ e)
taken_by (Some r) w (Some (GivenBack v)) e = absurd (never_none _ _ _ e)

pub may_close : (r : Option ℕ) (xs phases : List Phase) (w p : ℕ) (o : Option DeliverFault)
    → o ≡ refusal_at r w (slice_get xs p) → xs ≡ phases → o ≡ None → slice_get phases p ≡ Some (Taken w)
may_close r xs phases w p o is same none =
    taken_by r w (slice_get phases p)
    (ap (λ (l : List Phase). refusal_at r w (slice_get l p)) (sym same) ∙ sym is ∙ none)

pub takes_by : (rows : List (List ℕ)) (rank : ℕ → Option ℕ) (xs phases : List Phase) (old new : Listing) (o p : Option ℕ)
    → Takes rows rank xs old new o → xs ≡ phases → o ≡ p → Takes rows rank phases old new p
takes_by rows rank xs phases old new o p takes same is =
    let P : List Phase → Type 0 = λ l. Takes rows rank l old new o in
    let Q : Option ℕ → Type 0 = λ x. Takes rows rank phases old new x in
    subst Q is (subst P same takes)

pub stands_by : (rows : List (List ℕ)) (rank : ℕ → Option ℕ) (xs phases : List Phase) (todo : List ℕ) (l : Listing)
    → Stands rows rank xs todo l → xs ≡ phases → Stands rows rank phases todo l
stands_by rows rank xs phases todo l stands same =
    let P : List Phase → Type 0 = λ x. Stands rows rank x todo l in
    subst P same stands

-- Where none can be taken

idle_case : (b : Bool) (k : ℕ) (t : Task) → (k == 0) ≡ b → t ≡ (if b then Over else Wait)
    → ((k ≡ 0) × (t ≡ Over)) ⊎ ((k ≡ 0 → ⊥) × (t ≡ Wait))
idle_case true k t is e = inl (eqb-true k 0 is, e)
idle_case false k t is e = inr ((λ h. true_false (ap (λ (x : ℕ). x == 0) h) is), e)

idle_by : (k : ℕ) (t : Task) → t ≡ (if k == 0 then Over else Wait) → ((k ≡ 0) × (t ≡ Over)) ⊎ ((k ≡ 0 → ⊥) × (t ≡ Wait))
idle_by k t e = idle_case (k == 0) k t refl e

pub idle_then : {X : Type 0} (old now : Board X) (w k : ℕ) (t : Task) → t ≡ (if k == 0 then Over else Wait) → old ≡ now
    → old ≡ told now w t
idle_then old now w k t e same =
    elim (idle_by k t e) [
      | inl h ↦ same ∙ ap (told now w) (sym h.1)
      | inr h ↦ same ∙ ap (told now w) (sym h.1)
    ]

pub idle_reads : (packages : List Package) (phases : List Phase) (k : ℕ) (t : Task) → t ≡ (if k == 0 then Over else Wait)
    → CanBeJudged packages phases t
idle_reads packages phases k t e =
    let P : Task → Type 0 = λ x. CanBeJudged packages phases x in
    elim (idle_by k t e) [
      | inl h ↦ subst P (sym h.1) tt
      | inr h ↦ subst P (sym h.1) tt
    ]

-- From the fields to what is seen of a board

pub in_before : {X : Type 0} (packages : List Package) (old now : Board X) (p : ℕ) → old ≡ now
    → IsIn (state_in packages now).phases p → IsIn (state_in packages old).phases p
in_before {X} packages old now p same h =
    let P : Board X → Type 0 = λ s. IsIn (state_in packages s).phases p in subst P (sym same) h

pub in_after : {X : Type 0} (packages : List Package) (old now : Board X) (p : ℕ) → old ≡ now
    → IsIn (state_in packages old).phases p → IsIn (state_in packages now).phases p
in_after {X} packages old now p same h =
    let P : Board X → Type 0 = λ s. IsIn (state_in packages s).phases p in subst P same h

pub imports_before : {X : Type 0} (packages : List Package) (old now : Board X) (p : ℕ) → old ≡ now
    → AreImportsIn packages (state_in packages now).phases p → AreImportsIn packages (state_in packages old).phases p
imports_before {X} packages old now p same h =
    let P : Board X → Type 0 = λ s. AreImportsIn packages (state_in packages s).phases p in subst P (sym same) h

pub task_after : {X : Type 0} (packages : List Package) (rank : ℕ → Option ℕ) (old now : Board X) (task : Task) → old ≡ now
    → IsTask packages rank (state_in packages old) task → IsTask packages rank (state_in packages now) task
task_after {X} packages rank old now task same h =
    let P : Board X → Type 0 = λ s. IsTask packages rank (state_in packages s) task in subst P same h

pub copied_by : {X : Type 0} (xs ys : List (Option X)) (p : ℕ) (o : Option (Bor X)) → option_copied o ≡ kept_at xs p → xs ≡ ys
    → option_copied o ≡ kept_at ys p
copied_by {X} xs ys p o e same = e ∙ ap (λ (l : List (Option X)). kept_at l p) same

-- A board on which nothing was done

pub same_length : (imports : List (Vec ℕ)) (packages : List Package) → rows_view imports ≡ given_imports packages
    → length imports ≡ length packages
same_length imports packages e =
    sym (length-map imports (λ (v : Vec ℕ). v.items)) ∙ ap (λ (l : List (List ℕ)). length l) e
    ∙ length-map packages (places_of (λ path. place_from path packages 0))

pub many_none : {X : Type 0} (xs : List (Option X)) (n m : ℕ) → xs ≡ replicate n None → n ≡ m → xs ≡ replicate m None
many_none {X} xs n m e same = e ∙ ap (λ (k : ℕ). replicate {A = Option X} k None) same

pub many_untaken : (xs : List Phase) (n m : ℕ) → xs ≡ replicate n Untaken → n ≡ m → xs ≡ replicate m Untaken
many_untaken xs n m e same = e ∙ ap (λ (k : ℕ). replicate {A = Phase} k Untaken) same

pub are_listed : (packages : List Package) (rank : ℕ → Option ℕ) (ranked : List ℕ) → IsOrder packages rank ranked
    → (f : ℕ → Option ℕ) → f ≡ rank → AreListed f ranked
are_listed packages rank ranked order f same place r e =
    let at = (order.places place r).0 (ap (λ (g : ℕ → Option ℕ). g place) (sym same) ∙ e) in
    (r, slice_get_within ranked r place at, get_or_from_slice_get ranked r place place at)

-- What is kept, with what came of packages

flat_is : {X : Type 0} (o : Option (Option X)) (x : X) → flat o ≡ Some x → o ≡ Some (Some x)
flat_is None x e = cc
flat_is (Some None) x e = cc
flat_is (Some (Some y)) x e = ap (λ z. Some z) e

some_there : {X : Type 0} (o : Option X) → IsSome o → (x : X) × (o ≡ Some x)
some_there None e = cc
some_there (Some x) e = (x, refl)

module _ {X : Type 0} (packages : List Package) (rank : ℕ → Option ℕ) (place_of : X → ℕ) (b : Fields X)
    (is : IsBoard packages rank place_of b) where
  abbrev pub state : State
  state = state_of (length packages) b.history

  pub waits : b.stopped ≡ false → (b.pending ≡ 0 → ⊥) → ((p : ℕ) → CanTake b.rows b.rank b.phases p → ⊥)
      → IsWaiting packages rank state
  waits on some none =
      let one = one_taken b.phases (λ nothing. some (is.is_pending ∙ nothing)) in
      record {
        goes_on = sym is.is_stopped ∙ on;
        none_ready = λ p ready. (
            let P : List Phase → Type 0 = λ l. IsReady packages rank l p in
            none p (can_by packages rank place_of b p is (subst P (sym is.are_phases) ready)));
        place = one.0;
        worker = one.1;
        is_taken = ap (λ (l : List Phase). slice_get l one.0) (sym is.are_phases) ∙ one.2;
      }

  pub ends : b.stopped ≡ false → b.pending ≡ 0 → ((p : ℕ) → CanTake b.rows b.rank b.phases p → ⊥) → IsOver rank state
  ends on nothing none =
      inr (λ p has. (
      let P : List Phase → Type 0 = λ l. IsIn l p in
      subst P is.are_phases (all_in packages rank place_of b is on nothing none p has)))

  pub idles : b.stopped ≡ false → ((p : ℕ) → CanTake b.rows b.rank b.phases p → ⊥) → (t : Task)
      → t ≡ (if b.pending == 0 then Over else Wait) → IsTask packages rank state t
  idles on none t e =
      let P : Task → Type 0 = λ x. IsTask packages rank state x in
      elim (idle_by b.pending t e) [
        | inl h ↦ subst P (sym h.1) (ends on h.0 none)
        | inr h ↦ subst P (sym h.1) (waits on h.0 none)
      ]

  pub works : (p : ℕ) → b.stopped ≡ false → CanTake b.rows b.rank b.phases p
      → (state.stopped ≡ false) × IsReady packages rank state.phases p
  works p on can =
      (sym is.is_stopped ∙ on, ready_there packages rank place_of b p is (ready_by packages rank place_of b p is can))

  pub can_read : (p w : ℕ) → CanTake b.rows b.rank b.phases p → AreImportsIn packages (slice_set b.phases p (Taken w)) p
  can_read p w can j h =
      stays_in b.phases p (Taken w) Untaken can.1 refl j ((ready_by packages rank place_of b p is can).imports_in j h)

  -- What came of packages

  kept_fits : (p : ℕ) (x : Phase) (k : X) → Fits place_of p x (Some k) → (place_of k ≡ p) × ((w : ℕ) × (x ≡ Delivered w))
  kept_fits p Untaken k h = absurd h
  kept_fits p (Taken w) k h = absurd h
  kept_fits p (Delivered w) k h = (h, (w, refl))
  kept_fits p (GivenBack w) k h = absurd h

  some_fits : (p w : ℕ) (y : Option X) → Fits place_of p (Delivered w) y → IsSome y
  some_fits p w None h = absurd h
  some_fits p w (Some k) h = refl

  pub kept_is : (p : ℕ) (k : X) → kept_at b.outcomes p ≡ Some k → (place_of k ≡ p) × IsIn state.phases p
  kept_is p k e =
      let at = flat_is (slice_get b.outcomes p) k e in
      let within = slice_get_within b.outcomes p (Some k) at in
      let x = get_there b.phases p (omega (arith, within, is.outcomes_as_many, is.are_as_many)) in
      let f = kept_fits p x.0 k (is.all_fit p x.0 (Some k) x.1 at) in
      (f.0, (f.1.0, ap (λ (l : List Phase). slice_get l p) (sym is.are_phases) ∙ x.1 ∙ ap Some f.1.1))

  pub in_is_kept : (p : ℕ) → IsIn state.phases p → IsKept b.outcomes p
  in_is_kept p h =
      let at : slice_get b.phases p ≡ Some (Delivered h.0) = ap (λ (l : List Phase). slice_get l p) is.are_phases ∙ h.1 in
      let within = slice_get_within b.phases p (Delivered h.0) at in
      let y = get_there b.outcomes p (omega (arith, within, is.outcomes_as_many, is.are_as_many)) in
      let P : Option (Option X) → Type 0 = λ o. IsSome (flat o) in
      subst P (sym y.1) (some_fits p h.0 y.0 (is.all_fit p (Delivered h.0) y.0 at y.1))

  pub place_is : (p : ℕ) (o : Option (Bor X)) → option_copied o ≡ kept_at b.outcomes p → IfSome o (λ r. place_of r.now ≡ p)
  place_is p None e = tt
  place_is p (Some r) e = (kept_is p r.now (sym e)).0

  pub some_is_in : (p : ℕ) (o : Option (Bor X)) → option_copied o ≡ kept_at b.outcomes p → IsSome o → IsIn state.phases p
  some_is_in p None e s = cc
  some_is_in p (Some r) e s = (kept_is p r.now (sym e)).1

  pub in_is_some : (p : ℕ) (o : Option (Bor X)) → option_copied o ≡ kept_at b.outcomes p → IsIn state.phases p → IsSome o
  in_is_some p None e h = subst (λ (y : Option X). IsSome y) (sym e) (in_is_kept p h)
  in_is_some p (Some r) e h = refl

  -- what is imported has come
  pub imports_kept : (p : ℕ) (outcomes : List (Option X)) (imports : List ℕ) → outcomes ≡ b.outcomes → imports ≡ row b.rows p
      → AreImportsIn packages state.phases p → (j : ℕ) → Contains imports j → IsKept outcomes j
  imports_kept p outcomes imports same is_row are j c =
      let P : List (Option X) → Type 0 = λ l. IsKept l j in
      let Q : List (List ℕ) → Type 0 = λ rows. Contains (row rows p) j in
      let R : List ℕ → Type 0 = λ l. Contains l j in
      let there : Contains (row (given_imports packages) p) j = subst Q is.are_rows (subst R is_row c) in
      subst P (sym same) (in_is_kept j (are j (table_imports packages p j there)))

  at_place : (p : ℕ) (k : X) → Some k ≡ kept_at b.outcomes p → place_of k ≡ p
  at_place p k e = (kept_is p k (sym e)).0

  -- what came of the packages at these places, in their order, is of these places
  pub kept_places : (places : List ℕ) (found : List X) → map (λ one. Some one) found ≡ map (kept_at b.outcomes) places
      → map place_of found ≡ places
  kept_places [] [] e = refl
  kept_places [] (k ∷ ks) e = cc
  kept_places (p ∷ ps) [] e = cc
  kept_places (p ∷ ps) (k ∷ ks) e =
      let first : place_of k ≡ p = at_place p k cc in
      let rest : map place_of ks ≡ ps = kept_places ps ks cc in
      cc (first, rest)

  pub imported_places : (p : ℕ) (outcomes : List (Option X)) (imports : List ℕ) → outcomes ≡ b.outcomes
      → imports ≡ row b.rows p → (found : List X) → map (λ one. Some one) found ≡ map (kept_at outcomes) imports
      → map place_of found ≡ row (given_imports packages) p
  imported_places p outcomes imports same is_row found e =
      kept_places imports found (e ∙ ap (λ (l : List (Option X)). map (kept_at l) imports) same) ∙ is_row
      ∙ ap (λ (rows : List (List ℕ)). row rows p) is.are_rows

  -- what came of a package is of its place
  pub outcome_is : (p : ℕ) (k : X) → slice_get b.outcomes p ≡ Some (Some k) → place_of k ≡ p
  outcome_is p k e = (kept_is p k (ap flat e)).0
