-- What an event binds is a local of the kind cancel, so that it is tracked as a cancel variable where it stands in a
-- block: what a row obtains or clears on a left side is of that kind, and the mention is what stands there.
use Rattle.std.proofs.Common.{◌≡◌, ℕ, zero, suc, ◌+◌, Bool, true, false, inl, inr, List, [], ◌∷◌, Option, Some, None, Contains, refl, sym, ap, ◌∙◌, subst}
use Rattle.std.specs.Prelude.{◌==◌, ◌&&◌, if◌then◌else◌, is_some, slice_get, length, ◌||◌}
use Rattle.std.specs.List.{list_all}
use Rattle.std.proofs.lemmas.Option.{same_Some}
use Rattle.tree.specs.declared.operator.DeclKeyword.TheVariants.{Const, Var, «Type» as type_keyword}
use Rattle.tree.specs.Syntax.{SourceFile, Expressions, no_expression, expression_and, OptionalExpression, missing_expression, present_expression}
use Rattle.meaning.specs.Scopes.{is_blank}
use Rattle.meaning.specs.Code.{Occurrence}
use Rattle.meaning.specs.Lists.{Reaches}
use Rattle.meaning.specs.FunctionFacts.{VariableKind, cancel, group, CancelResult}
use Rattle.meaning.specs.Mentions.{Named, RowForm, defines, assigns, declares, Row, Role, elsewhere, as_key, called, called_in_brackets, argument, returned, left, names_type, new_literal, parameter_pointer, Mention, BodyPlace, Mark, mentions, runs_literal, returns, opens, closes, exposed, found_nil, found_error, is_none_left, pointed_to, of_fields}
use Rattle.meaning.specs.Tracked.{Known, Giving, Left, local_at, lefts_of, may_bind, if_first, made_by_form, blank_left, name_left, left_name, left_local, local_meant_or, variable_of, is_given, are_locals, row_giving, obtains_there, row_obtains, GroupState, row_makes, Placed, LocalRole, parameter, receiver, variadic, result, in_block, Local, kind_of_local, made_by_type, made_by_pair, some_keep, is_outer_left, is_outer_at}
use Rattle.meaning.specs.Uses.{Seen, is_group, is_group_or_none, found, kind_of, may_be_tracked, tracked_kind, VariableAt, Event, other, return_event, Binding, obtained, cleared, made, is_cancel, kind_at, are_cancels, row_binds, row_clears, are_groups, is_second_free, made_binding, binding_at, binding_event, binding_outcome, row_outcome, role_outcome, local_outcome, is_own}
use Rattle.meaning.specs.BodyEvents.{handed_on, mark_events, seen_file}
use Rattle.meaning.proofs.Membership.{contains_here, contains_there, contains_cases, contains_nil}
use Rattle.meaning_packages.specs.PathFaults.{BindsCancel, obtains, obtains_into, clears}
use Rattle.meaning_reports.specs.Loaded.{known_in, seen_from, trees_of}
use Rattle.meaning_runs.specs.Bodies.{Program, Body, IsOf, code_of}
use Rattle.meaning_runs.specs.EventSources.{HasSource, says_nothing, falls_off, of_mark, IsBound, BindingsAreTracked}
use Rattle.meaning_runs.proofs.Places.{eqb_is}
use Rattle.meaning_runs.proofs.EventSources.{events_have_sources}
use Rattle.meaning_runs.proofs.Bindings.{Binds, binds_so, kind_bound, bound_number, no_binding, single, run_binds_nothing, mention_harmless, of_variable, object_binds_own}
use Rattle.meaning_runs.proofs.KeptEvents.{is_cancel_kind, IsOfObject, by_renew, by_call, by_deferred, by_give, by_keep, by_outer, by_obtaining, by_gift, field_events_are}
use Rattle.meaning_runs.proofs.OwnVariables.{found_is}
use Rattle.meaning_runs.proofs.LeftSides.{Fits, Stands, left_sides_fit}
use Rattle.meaning.specs.OuterBlocks.{or_else}

-- tests of two parts
first_part : (b c : Bool) → (b && c) ≡ true → b ≡ true
first_part true c e = refl
first_part false c e = let bad : false ≡ true = e in cc

second_part : (b c : Bool) → (b && c) ≡ true → c ≡ true
second_part true c e = e
second_part false c e = let bad : false ≡ true = e in cc

pub each_of : (test : ℕ → Bool) (gs : List CancelResult) (k : ℕ) → is_given k gs ≡ true → list_all (λ g. test g.position) gs ≡ true → test k ≡ true
each_of test [] k e h = let bad : false ≡ true = e in cc
each_of test (g ∷ gs) k e h =
    by (g.position == k) refl e (λ r. each_of test gs k r (second_part (test g.position) (list_all (λ x. test x.position) gs) h))
  where
    by : (b : Bool) → (g.position == k) ≡ b → (b || is_given k gs) ≡ true → (is_given k gs ≡ true → test k ≡ true) → test k ≡ true
    by true q r f =
        subst (λ m. test m ≡ true) (eqb_is g.position k q) (first_part (test g.position) (list_all (λ x. test x.position) gs) h)
    by false q r f = f r

pub is_group_kind : (kind : Option VariableKind) → is_group kind ≡ true → kind ≡ Some group
is_group_kind None e = let bad : false ≡ true = e in cc
is_group_kind (Some cancel) e = let bad : false ≡ true = e in cc
is_group_kind (Some group) e = refl

-- what a row binds so
abbrev kind_of_binding : Binding → VariableKind
kind_of_binding (obtained k) = cancel
kind_of_binding cleared = cancel
kind_of_binding (made state) = group

kind_of_event : (known : Known) (l : Local) (m : Mention) (row : Row) (binding : Binding) → kind_of_binding binding ≡ kind_bound (binding_event known l m row binding)
kind_of_event known l m row (obtained k) = refl
kind_of_event known l m row cleared = refl
kind_of_event known l m row (made state) = refl

-- Rows that make

all_at : {A : Type 0} (test : A → Bool) (xs : List A) (k : ℕ) (x : A) → list_all test xs ≡ true → slice_get xs k ≡ Some x → test x ≡ true
all_at test [] k x h e = let bad : None ≡ Some x = e in cc
all_at test (y ∷ ys) zero x h e =
    subst (λ z. test z ≡ true) (same_Some y x e) (first_part (test y) (list_all test ys) h)
all_at test (y ∷ ys) (suc k) x h e = all_at test ys k x (second_part (test y) (list_all test ys) h) e

first_made : (seen : Seen) (row : Row) (k : ℕ) (made_there : Option GroupState) (state : GroupState) → if_first k made_there ≡ Some state → is_group (kind_at seen row 0) ≡ true → is_group (kind_at seen row k) ≡ true
first_made seen row zero made_there state e h = h
first_made seen row (suc k) made_there state e h = let bad : None ≡ Some state = e in cc

-- each name of `var g, h errgroup.Group`
each_made : (seen : Seen) (lefts : List Left) (k : ℕ) → list_all (λ l. is_group_or_none seen (left_local seen.known (Some l))) lefts ≡ true → is_some (left_local seen.known (slice_get lefts k)) ≡ true → is_group (kind_of seen (found seen (left_local seen.known (slice_get lefts k)))) ≡ true
each_made seen lefts k h e = by (slice_get lefts k) refl e
  where
    local : (o : Option ℕ) → is_some o ≡ true → is_group_or_none seen o ≡ true → is_group (kind_of seen (found seen o)) ≡ true
    local None q g = let bad : false ≡ true = q in cc
    local (Some n) q g = g

    by : (o : Option Left) → slice_get lefts k ≡ o → is_some (left_local seen.known o) ≡ true → is_group (kind_of seen (found seen (left_local seen.known o))) ≡ true
    by None is q = let bad : false ≡ true = q in cc
    by (Some l) is q =
        local (left_local seen.known (Some l)) q (all_at (λ x. is_group_or_none seen (left_local seen.known (Some x))) lefts k l h is)

-- each name of a `var` without values, and the first name of one with values
by_values : (seen : Seen) (row : Row) (k : ℕ) (state : GroupState) (t : OptionalExpression) (es : Expressions)
    (pair : Option GroupState)
    → is_some (local_at seen.known row k) ≡ true
    → or_else (made_by_type seen.known t es) (if_first k pair) ≡ Some state
    → (if is_none_left es then list_all (λ l. is_group_or_none seen (left_local seen.known (Some l))) (lefts_of row.form)
    else is_group (kind_at seen row 0)) ≡ true
    → is_group (kind_at seen row k) ≡ true
by_values seen row k state t no_expression pair local made_there groups =
    each_made seen (lefts_of row.form) k groups local
by_values seen row k state missing_expression (expression_and e es) pair local made_there groups =
    first_made seen row k pair state made_there groups
by_values seen row k state (present_expression t) (expression_and e es) pair local made_there groups =
    first_made seen row k pair state made_there groups

made_so : (seen : Seen) (row : Row) (k : ℕ) (state : GroupState) (form : RowForm) → row.form ≡ form → is_some (local_at seen.known row k) ≡ true → made_by_form seen.known row k form ≡ Some state → are_groups seen row form ≡ true → is_group (kind_at seen row k) ≡ true
made_so seen row k state (defines ns) q local made_there groups = first_made seen row k _ state made_there groups
made_so seen row k state (assigns ls) q local made_there groups = first_made seen row k _ state made_there groups
made_so seen row k state (declares Const ns t) q local made_there groups = let bad : None ≡ Some state = made_there in cc
made_so seen row k state (declares Var ns t) q local made_there groups =
    by_values seen row k state t row.values (made_by_pair seen.known.edition seen.known row (length ns) t) local made_there groups
made_so seen row k state (declares type_keyword ns t) q local made_there groups =
    let bad : None ≡ Some state = made_there in cc

makes_there : (seen : Seen) (row : Row) (k : ℕ) (state : GroupState) → row_makes seen.known row k ≡ Some state → are_groups seen row row.form ≡ true → is_group (kind_at seen row k) ≡ true
makes_there seen row k state e groups = by (may_bind row.standing row.form) (is_some (local_at seen.known row k)) refl e
  where
    by : (b c : Bool) → is_some (local_at seen.known row k) ≡ c → (if b && c then made_by_form seen.known row k row.form else None) ≡ Some state → is_group (kind_at seen row k) ≡ true
    by true true q h = made_so seen row k state row.form refl q h groups
    by true false q h = let bad : None ≡ Some state = h in cc
    by false c q h = let bad : None ≡ Some state = h in cc

-- what a row makes on its left side k is of that kind
made_is_group : (seen : Seen) (row : Row) (k : ℕ) (o : Option GroupState) (binding : Binding) → row_makes seen.known row k ≡ o → made_binding seen row o ≡ Some binding → kind_at seen row k ≡ Some (kind_of_binding binding)
made_is_group seen row k None binding q e = let bad : None ≡ Some binding = e in cc
made_is_group seen row k (Some state) binding q e =
    by (are_groups seen row row.form) (is_second_free seen row row.form) refl e
  where
    by : (b c : Bool) → are_groups seen row row.form ≡ b → (if b && c then Some (made state) else None) ≡ Some binding → kind_at seen row k ≡ Some (kind_of_binding binding)
    by true true groups h =
        is_group_kind (kind_at seen row k) (makes_there seen row k state q groups)
        ∙ ap (λ x. Some (kind_of_binding x)) (same_Some (made state) binding h)
    by true false groups h = let bad : None ≡ Some binding = h in cc
    by false c groups h = let bad : None ≡ Some binding = h in cc

pub first_of_either : (b c : Bool) → (b || c) ≡ true → c ≡ false → b ≡ true
first_of_either true c e q = refl
first_of_either false c e q = let bad : true ≡ false = sym e ∙ q in cc

-- where no outer object stands
obtained_is_cancel : (seen : Seen) (row : Row) (k : ℕ) (g : Option Giving) → is_outer_at seen.known row k ≡ false → obtains_there seen.known row k g ≡ true → are_cancels seen row g ≡ true → is_cancel (kind_at seen row k) ≡ true
obtained_is_cancel seen row k None named o c = let bad : false ≡ true = o in cc
obtained_is_cancel seen row k (Some g) named o c =
    first_of_either (is_cancel (kind_at seen row k)) (is_outer_at seen.known row k)
    (each_of (λ j. is_cancel (kind_at seen row j) || is_outer_at seen.known row j) g.gives k (first_part (is_given k g.gives) (are_locals seen.known row g.gives) o) c) named

-- no name is a field of an outer object
pub named_is_no_outer : (known : Known) (row : Row) (k : ℕ) (n : Named) (declared : Option ℕ) → Fits n declared (left k row) → is_outer_at known row k ≡ false
named_is_no_outer known row k n declared fits = ap (is_outer_left known) fits ∙ by (is_blank n.name)
  where
    by : (b : Bool) → is_outer_left known (Some (if b then blank_left else name_left n declared)) ≡ false
    by true = refl
    by false = refl

-- what a row binds on its left side k is of that kind
pub left_is_of_kind : (seen : Seen) (row : Row) (k : ℕ) (binding : Binding) → is_outer_at seen.known row k ≡ false → binding_at seen row k ≡ Some binding → kind_at seen row k ≡ Some (kind_of_binding binding)
left_is_of_kind seen row k binding named e =
    by (row_obtains seen.known row k) (row_binds seen row) (row_clears seen.known row k && is_cancel (kind_at seen row k)) refl refl refl e
  where
    of_cancel : (one : Binding) → kind_of_binding one ≡ cancel → Some one ≡ Some binding → is_cancel (kind_at seen row k) ≡ true → kind_at seen row k ≡ Some (kind_of_binding binding)
    of_cancel one is h c =
        is_cancel_kind (kind_at seen row k) c ∙ ap Some (sym is) ∙ ap (λ x. Some (kind_of_binding x)) (same_Some one binding h)

    by : (o r x : Bool) → row_obtains seen.known row k ≡ o → row_binds seen row ≡ r → (row_clears seen.known row k && is_cancel (kind_at seen row k)) ≡ x
        → (if o then if r then Some (obtained k) else None else if x then Some cleared else made_binding seen row (row_makes seen.known row k)) ≡ Some binding
        → kind_at seen row k ≡ Some (kind_of_binding binding)
    by true true x p q s h = of_cancel (obtained k) refl h (obtained_is_cancel seen row k (row_giving seen.known row) named p q)
    by true false x p q s h = let bad : None ≡ Some binding = h in cc
    by false r true p q s h =
        of_cancel cleared refl h (second_part (row_clears seen.known row k) (is_cancel (kind_at seen row k)) s)
    by false r false p q s h = made_is_group seen row k (row_makes seen.known row k) binding refl h

-- a blank name is of no local
of_blank : (known : Known) (n : Named) (declared : Option ℕ) → is_blank n.name ≡ true → left_local known (Some (left_name n declared)) ≡ None
of_blank known n declared q = ap (λ b. left_local known (Some (if b then blank_left else name_left n declared))) q

of_name : (known : Known) (n : Named) (declared : Option ℕ) → is_blank n.name ≡ false → left_local known (Some (left_name n declared)) ≡ local_meant_or (known.means n.at) declared
of_name known n declared q = ap (λ b. left_local known (Some (if b then blank_left else name_left n declared))) q

-- the mention is what stands on the left side
pub mention_is_of_kind : (seen : Seen) (m : Mention) (row : Row) (k : ℕ) (l : Local) (kind : VariableKind) → Fits m.named m.declares (left k row) → found seen (variable_of seen.known m) ≡ Some l → kind_at seen row k ≡ Some kind → kind_of seen (Some l) ≡ Some kind
mention_is_of_kind seen m row k l kind fits is c =
    by (is_blank m.named.name) refl (subst (λ o. kind_of seen (found seen (left_local seen.known o)) ≡ Some kind) fits c)
  where
    by : (b : Bool) → is_blank m.named.name ≡ b → kind_of seen (found seen (left_local seen.known (Some (left_name m.named m.declares)))) ≡ Some kind → kind_of seen (Some l) ≡ Some kind
    by true q h =
        let none : left_local seen.known (Some (left_name m.named m.declares)) ≡ None = of_blank seen.known m.named m.declares q in
        let bad : None ≡ Some kind = sym (ap (λ o. kind_of seen (found seen o)) none) ∙ h in
        cc
    by false q h =
        let same : left_local seen.known (Some (left_name m.named m.declares)) ≡ variable_of seen.known m = of_name seen.known m.named m.declares q in
        subst (λ o. kind_of seen o ≡ Some kind) is (subst (λ o. kind_of seen (found seen o) ≡ Some kind) same h)

-- the local of what the event binds, and its kind
abbrev IsOfKind : Seen → Event → VariableAt → Local → Type 0
IsOfKind seen e u l = (l.number ≡ u.number) × (kind_of seen (Some l) ≡ Some (kind_bound e))

abbrev HasKind : Seen → Mention → Event → VariableAt → Type 0
HasKind seen m e u = (l : Local) × (found seen (variable_of seen.known m) ≡ Some l) × IsOfKind seen e u l

module _ (seen : Seen) (bodies : List BodyPlace) (m : Mention) (e : Event) (u : VariableAt) (binds : Binds e u) where
  module _ (l : Local) (is : found seen (variable_of seen.known m) ≡ Some l) where
    by_place : (own : Bool) (x : Event) → (Binds x u → IsOfKind seen x u l) → Contains (if own then x ∷ [] else []) e → IsOfKind seen e u l
    by_place false x f h = absurd (contains_nil e h)
    by_place true x f h =
        let same : x ≡ e = elim (contains_cases x e [] h) [ inl k ↦ k | inr n ↦ absurd (contains_nil e n) ] in
        subst (λ y. IsOfKind seen y u l) same (f (subst (λ y. Binds y u) (sym same) binds))

    by_local_role : (kind : VariableKind) (row : Row) (b : Binding) (r : LocalRole) → (Binds (binding_event seen.known l m row b) u → IsOfKind seen (binding_event seen.known l m row b) u l) → Contains (binding_outcome seen l kind bodies m row b r).events e → IsOfKind seen e u l
    by_local_role kind row b (parameter k) f h = absurd (contains_nil e h)
    by_local_role kind row b receiver f h = absurd (contains_nil e h)
    by_local_role kind row b variadic f h = absurd (contains_nil e h)
    by_local_role kind row b result f h = absurd (contains_nil e h)
    by_local_role kind row b in_block f h = by_place (is_own l bodies) (binding_event seen.known l m row b) f h

    by_row : (kind : Option VariableKind) (row : Row) (k : ℕ) (binding : Option Binding) → Fits m.named m.declares (left k row) → binding_at seen row k ≡ binding → Contains (row_outcome seen l kind bodies m row binding).events e → IsOfKind seen e u l
    by_row None row k None fits q h = absurd (contains_nil e h)
    by_row None row k (Some binding) fits q h = absurd (contains_nil e h)
    by_row (Some kind) row k None fits q h = absurd (mention_harmless seen l (tracked_kind seen (Some l)) bodies m e h u binds)
    by_row (Some kind) row k (Some binding) fits q h =
        let bound = binding_event seen.known l m row binding in
        let same : kind_of_binding binding ≡ kind_bound bound = kind_of_event seen.known l m row binding in
        by_local_role kind row binding l.role (λ x. (bound_number seen.known l m row binding u x, subst (λ k. kind_of seen (Some l) ≡ Some k) same (mention_is_of_kind seen m row k l (kind_of_binding binding) fits is (left_is_of_kind seen row k binding (named_is_no_outer seen.known row k m.named m.declares fits) q)))) h

    by_role : (r : Role) → Fits m.named m.declares r → Contains (role_outcome seen l bodies m r).events e → IsOfKind seen e u l
    by_role (left k row) fits h = by_row (kind_of seen (Some l)) row k (binding_at seen row k) fits refl h
    by_role elsewhere fits h = absurd (mention_harmless seen l (tracked_kind seen (Some l)) bodies m e h u binds)
    by_role as_key fits h = absurd (mention_harmless seen l (tracked_kind seen (Some l)) bodies m e h u binds)
    by_role exposed fits h = absurd (mention_harmless seen l (tracked_kind seen (Some l)) bodies m e h u binds)
    by_role pointed_to fits h = absurd (mention_harmless seen l (tracked_kind seen (Some l)) bodies m e h u binds)
    by_role (found_nil nil) fits h = absurd (mention_harmless seen l (tracked_kind seen (Some l)) bodies m e h u binds)
    by_role (found_error nil row) fits h = absurd (mention_harmless seen l (tracked_kind seen (Some l)) bodies m e h u binds)
    by_role (called c) fits h = absurd (mention_harmless seen l (tracked_kind seen (Some l)) bodies m e h u binds)
    by_role called_in_brackets fits h = absurd (mention_harmless seen l (tracked_kind seen (Some l)) bodies m e h u binds)
    by_role (argument k x c) fits h = absurd (mention_harmless seen l (tracked_kind seen (Some l)) bodies m e h u binds)
    by_role (returned k) fits h = absurd (mention_harmless seen l (tracked_kind seen (Some l)) bodies m e h u binds)
    by_role (names_type row) fits h = absurd (mention_harmless seen l (tracked_kind seen (Some l)) bodies m e h u binds)
    by_role (new_literal row) fits h = absurd (mention_harmless seen l (tracked_kind seen (Some l)) bodies m e h u binds)
    by_role parameter_pointer fits h = absurd (mention_harmless seen l (tracked_kind seen (Some l)) bodies m e h u binds)

  by_found : (o : Option Local) → found seen (variable_of seen.known m) ≡ o → Fits m.named m.declares m.role → Contains (local_outcome seen bodies m o).events e → HasKind seen m e u
  by_found None q fits h = absurd (contains_nil e h)
  by_found (Some l) q fits h = (l, q, by_role l q m.role fits h)

-- the local of what an event binds, as it is found, and its kind
abbrev IsKinded : Seen → Event → VariableAt → Type 0
IsKinded seen e u = (l : Local) × (found seen (Some l.number) ≡ Some l) × IsOfKind seen e u l

kinded : (seen : Seen) (m : Mention) (e : Event) (u : VariableAt) → HasKind seen m e u → IsKinded seen e u
kinded seen m e u h = (h.0, (found_is seen (variable_of seen.known m) h.0 h.1).0, h.2)

kind_so : (kind : Option VariableKind) (r : LocalRole) → r ≡ in_block → (if may_be_tracked r then kind else None) ≡ kind
kind_so kind r q = ap (λ x. if may_be_tracked x then kind else None) q

of_object : (seen : Seen) (bodies : List BodyPlace) (mark : Mark) (e : Event) (u : VariableAt)
    → IsOfObject seen bodies mark e
    → Binds e u
    → kind_bound e ≡ cancel
    → IsKinded seen e u
of_object seen bodies mark e u is binds kind =
    let own = (object_binds_own e u is binds).0 in (
      own.local,
      ap (λ n. found seen (Some n)) own.is_it ∙ own.is_found,
      (
        own.is_it,
        sym (kind_so (kind_of_local seen.known seen.marks own.local) own.local.role own.is_in_block)
            ∙ own.is_cancel_variable ∙ ap Some (sym kind),
      ),
    )

object_is_cancel : {seen : Seen} {bodies : List BodyPlace} {mark : Mark} (e : Event)
    → IsOfObject seen bodies mark e
    → kind_bound e ≡ cancel
object_is_cancel e (by_renew k h) = refl
object_is_cancel e (by_call k h) = refl
object_is_cancel e (by_deferred k h) = refl
object_is_cancel e (by_give k h) = refl
object_is_cancel e (by_keep k h fits) = refl
object_is_cancel e (by_outer k h fits) = refl
object_is_cancel e (by_obtaining k site l a is h told) = refl
object_is_cancel e (by_gift x v c q) = refl

by_mark : (seen : Seen) (bodies : List BodyPlace) (mark : Mark) (e : Event) (u : VariableAt) → Stands mark → Contains (mark_events seen bodies mark) e → Binds e u → IsKinded seen e u
by_mark seen bodies (mentions m) e u fits h binds = elim (of_variable seen bodies m e u h binds) [
  | inl own ↦ kinded seen m e u (by_found seen bodies m e u binds (found seen (variable_of seen.known m)) refl fits own)
  | inr is ↦ of_object seen bodies (mentions m) e u is binds (object_is_cancel e is)
]
by_mark seen bodies (of_fields site m) e u fits h binds =
    let is = field_events_are seen bodies site m e h in
    of_object seen bodies (of_fields site m) e u is binds (object_is_cancel e is)
by_mark seen bodies (runs_literal moment site at) e u fits h binds = absurd (run_binds_nothing seen.known.edition moment at e h u binds)
by_mark seen bodies (returns at es) e u fits h binds = absurd (single (return_event (handed_on seen bodies 0 es)) refl e h u binds)
by_mark seen bodies (opens x) e u fits h binds = absurd (contains_nil e h)
by_mark seen bodies closes e u fits h binds = absurd (contains_nil e h)

-- the file of a body is a tree with what is known in the tree of its number
pub of_number : (known : ℕ → Known) (n : ℕ) (trees : List SourceFile) (seen : Seen) → Contains (seen_from known n trees) seen
    → (number : ℕ) × (tree : SourceFile) × (seen_file (known number) tree ≡ seen) × Contains trees tree
of_number known n [] seen h = absurd (contains_nil seen h)
of_number known n (tree ∷ trees) seen h =
    elim (contains_cases (seen_file (known n) tree) seen (seen_from known (n + 1) trees) h) [
      | inl q ↦ (n, tree, q, contains_here tree trees)
      | inr r ↦ let w = of_number known (n + 1) trees seen r in (w.0, w.1, w.2, contains_there tree w.1 trees w.3)
    ]

pub of_tree : (known : ℕ → Known) (n : ℕ) (trees : List SourceFile) (seen : Seen) → Contains (seen_from known n trees) seen → (k : Known) × (tree : SourceFile) × (seen_file k tree ≡ seen) × Contains trees tree
of_tree known n trees seen h = let w = of_number known n trees seen h in (known w.0, w.1, w.2, w.3)

marks_stand : (seen : Seen) (k : Known) (tree : SourceFile) → seen_file k tree ≡ seen → (mark : Placed) → Contains seen.marks mark → Stands mark.mark
marks_stand seen k tree q mark h = left_sides_fit k.edition (some_keep k.fields) tree mark (subst (λ (s : Seen). Contains s.marks mark) (sym q) h)

by_source : (b : Body) (e : Event) (u : VariableAt) → ((mark : Placed) → Contains b.file.marks mark → Stands mark.mark) → HasSource b e → Binds e u → IsKinded b.file e u
by_source b e u stand says_nothing binds = absurd (no_binding other u refl binds)
by_source b e u stand falls_off binds = absurd (no_binding (return_event []) u refl binds)
by_source b e u stand (of_mark mark among here h) binds = by_mark b.file mark.bodies mark.mark e u (stand mark among) h binds

-- the local that an event binds is tracked as what the event binds
pub is_tracked : (p : Program) (b : Body) (t : List (Occurrence Event)) (o : Occurrence Event) (u : VariableAt)
    → IsOf p b
    → Reaches (code_of b) t o
    → Binds o.event u
    → (h : IsBound b u)
    → tracked_kind b.file (Some h.local) ≡ Some (kind_bound o.event)
is_tracked p b t o u of reached binds h =
    let r = of_tree (known_in p.packages p.tables of.loaded) 0 (trees_of of.loaded) b.file of.is_file in
    let w = by_source b o.event u (marks_stand b.file r.0 r.1 r.2) (events_have_sources b t o reached) binds in
    let kind = w.2 in
    let second = found_is b.file (Some u.number) h.local h.is_found in
    let same : w.0 ≡ h.local = same_Some w.0 h.local (sym w.1 ∙ ap (λ n. found b.file (Some n)) (kind.0 ∙ sym h.is_it) ∙ second.0) in
    ap (λ r. if may_be_tracked r then kind_of_local b.file.known b.file.marks h.local else None) h.is_in_block
    ∙ subst (λ l. kind_of b.file (Some l) ≡ Some (kind_bound o.event)) same kind.1

pub cancel_bound : (e : Event) (u : VariableAt) → BindsCancel e u → kind_bound e ≡ cancel
cancel_bound e u obtains = refl
cancel_bound e u obtains_into = refl
cancel_bound e u clears = refl

pub bindings_are_tracked : BindingsAreTracked
bindings_are_tracked p b t o u of reached binds h =
    let w = binds_so o.event u binds in
    let its : IsBound b w.0 = record {
      local = h.local;
      is_found = ap (λ n. found b.file (Some n)) w.2 ∙ h.is_found;
      is_it = h.is_it ∙ sym w.2;
      is_declared_here = h.is_declared_here;
      is_in_block = h.is_in_block;
    } in
    is_tracked p b t o w.0 of reached w.1 its ∙ ap Some (cancel_bound o.event u binds)
