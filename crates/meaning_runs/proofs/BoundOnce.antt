-- Where nothing is found in a file, a variable that a literal mentions is bound only where it is declared: elsewhere its
-- binding is a fault.
use Rattle.std.proofs.Common.{◌≡◌, ℕ, zero, suc, Bool, true, false, inl, inr, List, [], ◌∷◌, ◌++◌, map, Option, Some, None, Contains, refl, sym, ap, ◌∙◌, subst}
use Rattle.std.specs.Prelude.{◌&&◌, if◌then◌else◌, not, is_some, slice_get, ◌||◌}
use Rattle.std.proofs.lemmas.Bool.{and_parts, eq-eqb}
use Rattle.std.proofs.lemmas.List.Elements.{Contains-append_left, Contains-append_right}
use Rattle.std.proofs.lemmas.Option.{same_Some}
use Rattle.tree.specs.Syntax.{Identifier, Expression, Expressions, no_expression, expression_and}
use Rattle.meaning.specs.Code.{Occurrence}
use Rattle.meaning.specs.Lists.{Reaches}
use Rattle.meaning.specs.Scopes.{is_blank}
use Rattle.meaning.specs.Declarations.{Meaning}
use Rattle.meaning.specs.FunctionFacts.{VariableKind}
use Rattle.meaning.specs.Mentions.{Named, bare, RowForm, defines, assigns, declares, Row, Role, elsewhere, as_key, called, called_in_brackets, argument, returned, left, names_type, new_literal, parameter_pointer, Mention, BodyPlace, Mark, mentions, runs_literal, returns, opens, closes, exposed, found_nil, found_error, pointed_to, of_fields}
use Rattle.meaning.specs.Tracked.{Known, Giving, local_meant_or, variable_of, declared_there, declared_by, blank_left, name_left, other_left, left_name, left_of_name, left_of_expression, field_left, is_outer_at, lefts_of_expressions, lefts_of, left_local, local_at, may_bind, row_giving, is_given, are_locals, obtains_there, row_obtains, row_makes, made_by_form, Placed, LocalRole, parameter, receiver, variadic, result, in_block, Local}
use Rattle.meaning.specs.Uses.{Seen, found, kind_of, tracked_kind, VariableAt, Event, other, return_event, Binding, obtained, cleared, made, is_cancel, kind_at, row_binds, row_clears, made_binding, binding_at, binding_event, is_in_literal, fault_at, bound_again, UseFault, first_faults, type_faults, again_faults, binding_outcome, row_outcome, role_outcome, local_outcome, variable_outcome, is_own, is_body, mention_faults}
use Rattle.meaning.specs.BodyEvents.{handed_on, mark_events, mark_faults, faults_of, variables_of, too_many_faults, body_faults}
use Rattle.meaning.proofs.Membership.{contains_here, contains_cases, contains_nil}
use Rattle.meaning_runs.specs.Bodies.{Body, code_of}
use Rattle.meaning_runs.specs.World.{own_cell, is_declaration}
use Rattle.meaning_runs.specs.EventSources.{HasSource, says_nothing, falls_off, of_mark}
use Rattle.meaning_runs.proofs.EventSources.{events_have_sources}
use Rattle.meaning_runs.proofs.Bindings.{Binds, obtains, clears, makes, no_binding, single, run_binds_nothing, mention_harmless, of_variable, object_binds_own}
use Rattle.meaning_runs.proofs.KeptEvents.{IsOwnLocal, field_events_are}
use Rattle.meaning_runs.proofs.OwnVariables.{find_is, found_is}
use Rattle.meaning_runs.proofs.TrackedBindings.{each_of, first_of_either, named_is_no_outer}
use Rattle.meaning_runs.proofs.LeftSides.{Fits, Stands, left_cases}

-- A left side that declares a local declares the one of its own offset

at_names : (ns : List Identifier) (k : ℕ) (n : Named) (d : ℕ) → slice_get (map left_of_name ns) k ≡ Some (name_left n (Some d)) → n.at ≡ d
at_names [] k n d e = let bad : None ≡ Some (name_left n (Some d)) = e in cc
at_names (i ∷ is) zero n d e = by (is_blank i.text) (same_Some (left_of_name i) (name_left n (Some d)) e)
  where
    by : (b : Bool) → (if b then blank_left else name_left (bare i.text i.span.start) (if b then None else Some i.span.start)) ≡ name_left n (Some d) → n.at ≡ d
    by true q = let bad : blank_left ≡ name_left n (Some d) = q in cc
    by false q =
        let is : name_left (bare i.text i.span.start) (Some i.span.start) ≡ name_left n (Some d) = q in
        let same : bare i.text i.span.start ≡ n = cc in
        let number : i.span.start ≡ d = cc in
        ap (λ (x : Named). x.at) (sym same) ∙ number
at_names (i ∷ is) (suc k) n d e = at_names is k n d e

bare_declares_none : (m n : Named) (d : ℕ) → left_name m None ≡ name_left n (Some d) → ⊥
bare_declares_none m n d e = by (is_blank m.name) e
  where
    by : (b : Bool) → (if b then blank_left else name_left m None) ≡ name_left n (Some d) → ⊥
    by true q = let bad : blank_left ≡ name_left n (Some d) = q in cc
    by false q = let bad : name_left m None ≡ name_left n (Some d) = q in cc

named_declares_none : (x : Expression) (n : Named) (d : ℕ) → left_of_expression x ≡ name_left n (Some d) → ⊥
named_declares_none x n d e = elim (left_cases x) [
  | inl r ↦ bare_declares_none r.0 n d (sym r.2 ∙ e)
  | inr r ↦ elim r.1 [
    | inl f ↦ (let bad : field_left f.0 ≡ name_left n (Some d) = sym f.1 ∙ e in cc)
    | inr o ↦ (let bad : other_left ≡ name_left n (Some d) = sym o ∙ e in cc)
  ]
]

expressions_declare_none : (ls : Expressions) (k : ℕ) (n : Named) (d : ℕ) → slice_get (lefts_of_expressions ls) k ≡ Some (name_left n (Some d)) → ⊥
expressions_declare_none no_expression k n d e = let bad : None ≡ Some (name_left n (Some d)) = e in cc
expressions_declare_none (expression_and x xs) zero n d e =
    named_declares_none x n d (same_Some (left_of_expression x) (name_left n (Some d)) e)
expressions_declare_none (expression_and x xs) (suc k) n d e = expressions_declare_none xs k n d e

at_left : (form : RowForm) (k : ℕ) (n : Named) (d : ℕ) → slice_get (lefts_of form) k ≡ Some (name_left n (Some d)) → n.at ≡ d
at_left (defines ns) k n d e = at_names ns k n d e
at_left (assigns ls) k n d e = absurd (expressions_declare_none ls k n d e)
at_left (declares keyword ns t) k n d e = at_names ns k n d e

-- A local stands on a left side that is bound

obtained_is_local : (known : Known) (row : Row) (k : ℕ) (g : Option Giving) → is_outer_at known row k ≡ false → obtains_there known row k g ≡ true → is_some (local_at known row k) ≡ true
obtained_is_local known row k None named e = let bad : false ≡ true = e in cc
obtained_is_local known row k (Some g) named e =
    let parts = and_parts (is_given k g.gives) (are_locals known row g.gives) e in
    first_of_either (is_some (local_at known row k)) (is_outer_at known row k)
    (each_of (λ j. is_some (local_at known row j) || is_outer_at known row j) g.gives k parts.0 parts.1) named

cancel_is_local : (seen : Seen) (o : Option ℕ) → is_cancel (kind_of seen (found seen o)) ≡ true → is_some o ≡ true
cancel_is_local seen None e = let bad : false ≡ true = e in cc
cancel_is_local seen (Some n) e = refl

made_is_local : (seen : Seen) (row : Row) (k : ℕ) (binding : Binding) → made_binding seen row (row_makes seen.known row k) ≡ Some binding → is_some (local_at seen.known row k) ≡ true
made_is_local seen row k binding e = by (may_bind row.standing row.form) (is_some (local_at seen.known row k)) e
  where
    by : (b c : Bool) → made_binding seen row (if b && c then made_by_form seen.known row k row.form else None) ≡ Some binding → c ≡ true
    by true true q = refl
    by true false q = let bad : None ≡ Some binding = q in cc
    by false true q = refl
    by false false q = let bad : None ≡ Some binding = q in cc

bound_is_local : (seen : Seen) (row : Row) (k : ℕ) (binding : Binding) → is_outer_at seen.known row k ≡ false → binding_at seen row k ≡ Some binding → is_some (local_at seen.known row k) ≡ true
bound_is_local seen row k binding named e =
    by (row_obtains seen.known row k) (row_binds seen row) (row_clears seen.known row k && is_cancel (kind_at seen row k)) refl refl e
  where
    by : (o r x : Bool) → row_obtains seen.known row k ≡ o → (row_clears seen.known row k && is_cancel (kind_at seen row k)) ≡ x
        → (if o then if r then Some (obtained k) else None else if x then Some cleared else made_binding seen row (row_makes seen.known row k)) ≡ Some binding
        → is_some (local_at seen.known row k) ≡ true
    by true r x p q h = obtained_is_local seen.known row k (row_giving seen.known row) named p
    by false r true p q h =
        cancel_is_local seen (local_at seen.known row k) (and_parts (row_clears seen.known row k) (is_cancel (kind_at seen row k)) q).1
    by false r false p q h = made_is_local seen row k binding h

-- The number that a mention declares

declared : (meaning : Option Meaning) (d : Option ℕ) → is_some (declared_there meaning d) ≡ true → (n : ℕ) × (d ≡ Some n) × (local_meant_or meaning d ≡ Some n)
declared None None e = let bad : false ≡ true = e in cc
declared None (Some n) e = (n, refl, refl)
declared (Some meaning) d e = let bad : false ≡ true = e in cc

declares_its_offset : (seen : Seen) (m : Mention) (row : Row) (k : ℕ) (l : Local) → Fits m.named m.declares (left k row) → found seen (variable_of seen.known m) ≡ Some l → is_some (local_at seen.known row k) ≡ true → is_some (declared_by seen.known m) ≡ true → m.named.at ≡ l.number
declares_its_offset seen m row k l fits is local declared_here =
    let d = declared (seen.known.means m.named.at) m.declares declared_here in
    let there : slice_get (lefts_of row.form) k ≡ Some (left_name m.named (Some d.0)) = fits ∙ ap (λ o. Some (left_name m.named o)) d.1 in
    let number : l.number ≡ d.0 = (find_is seen.locals d.0 l (ap (found seen) (sym d.2) ∙ is)).1 in
    by (is_blank m.named.name) d.0 there (subst (λ o. is_some (left_local seen.known o) ≡ true) there local) ∙ sym number
  where
    by : (b : Bool) (n : ℕ) → slice_get (lefts_of row.form) k ≡ Some (if b then blank_left else name_left m.named (Some n)) → is_some (left_local seen.known (Some (if b then blank_left else name_left m.named (Some n)))) ≡ true → m.named.at ≡ n
    by true n q h = let bad : false ≡ true = h in cc
    by false n q h = at_left row.form k m.named n q

-- Without faults

abbrev pub IsWithout : List UseFault → Type 0
IsWithout xs = (x : UseFault) → Contains xs x → ⊥

is_declared_again : (seen : Seen) (l : Local) (m : Mention) → IsWithout (again_faults seen l m) → is_in_literal seen l ≡ true → is_some (declared_by seen.known m) ≡ true
is_declared_again seen l m none e = by (is_in_literal seen l) (is_some (declared_by seen.known m)) e none
  where
    by : (b c : Bool) → b ≡ true → IsWithout (if b && not c then fault_at m.named.at bound_again l.name else []) → c ≡ true
    by true true q h = refl
    by true false q h = absurd (h _ (contains_here _ []))
    by false c q h = let bad : false ≡ true = q in cc

bound_there : (known : Known) (l : Local) (m : Mention) (row : Row) (binding : Binding) (u : VariableAt) → Binds (binding_event known l m row binding) u → (l.number ≡ u.number) × (m.named.at ≡ u.at)
bound_there known l m row (obtained k) u obtains = (refl, refl)
bound_there known l m row cleared u clears = (refl, refl)
bound_there known l m row (made state) u makes = (refl, refl)

-- the variable's local, and where it is bound if a literal mentions it
abbrev IsOnce : Seen → VariableAt → Local → Type 0
IsOnce seen u l = (l.number ≡ u.number) × (is_in_literal seen l ≡ true → u.at ≡ u.number)

abbrev HasLocal : Seen → VariableAt → Type 0
HasLocal seen u = (l : Local) × (found seen (Some l.number) ≡ Some l) × IsOnce seen u l

module _ (seen : Seen) (bodies : List BodyPlace) (m : Mention) (e : Event) (u : VariableAt) (binds : Binds e u) where
  module _ (l : Local) (is : found seen (variable_of seen.known m) ≡ Some l) where
    by_place : (own : Bool) (x : Event) → (Binds x u → IsOnce seen u l) → Contains (if own then x ∷ [] else []) e → IsOnce seen u l
    by_place false x f h = absurd (contains_nil e h)
    by_place true x f h =
        let same : x ≡ e = elim (contains_cases x e [] h) [ inl k ↦ k | inr n ↦ absurd (contains_nil e n) ] in
        f (subst (λ y. Binds y u) (sym same) binds)

    -- the last of the faults of a binding
    none_again : (kind : VariableKind) (row : Row) (b : Binding) → IsWithout (first_faults row.standing kind l m ++ (type_faults seen l m row b ++ again_faults seen l m)) → IsWithout (again_faults seen l m)
    none_again kind row b none y k =
        none y (Contains-append_right (first_faults row.standing kind l m) (type_faults seen l m row b ++ again_faults seen l m) y
        (Contains-append_right (type_faults seen l m row b) (again_faults seen l m) y k))

    by_local_role : (kind : VariableKind) (row : Row) (b : Binding) (r : LocalRole) → (IsWithout (again_faults seen l m) → Binds (binding_event seen.known l m row b) u → IsOnce seen u l) → IsWithout (binding_outcome seen l kind bodies m row b r).faults → Contains (binding_outcome seen l kind bodies m row b r).events e → IsOnce seen u l
    by_local_role kind row b (parameter k) f none h = absurd (contains_nil e h)
    by_local_role kind row b receiver f none h = absurd (contains_nil e h)
    by_local_role kind row b variadic f none h = absurd (contains_nil e h)
    by_local_role kind row b result f none h = absurd (contains_nil e h)
    by_local_role kind row b in_block f none h =
        by_place (is_own l bodies) (binding_event seen.known l m row b) (f (none_again kind row b none)) h

    once : (row : Row) (k : ℕ) (binding : Binding) → Fits m.named m.declares (left k row) → binding_at seen row k ≡ Some binding → IsWithout (again_faults seen l m) → Binds (binding_event seen.known l m row binding) u → IsOnce seen u l
    once row k binding fits q none b =
        let r = bound_there seen.known l m row binding u b in
        (r.0, λ inside. sym r.1 ∙ declares_its_offset seen m row k l fits is (bound_is_local seen row k binding (named_is_no_outer seen.known row k m.named m.declares fits) q) (is_declared_again seen l m none inside) ∙ r.0)

    by_row : (kind : Option VariableKind) (row : Row) (k : ℕ) (binding : Option Binding) → Fits m.named m.declares (left k row) → binding_at seen row k ≡ binding → IsWithout (row_outcome seen l kind bodies m row binding).faults → Contains (row_outcome seen l kind bodies m row binding).events e → IsOnce seen u l
    by_row None row k None fits q none h = absurd (contains_nil e h)
    by_row None row k (Some binding) fits q none h = absurd (contains_nil e h)
    by_row (Some kind) row k None fits q none h = absurd (mention_harmless seen l (tracked_kind seen (Some l)) bodies m e h u binds)
    by_row (Some kind) row k (Some binding) fits q none h =
        by_local_role kind row binding l.role (once row k binding fits q) none h

    by_role : (r : Role) → Fits m.named m.declares r → IsWithout (role_outcome seen l bodies m r).faults → Contains (role_outcome seen l bodies m r).events e → IsOnce seen u l
    by_role (left k row) fits none h = by_row (kind_of seen (Some l)) row k (binding_at seen row k) fits refl none h
    by_role elsewhere fits none h = absurd (mention_harmless seen l (tracked_kind seen (Some l)) bodies m e h u binds)
    by_role as_key fits none h = absurd (mention_harmless seen l (tracked_kind seen (Some l)) bodies m e h u binds)
    by_role exposed fits none h = absurd (mention_harmless seen l (tracked_kind seen (Some l)) bodies m e h u binds)
    by_role pointed_to fits none h = absurd (mention_harmless seen l (tracked_kind seen (Some l)) bodies m e h u binds)
    by_role (found_nil nil) fits none h = absurd (mention_harmless seen l (tracked_kind seen (Some l)) bodies m e h u binds)
    by_role (found_error nil row) fits none h = absurd (mention_harmless seen l (tracked_kind seen (Some l)) bodies m e h u binds)
    by_role (called c) fits none h = absurd (mention_harmless seen l (tracked_kind seen (Some l)) bodies m e h u binds)
    by_role called_in_brackets fits none h = absurd (mention_harmless seen l (tracked_kind seen (Some l)) bodies m e h u binds)
    by_role (argument k x c) fits none h = absurd (mention_harmless seen l (tracked_kind seen (Some l)) bodies m e h u binds)
    by_role (returned k) fits none h = absurd (mention_harmless seen l (tracked_kind seen (Some l)) bodies m e h u binds)
    by_role (names_type row) fits none h = absurd (mention_harmless seen l (tracked_kind seen (Some l)) bodies m e h u binds)
    by_role (new_literal row) fits none h = absurd (mention_harmless seen l (tracked_kind seen (Some l)) bodies m e h u binds)
    by_role parameter_pointer fits none h = absurd (mention_harmless seen l (tracked_kind seen (Some l)) bodies m e h u binds)

  by_found : (o : Option Local) → found seen (variable_of seen.known m) ≡ o → Fits m.named m.declares m.role → IsWithout (local_outcome seen bodies m o).faults → Contains (local_outcome seen bodies m o).events e → HasLocal seen u
  by_found None q fits none h = absurd (contains_nil e h)
  by_found (Some l) q fits none h =
      (l, (found_is seen (variable_of seen.known m) l q).0, by_role l q m.role fits none h)

-- a field of an object that is a variable of its own is bound as if it was declared there
in_its_cell : (seen : Seen) (bodies : List BodyPlace) (e : Event) (u : VariableAt)
    → IsOwnLocal seen bodies u.number × (u ≡ own_cell u.number)
    → HasLocal seen u
in_its_cell seen bodies e u (own, cell) = (
  own.local,
  ap (λ n. found seen (Some n)) own.is_it ∙ own.is_found,
  (own.is_it, λ inside. ap (λ (x : VariableAt). x.at) cell),
)

by_mark : (seen : Seen) (bodies : List BodyPlace) (mark : Mark) (e : Event) (u : VariableAt) → Stands mark → IsWithout (mark_faults seen bodies mark) → Contains (mark_events seen bodies mark) e → Binds e u → HasLocal seen u
by_mark seen bodies (mentions m) e u fits none h binds = elim (of_variable seen bodies m e u h binds) [
  | inl own ↦ by_found seen bodies m e u binds (found seen (variable_of seen.known m)) refl fits
      (λ x k. none x (Contains-append_left (mention_faults seen bodies m) _ x (Contains-append_left (variable_outcome seen bodies m).faults _ x k))) own
  | inr is ↦ in_its_cell seen bodies e u (object_binds_own e u is binds)
]
by_mark seen bodies (of_fields site m) e u fits none h binds =
    in_its_cell seen bodies e u (object_binds_own e u (field_events_are seen bodies site m e h) binds)
by_mark seen bodies (runs_literal moment site at) e u fits none h binds = absurd (run_binds_nothing seen.known.edition moment at e h u binds)
by_mark seen bodies (returns at es) e u fits none h binds = absurd (single (return_event (handed_on seen bodies 0 es)) refl e h u binds)
by_mark seen bodies (opens x) e u fits none h binds = absurd (contains_nil e h)
by_mark seen bodies closes e u fits none h binds = absurd (contains_nil e h)

-- the faults of a mark in a body are the body's
pub of_its_mark : (seen : Seen) (body : ℕ) (marks : List Placed) (p : Placed) (x : UseFault) → Contains marks p → is_body body p.bodies ≡ true → Contains (mark_faults seen p.bodies p.mark) x → Contains (faults_of seen body marks) x
of_its_mark seen body [] p x among here h = absurd (contains_nil p among)
of_its_mark seen body (q ∷ qs) p x among here h =
    elim (contains_cases q p qs among) [
      | inl same ↦ first (is_body body q.bodies) (ap (λ (r : Placed). is_body body r.bodies) same ∙ here) (subst (λ (r : Placed). Contains (mark_faults seen r.bodies r.mark) x) (sym same) h)
      | inr later ↦ next (is_body body q.bodies) (of_its_mark seen body qs p x later here h)
    ]
  where
    first : (b : Bool) → b ≡ true → Contains (mark_faults seen q.bodies q.mark) x → Contains (if b then mark_faults seen q.bodies q.mark ++ faults_of seen body qs else faults_of seen body qs) x
    first true e k = Contains-append_left (mark_faults seen q.bodies q.mark) (faults_of seen body qs) x k
    first false e k = let bad : false ≡ true = e in cc

    next : (b : Bool) → Contains (faults_of seen body qs) x → Contains (if b then mark_faults seen q.bodies q.mark ++ faults_of seen body qs else faults_of seen body qs) x
    next true k = Contains-append_right (mark_faults seen q.bodies q.mark) (faults_of seen body qs) x k
    next false k = k

by_source : (b : Body) (e : Event) (u : VariableAt) → ((mark : Placed) → Contains b.file.marks mark → Stands mark.mark) → IsWithout (faults_of b.file b.place.at b.file.marks) → HasSource b e → Binds e u → HasLocal b.file u
by_source b e u stand none says_nothing binds = absurd (no_binding other u refl binds)
by_source b e u stand none falls_off binds = absurd (no_binding (return_event []) u refl binds)
by_source b e u stand none (of_mark mark among here h) binds =
    by_mark b.file mark.bodies mark.mark e u (stand mark among) (λ x k. none x (of_its_mark b.file b.place.at b.file.marks mark x among here k)) h binds

-- a local that a literal mentions is bound in its declaration alone, where no use in the body is a fault
pub is_declared_there : (b : Body)
    → ((mark : Placed) → Contains b.file.marks mark → Stands mark.mark)
    → IsWithout (body_faults b.file b.place.at)
    → (t : List (Occurrence Event)) (o : Occurrence Event) (u : VariableAt) (l : Local)
    → Reaches (code_of b) t o
    → Binds o.event u
    → found b.file (Some u.number) ≡ Some l
    → is_in_literal b.file l ≡ true
    → is_declaration u ≡ true
is_declared_there b stand none t o u l reached binds is inside =
    let faults = faults_of b.file b.place.at b.file.marks in
    let of_uses : IsWithout faults = λ x h. none x (Contains-append_left faults (too_many_faults (variables_of b.file b.place.at)) x h) in
    let w = by_source b o.event u stand of_uses (events_have_sources b t o reached) binds in
    let once = w.2 in
    let same : l ≡ w.0 = same_Some l w.0 (sym is ∙ ap (λ n. found b.file (Some n)) (sym once.0) ∙ w.1) in
    eq-eqb u.at u.number (once.1 (ap (is_in_literal b.file) (sym same) ∙ inside))
