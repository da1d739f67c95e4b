-- Which events tell of objects, by the marks that give them: what becomes of an object is told of variables that are kept
-- in it, and what is put into a field is an own variable of the body. A variable is kept in one object.
use Rattle.std.proofs.Common.{◌≡◌, ℕ, Bool, true, false, inl, inr, List, [], ◌∷◌, ◌++◌, map, Option, Some, None, Contains, refl, sym, ap, ◌∙◌, subst}
use Rattle.std.specs.Prelude.{◌==◌, ◌&&◌, not, if◌then◌else◌, nat_lt, flat_map, is_some}
use Rattle.std.specs.List.{list_all, list_any, filter}
use Rattle.std.specs.Str.{bytes_eq}
use Rattle.std.proofs.lemmas.Bool.{and_parts, eq-eqb}
use Rattle.std.proofs.lemmas.Option.{none-some, same_Some}
use Rattle.std.proofs.lemmas.List.Elements.{Contains-append_cases}
use Rattle.meaning.specs.FunctionFacts.{VariableKind, cancel, group}
use Rattle.meaning.specs.Mentions.{Row, Call, Role, elsewhere, as_key, exposed, pointed_to, found_nil, found_error, called, called_in_brackets, argument, returned, left, names_type, new_literal, parameter_pointer, Mention, BodyPlace, FieldLeft, Assigned, FieldMark, calls_field, writes_field, hands_over, hands_literal, renews, imports_all, Mark, mentions, of_fields, runs_literal, returns, opens, closes, Taker}
use Rattle.meaning.specs.Tracked.{has_field, ObjectLeft, left_of_outer, left_of_new, variable_of, declared_by, row_obtains, LocalRole, parameter, receiver, variadic, result, in_block, Local, Placed}
use Rattle.meaning.specs.Objects.{unaddressed, ObjectKind, new_object, outer_object, local_named}
use Rattle.meaning.specs.Uses.{Seen, found, tracked_kind, is_cancel, is_own, row_binds, is_statement_place, is_deferred_place, Handed, Event, renew, keep, call_kept, defer_kept, give, give_field}
use Rattle.tree.specs.Syntax.{Expression, missing_expression}
use Rattle.meaning.specs.Kept.{Element, Gift, named_gift, element_gift, gifts, takes_it, Keep, is_block_role, owned, own_cancel, is_field_meant, field_value, holder, kept_in, kept_element, role_fields, stored_name, stored_keeps, keeps_by_mark, object_kind_of, keeps_there, keeps_in, is_same_place, agrees, writes_otherwise, belongs, put_keep, by_variable, kept_of, is_of_body, kept_there, has_arguments_of, field_call, field_calls, renew_all, keep_event, keep_events, declared_at_name, declared_events, role_events, object_events, give_all, given_field, carried, gift_events, in_order_of_place, mentioned_in, first_mentions, literal_gifts, obtained_event, obtained_into, written_events, field_events, handed_field, handed_gift, handed_in_fields}
use Rattle.meaning.proofs.Membership.{contains_here, contains_there, contains_cases, contains_nil, contains_unmap}
use Rattle.meaning_reports.proofs.ImportsOf.{gives, given_by, only_one}
use Rattle.meaning_runs.proofs.OwnVariables.{found_is}
use Rattle.meaning_runs.proofs.Places.{eqb_is}
use Rattle.meaning.specs.KeepingFields.{gift_elements, given_elements}

-- Lists

pub all_hold : {A : Type 0} (test : A → Bool) (xs : List A) (x : A) → list_all test xs ≡ true → Contains xs x → test x ≡ true
all_hold test [] x e h = absurd (contains_nil x h)
all_hold test (y ∷ ys) x e h =
    let both = and_parts (test y) (list_all test ys) e in
    elim (contains_cases y x ys h) [ inl same ↦ ap test (sym same) ∙ both.0 | inr more ↦ all_hold test ys x both.1 more ]

-- members of a filtered list
pub unfiltered : {X : Type 0} (p : X → Bool) (xs : List X) (x : X) → Contains (filter p xs) x → Contains xs x × (p x ≡ true)
unfiltered p [] x h = absurd (contains_nil x h)
unfiltered {X} p (y ∷ ys) x h = by (p y) refl h (unfiltered p ys x)
  where
    by : (b : Bool) → p y ≡ b
        → Contains (if b then y ∷ filter p ys else filter p ys) x
        → (Contains (filter p ys) x → Contains ys x × (p x ≡ true))
        → Contains (y ∷ ys) x × (p x ≡ true)
    by true q k f = elim (contains_cases y x (filter p ys) k) [
      | inl same ↦ (subst (λ (z : X). Contains (y ∷ ys) z) same (contains_here y ys), ap p (sym same) ∙ q)
      | inr rest ↦ let r = f rest in (contains_there y x ys r.0, r.1)
    ]
    by false q k f = let r = f k in (contains_there y x ys r.0, r.1)

pub in_if : {X : Type 0} (b : Bool) (xs : List X) (x : X) → Contains (if b then xs else []) x → Contains xs x
in_if true xs x h = h
in_if false xs x h = absurd (contains_nil x h)

-- One object for each variable

-- the variable is kept in that object, and what is kept so belongs together
pub record IsItsObject (seen : Seen) (v x : ℕ) : Type 0 where
  pub keep : Keep
  pub is_among : Contains (keeps_in seen) keep
  pub belongs_there : belongs seen keep ≡ true
  pub is_variable : keep.variable ≡ v
  pub is_object : keep.object ≡ x

-- somewhere in the file it is put into a field of that object
pub record IsPutInto (seen : Seen) (v x : ℕ) : Type 0 where
  pub keep : Keep
  pub is_among : Contains (keeps_in seen) keep
  pub is_variable : keep.variable ≡ v
  pub is_object : keep.object ≡ x

same_place : (k q : Keep) → k.variable ≡ q.variable → agrees k q ≡ true → k.object ≡ q.object
same_place k q same e =
    let here : is_same_place k q ≡ true =
    sym (ap (λ b. if b then is_same_place k q else not (is_same_place k q)) (eq-eqb k.variable q.variable same)) ∙ e in
    eqb_is k.object q.object (and_parts (k.object == q.object) (bytes_eq k.field q.field) here).0

pub one_object : (seen : Seen) (v x y : ℕ) → IsItsObject seen v x → IsPutInto seen v y → x ≡ y
one_object seen v x y h g =
    let all = and_parts (list_all (agrees h.keep) (keeps_in seen))
    (not (list_any (λ p. writes_otherwise seen h.keep p.bodies p.mark) seen.marks)) h.belongs_there in
    sym h.is_object
    ∙ same_place h.keep g.keep (h.is_variable ∙ sym g.is_variable)
    (all_hold (agrees h.keep) (keeps_in seen) g.keep all.0 g.is_among)
    ∙ g.is_object

-- what is listed once for each variable is there
put_from : (k : Keep) (ks : List Keep) (x : Keep) → Contains (put_keep k ks) x → Contains (k ∷ ks) x
put_from k [] x h = h
put_from k (q ∷ qs) x h = by (k.variable == q.variable) (nat_lt k.variable q.variable) h (put_from k qs x)
  where
    by : (b c : Bool)
        → Contains (if b then q ∷ qs else if c then k ∷ q ∷ qs else q ∷ put_keep k qs) x
        → (Contains (put_keep k qs) x → Contains (k ∷ qs) x)
        → Contains (k ∷ q ∷ qs) x
    by true c g f = contains_there k x (q ∷ qs) g
    by false true g f = g
    by false false g f = elim (contains_cases q x (put_keep k qs) g) [
      | inl same ↦
          contains_there k x (q ∷ qs) (subst (λ (z : Keep). Contains (q ∷ qs) z) same (contains_here q qs))
      | inr more ↦ elim (contains_cases k x qs (f more)) [
        | inl same ↦ subst (λ (z : Keep). Contains (k ∷ q ∷ qs) z) same (contains_here k (q ∷ qs))
        | inr rest ↦ contains_there k x (q ∷ qs) (contains_there q x qs rest)
      ]
    ]

variables_from : (ks : List Keep) (x : Keep) → Contains (by_variable ks) x → Contains ks x
variables_from [] x h = h
variables_from (k ∷ ks) x h = elim (contains_cases k x (by_variable ks) (put_from k (by_variable ks) x h)) [
  | inl same ↦ subst (λ (z : Keep). Contains (k ∷ ks) z) same (contains_here k ks)
  | inr more ↦ contains_there k x ks (variables_from ks x more)
]

pub row_of_file : (seen : Seen) (k : Keep) → Contains (kept_of seen) k → IsItsObject seen k.variable k.object
row_of_file seen k h =
    let r = unfiltered (belongs seen) (keeps_in seen) k (variables_from (filter (belongs seen) (keeps_in seen)) k h) in
    record { keep = k; is_among = r.0; belongs_there = r.1; is_variable = refl; is_object = refl }

pub row_among : (seen : Seen) (k : Keep) → Contains (kept_of seen) k → Contains (keeps_in seen) k
row_among seen k h =
    (unfiltered (belongs seen) (keeps_in seen) k (variables_from (filter (belongs seen) (keeps_in seen)) k h)).0

pub row_belongs : (seen : Seen) (k : Keep) → Contains (kept_of seen) k → belongs seen k ≡ true
row_belongs seen k h =
    (unfiltered (belongs seen) (keeps_in seen) k (variables_from (filter (belongs seen) (keeps_in seen)) k h)).1

pub keep_of_file : (seen : Seen) (bodies : List BodyPlace) (mark : Mark) (k : Keep)
    → Contains seen.marks record { mark = mark; bodies = bodies }
    → Contains (keeps_there seen bodies mark) k
    → IsPutInto seen k.variable k.object
keep_of_file seen bodies mark k among h = record {
  keep = k;
  is_among = gives (λ (p : Placed). keeps_there seen p.bodies p.mark) seen.marks record { mark = mark; bodies = bodies } k among h;
  is_variable = refl;
  is_object = refl;
}

-- Own variables

-- a cancel variable that the innermost of these bodies declares in its block
pub record IsOwnLocal (seen : Seen) (bodies : List BodyPlace) (v : ℕ) : Type 0 where
  pub local : Local
  pub is_found : found seen (Some v) ≡ Some local
  pub is_it : local.number ≡ v
  pub is_cancel_variable : tracked_kind seen (Some local) ≡ Some cancel
  pub is_own_there : is_own local bodies ≡ true
  pub is_in_block : local.role ≡ in_block

pub is_cancel_kind : (kind : Option VariableKind) → is_cancel kind ≡ true → kind ≡ Some cancel
is_cancel_kind None e = let bad : false ≡ true = e in cc
is_cancel_kind (Some cancel) e = refl
is_cancel_kind (Some group) e = let bad : false ≡ true = e in cc

block_role : (r : LocalRole) → is_block_role r ≡ true → r ≡ in_block
block_role (parameter k) e = let bad : false ≡ true = e in cc
block_role receiver e = let bad : false ≡ true = e in cc
block_role variadic e = let bad : false ≡ true = e in cc
block_role result e = let bad : false ≡ true = e in cc
block_role in_block e = refl

pub owned_is : (seen : Seen) (bodies : List BodyPlace) (o : Option ℕ) (v : ℕ)
    → owned seen bodies (found seen o) ≡ Some v
    → IsOwnLocal seen bodies v
owned_is seen bodies o v e = of_local (found seen o) refl e
  where
    of_local : (f : Option Local) → found seen o ≡ f → owned seen bodies f ≡ Some v → IsOwnLocal seen bodies v
    of_local None q g = absurd (none-some v g)
    of_local (Some l) q g =
        by (is_cancel (tracked_kind seen (Some l)) && (is_own l bodies && is_block_role l.role)) refl g
      where
        by : (b : Bool) → (is_cancel (tracked_kind seen (Some l)) && (is_own l bodies && is_block_role l.role)) ≡ b
            → (if b then Some l.number else None) ≡ Some v
            → IsOwnLocal seen bodies v
        by false t i = absurd (none-some v i)
        by true t i =
            let same : l.number ≡ v = same_Some l.number v i in
            let one = and_parts (is_cancel (tracked_kind seen (Some l))) (is_own l bodies && is_block_role l.role) t in
            let two = and_parts (is_own l bodies) (is_block_role l.role) one.1 in
            record {
              local = l;
              is_found = ap (λ n. found seen (Some n)) (sym same) ∙ (found_is seen o l q).0;
              is_it = same;
              is_cancel_variable = is_cancel_kind (tracked_kind seen (Some l)) one.0;
              is_own_there = two.0;
              is_in_block = block_role l.role two.1;
            }

kept_variable : (v x : Option ℕ) (f : List ℕ) (k : Keep) → Contains (kept_in v x f) k → v ≡ Some k.variable
kept_variable None x f k h = absurd (contains_nil k h)
kept_variable (Some v) None f k h = absurd (contains_nil k h)
kept_variable (Some v) (Some x) f k h =
    ap (λ (q : Keep). Some q.variable) (only_one record { variable = v; object = x; field = f } k h)

-- what an element puts into a field is an own variable
field_is_own : (seen : Seen) (bodies : List BodyPlace) (x : Element) (v : ℕ) → field_value seen bodies x ≡ Some v
    → own_cancel seen bodies (Some x.value) ≡ Some v
field_is_own seen bodies x v e = by (is_field_meant seen x.field (seen.known.means x.at)) e
  where
    by : (b : Bool) → (if b then own_cancel seen bodies (Some x.value) else None) ≡ Some v
        → own_cancel seen bodies (Some x.value) ≡ Some v
    by true q = q
    by false q = absurd (none-some v q)

module _ (seen : Seen) (bodies : List BodyPlace) where
  -- each keep is of an own variable
  abbrev IsOfOwn : Keep → Type 0
  IsOfOwn k = (o : Option ℕ) × (owned seen bodies (found seen o) ≡ Some k.variable)

  of_element : (x : Option ℕ) (e : Element) (k : Keep) → Contains (kept_element seen bodies x e) k → IsOfOwn k
  of_element x e k h = (
    local_named seen.known (Some e.value),
    field_is_own seen bodies e k.variable (kept_variable (field_value seen bodies e) x e.field k
        (in_if (has_field seen.known.fields e.field) (kept_in (field_value seen bodies e) x e.field) k h)),
  )

  of_stored : (l : FieldLeft) (row : Row) (o : Option ObjectLeft) (k : Keep)
      → Contains (stored_keeps seen bodies l row o) k
      → IsOfOwn k
  of_stored l row (Some (left_of_new x number)) k h =
      (Some number, kept_variable (owned seen bodies (found seen (Some number))) (Some x) l.field.text k h)
  of_stored l row (Some left_of_outer) k h = absurd (contains_nil k h)
  of_stored l row None k h =
      let name = stored_name row.form row.values in
      let object = unaddressed seen.known seen.marks (local_named seen.known l.object) in
      let kept = kept_in (own_cancel seen bodies name) object l.field.text in (
        local_named seen.known name,
        kept_variable (own_cancel seen bodies name) object l.field.text k
            (in_if (not l.has_brackets && has_field seen.known.fields l.field.text) kept k h),
      )

  of_a_mark : (mark : Mark) (k : Keep) → Contains (keeps_by_mark seen bodies mark) k → IsOfOwn k
  of_a_mark (mentions m) k h =
      let x = holder seen (declared_by seen.known m) in
      let w = given_by (kept_element seen bodies x) (role_fields m.role) k h in
      of_element x w.0 k w.2
  of_a_mark (of_fields site (writes_field l (Some a))) k h =
      of_stored l a.row (seen.known.object_lefts l.field.span.start) k h
  of_a_mark (of_fields site (writes_field l None)) k h = absurd (contains_nil k h)
  of_a_mark (of_fields site (calls_field f)) k h = absurd (contains_nil k h)
  of_a_mark (of_fields site (hands_over taker e)) k h = absurd (contains_nil k h)
  of_a_mark (of_fields site (hands_literal taker at)) k h = absurd (contains_nil k h)
  of_a_mark (of_fields site (renews number)) k h = absurd (contains_nil k h)
  of_a_mark (of_fields site imports_all) k h = absurd (contains_nil k h)
  of_a_mark (runs_literal moment site at) k h = absurd (contains_nil k h)
  of_a_mark (returns at es) k h = absurd (contains_nil k h)
  of_a_mark (opens b) k h = absurd (contains_nil k h)
  of_a_mark closes k h = absurd (contains_nil k h)

  pub keep_is_own : (mark : Mark) (k : Keep) → Contains (keeps_there seen bodies mark) k → IsOwnLocal seen bodies k.variable
  keep_is_own mark k h =
      let w = of_a_mark mark k
      (unfiltered (λ (q : Keep). is_some (object_kind_of seen bodies q.object)) (keeps_by_mark seen bodies mark) k h).0 in
      owned_is seen bodies w.0 k.variable w.1

-- Events of objects

-- a row of the file, of an object of the innermost of these bodies
abbrev pub IsRowHere : Seen → List BodyPlace → Keep → Type 0
IsRowHere seen bodies k = Contains (kept_of seen) k × (is_of_body bodies (found seen (Some k.object)) ≡ true)

-- the event tells of an object in which a variable is kept, or of what goes into a field
pub data IsOfObject (seen : Seen) (bodies : List BodyPlace) (mark : Mark) : Event → Type 0 where
  by_renew : (k : Keep) → IsRowHere seen bodies k → IsOfObject seen bodies mark (renew k.variable k.object)
  by_call : (k : Keep) → IsRowHere seen bodies k → IsOfObject seen bodies mark (call_kept k.variable k.object)
  by_deferred : (k : Keep) → IsRowHere seen bodies k → IsOfObject seen bodies mark (defer_kept k.variable k.object)
  by_give : (k : Keep) → IsRowHere seen bodies k → IsOfObject seen bodies mark (give k.variable k.object)
  by_keep : (k : Keep)
      → Contains (keeps_there seen bodies mark) k
      → belongs seen k ≡ true
      → IsOfObject seen bodies mark (keep k.variable k.object)
  by_outer : (k : Keep)
      → Contains (keeps_there seen bodies mark) k
      → belongs seen k ≡ true
      → IsOfObject seen bodies mark (give_field k.variable)
  by_obtaining : (k : Keep) (site : ℕ) (l : FieldLeft) (a : Assigned)
      → mark ≡ of_fields site (writes_field l (Some a))
      → Contains (keeps_there seen bodies mark) k
      → is_some (seen.known.object_lefts l.field.span.start) ≡ true
      → IsOfObject seen bodies mark (obtained_event seen l a k)
  by_gift : (x : Element) (v : ℕ)
      → Contains (given_elements seen mark) x
      → carried seen bodies x ≡ Some v
      → IsOfObject seen bodies mark (give_field v)

-- what an element carries is an own variable
pub carried_is : (seen : Seen) (bodies : List BodyPlace) (x : Element) (v : ℕ) → carried seen bodies x ≡ Some v
    → own_cancel seen bodies (Some x.value) ≡ Some v
carried_is seen bodies x v e = by (has_field seen.known.fields x.field) e
  where
    by : (b : Bool) → (if b then field_value seen bodies x else None) ≡ Some v
        → own_cancel seen bodies (Some x.value) ≡ Some v
    by true q = field_is_own seen bodies x v q
    by false q = absurd (none-some v q)

-- elements among gifts
gift_among : (gs : List Gift) (x : Element) → Contains gs (element_gift x) → Contains (gift_elements gs) x
gift_among [] x h = absurd (contains_nil (element_gift x) h)
gift_among (named_gift n ∷ gs) x h = elim (contains_cases (named_gift n) (element_gift x) gs h) [
  | inl bad ↦ cc
  | inr more ↦ gift_among gs x more
]
gift_among (element_gift y ∷ gs) x h = elim (contains_cases (element_gift y) (element_gift x) gs h) [
  | inl same ↦ subst (λ (z : Element). Contains (y ∷ gift_elements gs) z) (same_element y x same)
      (contains_here y (gift_elements gs))
  | inr more ↦ contains_there y x (gift_elements gs) (gift_among gs x more)
]
  where
    same_element : (a b : Element) → element_gift a ≡ element_gift b → a ≡ b
    same_element a b q = cc

module _ (seen : Seen) (bodies : List BodyPlace) (mark : Mark) where
  abbrev AreSo : List Event → Type 0
  AreSo es = (e : Event) → Contains es e → IsOfObject seen bodies mark e

  none_so : AreSo []
  none_so e h = absurd (contains_nil e h)

  one_so : (x : Event) → IsOfObject seen bodies mark x → AreSo (x ∷ [])
  one_so x p e h = subst (IsOfObject seen bodies mark) (only_one x e h) p

  row_there : (x : Option ℕ) (k : Keep) → Contains (kept_there seen bodies x) k → IsRowHere seen bodies k
  row_there None k h = absurd (contains_nil k h)
  row_there (Some x) k h =
      let r = unfiltered (λ (q : Keep). (q.object == x) && is_of_body bodies (found seen (Some x))) (kept_of seen) k h in
      let parts = and_parts (k.object == x) (is_of_body bodies (found seen (Some x))) r.1 in
      (r.0, ap (λ n. is_of_body bodies (found seen (Some n))) (eqb_is k.object x parts.0) ∙ parts.1)

  renewed_so : (x : Option ℕ) → AreSo (renew_all (kept_there seen bodies x))
  renewed_so x e h =
      let w = contains_unmap (λ (k : Keep). renew k.variable k.object) (kept_there seen bodies x) e h in
      subst (IsOfObject seen bodies mark) w.2 (by_renew w.0 (row_there x w.0 w.1))

  given_so : (x : Option ℕ) → AreSo (give_all (kept_there seen bodies x))
  given_so x e h =
      let w = contains_unmap (λ (k : Keep). give k.variable k.object) (kept_there seen bodies x) e h in
      subst (IsOfObject seen bodies mark) w.2 (by_give w.0 (row_there x w.0 w.1))

  keep_so : (o : Option ObjectKind) (k : Keep) → Contains (keeps_there seen bodies mark) k → belongs seen k ≡ true
      → AreSo (keep_event o k)
  keep_so None k c fits = none_so
  keep_so (Some new_object) k c fits = one_so (keep k.variable k.object) (by_keep k c fits)
  keep_so (Some outer_object) k c fits = one_so (give_field k.variable) (by_outer k c fits)

  kept_so : AreSo (keep_events seen bodies mark)
  kept_so e h =
      let w = given_by (λ (k : Keep). keep_event (object_kind_of seen bodies k.object) k)
      (filter (belongs seen) (keeps_there seen bodies mark)) e h in
      let its = unfiltered (belongs seen) (keeps_there seen bodies mark) w.0 w.1 in
      keep_so (object_kind_of seen bodies w.0.object) w.0 its.0 its.1 e w.2

  called_so : (a s d : Bool) (k : Keep) → IsRowHere seen bodies k
      → AreSo (if a then [] else if s then call_kept k.variable k.object ∷ []
      else if d then defer_kept k.variable k.object ∷ [] else [])
  called_so true s d k c = none_so
  called_so false true d k c = one_so (call_kept k.variable k.object) (by_call k c)
  called_so false false true k c = one_so (defer_kept k.variable k.object) (by_deferred k c)
  called_so false false false k c = none_so

  fields_so : (m : Mention) (f : Option (List ℕ)) (c : Call) → AreSo (field_calls seen bodies m f c)
  fields_so m None c e h = none_so e h
  fields_so m (Some f) c e h =
      let w = given_by (field_call seen f c) (kept_there seen bodies (variable_of seen.known m)) e h in
      called_so (not (bytes_eq w.0.field f && has_arguments_of seen (found seen (Some w.0.variable)) c))
      (is_statement_place c.place) (is_deferred_place c.place) w.0 (row_there (variable_of seen.known m) w.0 w.1) e w.2

  both_so : (es fs : List Event) → AreSo es → AreSo fs → AreSo (es ++ fs)
  both_so es fs h k e c = elim (Contains-append_cases es fs e c) [ inl x ↦ h e x | inr x ↦ k e x ]

  -- what is given
  carried_so : (x : Element) (o : Option ℕ) → Contains (given_elements seen mark) x → carried seen bodies x ≡ o
      → AreSo (given_field o)
  carried_so x None c q = none_so
  carried_so x (Some v) c q = one_so (give_field v) (by_gift x v c q)

  gift_so : (g : Gift) → ((x : Element) → g ≡ element_gift x → Contains (given_elements seen mark) x)
      → AreSo (gift_events seen bodies g)
  gift_so (named_gift n) given = given_so (local_named seen.known (Some n))
  gift_so (element_gift x) given = carried_so x (carried seen bodies x) (given x refl) refl

  literal_so : (at : ℕ) → AreSo (literal_gifts seen bodies at)
  literal_so at e h =
      let w = given_by (λ x. give_all (kept_there seen bodies (Some x)))
      (first_mentions (in_order_of_place (mentioned_in seen at))) e h in
      given_so (Some w.0) e w.2

  gifts_so : (e : Expression)
      → ((x : Element) → Contains (gift_elements (gifts missing_expression e)) x → Contains (given_elements seen mark) x)
      → AreSo (flat_map (gift_events seen bodies) (gifts missing_expression e))
  gifts_so x given e h =
      let w = given_by (gift_events seen bodies) (gifts missing_expression x) e h in
      gift_so w.0 (λ y same. given y (gift_among (gifts missing_expression x) y
      (subst (λ (g : Gift). Contains (gifts missing_expression x) g) same w.1))) e w.2

  if_so : (b : Bool) (es : List Event) → AreSo es → AreSo (if b then es else [])
  if_so b es h e c = h e (in_if b es e c)

module _ (seen : Seen) (bodies : List BodyPlace) (site : ℕ) where
  abbrev At : FieldMark → List Event → Type 0
  At m = AreSo seen bodies (of_fields site m)

  obtained_so : (l : FieldLeft) (a : Assigned) → is_some (seen.known.object_lefts l.field.span.start) ≡ true
      → At (writes_field l (Some a)) (obtained_into seen bodies (of_fields site (writes_field l (Some a))) l a)
  obtained_so l a told =
      let mark : Mark = of_fields site (writes_field l (Some a)) in
      if_so seen bodies mark (row_obtains seen.known a.row a.left_side && row_binds seen a.row)
      (map (obtained_event seen l a) (keeps_there seen bodies mark))
      (λ e h. let w = contains_unmap (obtained_event seen l a) (keeps_there seen bodies mark) e h in
      subst (IsOfObject seen bodies mark) w.2 (by_obtaining w.0 site l a refl w.1 told))

  written_so : (l : FieldLeft) (a : Assigned) (o : Option ObjectLeft) → seen.known.object_lefts l.field.span.start ≡ o
      → At (writes_field l (Some a)) (written_events seen bodies (of_fields site (writes_field l (Some a))) l a o)
  written_so l a None q = kept_so seen bodies (of_fields site (writes_field l (Some a)))
  written_so l a (Some o) q = obtained_so l a (ap is_some q)

  -- what is given to a taker that takes it
  given_over : (taker : Taker) (x : Expression) (b : Bool) → takes_it seen.known taker ≡ b
      → At (hands_over taker x) (if b then flat_map (gift_events seen bodies) (gifts missing_expression x) else [])
  given_over taker x false q = none_so seen bodies (of_fields site (hands_over taker x))
  given_over taker x true q =
      gifts_so seen bodies (of_fields site (hands_over taker x)) x
      (λ y c. subst (λ b. Contains (if b then gift_elements (gifts missing_expression x) else []) y) (sym q) c)

  pub field_events_are : (m : FieldMark) → At m (field_events seen bodies (of_fields site m) m)
  field_events_are (calls_field f) = none_so seen bodies (of_fields site (calls_field f))
  field_events_are (writes_field l None) = none_so seen bodies (of_fields site (writes_field l None))
  field_events_are (writes_field l (Some a)) = written_so l a (seen.known.object_lefts l.field.span.start) refl
  field_events_are (hands_over taker e) = given_over taker e (takes_it seen.known taker) refl
  field_events_are (hands_literal taker at) =
      let mark : Mark = of_fields site (hands_literal taker at) in
      if_so seen bodies mark (takes_it seen.known taker) (literal_gifts seen bodies at) (literal_so seen bodies mark at)
  field_events_are (renews number) = renewed_so seen bodies (of_fields site (renews number)) (Some number)
  field_events_are imports_all = none_so seen bodies (of_fields site imports_all)

module _ (seen : Seen) (bodies : List BodyPlace) (m : Mention) where
  declared_so : AreSo seen bodies (mentions m) (declared_events seen bodies m)
  declared_so =
      let number = declared_at_name m.named.at (declared_by seen.known m) in
      both_so seen bodies (mentions m) (renew_all (kept_there seen bodies number)) (keep_events seen bodies (mentions m))
      (renewed_so seen bodies (mentions m) number) (kept_so seen bodies (mentions m))

  role_so : (r : Role) → AreSo seen bodies (mentions m) (role_events seen bodies m r)
  role_so (called c) = fields_so seen bodies (mentions m) m m.named.selected c
  role_so (left k row) = declared_so
  role_so exposed = declared_so
  role_so elsewhere = none_so seen bodies (mentions m)
  role_so as_key = none_so seen bodies (mentions m)
  role_so pointed_to = none_so seen bodies (mentions m)
  role_so (found_nil nil) = none_so seen bodies (mentions m)
  role_so (found_error nil row) = none_so seen bodies (mentions m)
  role_so called_in_brackets = none_so seen bodies (mentions m)
  role_so (argument k has_address c) = none_so seen bodies (mentions m)
  role_so (returned k) = none_so seen bodies (mentions m)
  role_so (names_type row) = none_so seen bodies (mentions m)
  role_so (new_literal row) = none_so seen bodies (mentions m)
  role_so parameter_pointer = none_so seen bodies (mentions m)

  pub object_events_are : AreSo seen bodies (mentions m) (object_events seen bodies m)
  object_events_are = role_so m.role

-- Returns

-- what a return hands on of an object is kept in it
module _ (seen : Seen) (bodies : List BodyPlace) where
  abbrev pub IsHandedWell : Handed → Type 0
  IsHandedWell h = (x : ℕ) → h.object ≡ Some x → IsItsObject seen h.number x

  handed_by_field : (k : ℕ) (o : Option ℕ) (h : Handed) → Contains (handed_field k o) h → h.object ≡ None
  handed_by_field k None h c = absurd (contains_nil h c)
  handed_by_field k (Some v) h c =
      ap (λ (q : Handed). q.object) (sym (only_one record { number = v; position = k; object = None } h c))

  of_gift : (k : ℕ) (g : Gift) (h : Handed) → Contains (handed_gift seen bodies k g) h → IsHandedWell h
  of_gift k (named_gift n) h c x e =
      let item : Keep → Handed = λ q. record { number = q.variable; position = k; object = Some q.object } in
      let w = contains_unmap item (kept_there seen bodies (local_named seen.known (Some n))) h c in
      let row = row_of_file seen w.0
      (row_there seen bodies closes (local_named seen.known (Some n)) w.0 w.1).0 in
      let object : w.0.object ≡ x = same_Some w.0.object x (ap (λ (q : Handed). q.object) w.2 ∙ e) in
      record {
        keep = row.keep;
        is_among = row.is_among;
        belongs_there = row.belongs_there;
        is_variable = row.is_variable ∙ ap (λ (q : Handed). q.number) w.2;
        is_object = row.is_object ∙ object;
      }
  of_gift k (element_gift e) h c x q = absurd (none-some x (sym (handed_by_field k (carried seen bodies e) h c) ∙ q))

  pub handed_in_fields_well : (k : ℕ) (e : Expression) (h : Handed) → Contains (handed_in_fields seen bodies k e) h
      → IsHandedWell h
  handed_in_fields_well k e h c =
      let w = given_by (handed_gift seen bodies k) (gifts missing_expression e) h c in
      of_gift k w.0 h w.2
