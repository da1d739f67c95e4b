-- Cancel functions that are kept in fields of objects. A body that declares a cancel variable c may keep what c holds
-- in a field f of an object x: `x := T{f: c}`, `x := &T{f: c}`, the same by `var`, and `x.f = c`. These three belong
-- together if no other variable is kept there, c nowhere else, and `x.f` gets no other value. Then c follows what
-- becomes of x: its field is called, or it is given to others, who have to see to the call. What doesn't belong
-- together is a read. A literal `T{f: c}` that stands itself where something is given takes c with it.
-- Given is what stands at certain places, bare, behind `&`, or as an element of composite literals: an argument of a
-- call that stands as a whole, or under `go` or `defer`; x of `go x.m(..)` and `defer x.m(..)`; what is sent, or is
-- assigned to what is no name; an item of a return. So is what a literal mentions that is an argument of a call that
-- stands as a whole, or is called under `go`. What others do with it isn't looked at.
-- (The Go specification, "Composite literals", "Go statements", "Send statements"; this tool's rules.)
use Rattle.std.specs.Prelude.{ℕ, ◌==◌, Bool, true, false, not, ◌&&◌, ◌||◌, if◌then◌else◌, List, [], ◌∷◌, ◌++◌, Option, Some, None, is_some, map, flat_map, codes, nat_lt, nat_le}
use Rattle.std.specs.List.{list_any, list_all, filter}
use Rattle.std.specs.Str.{bytes_eq}
use Rattle.tree.specs.declared.operator.DeclKeyword.TheVariants.{Var}
use Rattle.tree.specs.declared.operator.UnaryOperator.TheVariants.{Address}
use Rattle.tree.specs.declared.span.Span.{Span}
use Rattle.tree.specs.Syntax.{Expression, expression_node, ExpressionForm, name_expression, composite_literal, literal_value, key_value, unary_expression, array_type, ellipsis_array_type, slice_type, map_type, Expressions, no_expression, expression_and, OptionalExpression, missing_expression, present_expression}
use Rattle.meaning.specs.Declarations.{Meaning, local_name, import_name, function_name, package_name, universe_name}
use Rattle.meaning.specs.Mentions.{Named, bare, as_bare, RowForm, defines, assigns, declares, Row, Call, Role, as_key, exposed, called, left, Mention, BodyPlace, FieldLeft, Assigned, Taker, no_taker, called_function, appending, method, some_taker, FieldMark, calls_field, writes_field, hands_over, hands_literal, renews, imports_all, Mark, mentions, of_fields, returns}
use Rattle.meaning.specs.Tracked.{Known, has_field, may_be_field, is_universe, ObjectLeft, left_of_outer, left_of_new, variable_of, declared_by, is_variable, row_obtains, LocalRole, parameter, receiver, variadic, result, in_block, Local, only_call}
use Rattle.meaning.specs.Objects.{points_to, is_value_in, unaddressed, ObjectKind, new_object, outer_object, object_in, local_named}
use Rattle.meaning.specs.Uses.{Seen, found, tracked_kind, is_cancel, cancel_type_of, is_own, row_binds, called_in, is_statement_place, is_deferred_place, has_its_arguments, Handed, Event, obtain_kept, renew, keep, call_kept, defer_kept, give, give_field}

-- Elements of composite literals

-- `f: c`
pub record Element : Type 0 where
  pub field : List ℕ
  -- the offset of f
  pub at : ℕ
  pub value : Named

abbrev pub element_of : Option Named → Option Named → List Element
element_of (Some f) (Some c) = record { field = f.name; at = f.at; value = c } ∷ []
element_of f c = []

abbrev pub element : Expression → List Element
element (expression_node (key_value k v) span) = element_of (as_bare k) (as_bare v)
element e = []

abbrev pub elements : Expressions → List Element
elements no_expression = []
elements (expression_and e es) = element e ++ elements es

-- a literal of the type may have fields: it is not written as an array, slice or map
abbrev pub may_have_fields : OptionalExpression → Bool
may_have_fields (present_expression (expression_node (array_type n t) span)) = false
may_have_fields (present_expression (expression_node (ellipsis_array_type t) span)) = false
may_have_fields (present_expression (expression_node (slice_type t) span)) = false
may_have_fields (present_expression (expression_node (map_type k t) span)) = false
may_have_fields t = true

-- the type that an element has which is written without one
abbrev pub element_type : OptionalExpression → OptionalExpression
element_type (present_expression (expression_node (array_type n t) span)) = present_expression t
element_type (present_expression (expression_node (ellipsis_array_type t) span)) = present_expression t
element_type (present_expression (expression_node (slice_type t) span)) = present_expression t
element_type (present_expression (expression_node (map_type k t) span)) = present_expression t
element_type t = missing_expression

abbrev pub fields_of : OptionalExpression → Expressions → List Element
fields_of t es = if may_have_fields t then elements es else []

-- of `T{..}` and `&T{..}`
abbrev pub fields_in : Expression → List Element
fields_in (expression_node (composite_literal t es) span) = fields_of (present_expression t) es
fields_in (expression_node (unary_expression Address (expression_node (composite_literal t es) inner)) span) =
    fields_of (present_expression t) es
fields_in e = []

-- What is given

pub data Gift : Type 0 where
  -- a name, bare or behind `&`
  named_gift : Named → Gift
  -- an element of a composite literal
  element_gift : Element → Gift

-- by what stands there; a literal without a type has this one
unfoldable mutual
  pub gifts : OptionalExpression → Expression → List Gift
  gifts t (expression_node form span) = form_gifts t span form

  pub form_gifts : OptionalExpression → Span → ExpressionForm → List Gift
  form_gifts t span (name_expression text) = named_gift (bare text span.start) ∷ []
  form_gifts t span (unary_expression Address e) = gifts missing_expression e
  form_gifts t span (composite_literal u es) = elements_gifts (present_expression u) es
  form_gifts t span (literal_value es) = elements_gifts t es
  form_gifts t span (key_value k v) = gifts t v
  form_gifts t span form = []

  -- of the elements of a literal of that type; keys are not given
  pub elements_gifts : OptionalExpression → Expressions → List Gift
  elements_gifts t no_expression = []
  elements_gifts t (expression_and e es) =
      map element_gift (fields_of t (expression_and e no_expression))
      ++ (gifts (element_type t) e ++ elements_gifts t es)

-- Go's own functions keep nothing, but for `append`
abbrev pub is_taken_by : Known → Named → Bool
is_taken_by known n = is_some n.selected || (not (is_universe (known.means n.at)) || bytes_eq n.name (codes "append"))

abbrev pub takes_it : Known → Taker → Bool
takes_it known no_taker = false
takes_it known (called_function None) = true
takes_it known (called_function (Some n)) = is_taken_by known n
takes_it known (appending n) = is_universe (known.means n.at)
-- a call of a field gives nothing
takes_it known (method m) = not (may_be_field known.fields m)
takes_it known some_taker = true

-- What is kept

-- what the variable holds is kept in the field of the object
pub record Keep : Type 0 where
  pub variable : ℕ
  pub object : ℕ
  pub field : List ℕ

abbrev pub is_block_role : LocalRole → Bool
is_block_role (parameter k) = false
is_block_role receiver = false
is_block_role variadic = false
is_block_role result = false
is_block_role in_block = true

-- a cancel variable that the innermost of these bodies declares, and no parameter
abbrev pub owned : Seen → List BodyPlace → Option Local → Option ℕ
owned seen bodies None = None
owned seen bodies (Some l) =
    if is_cancel (tracked_kind seen (Some l)) && (is_own l bodies && is_block_role l.role) then Some l.number else None

abbrev pub own_cancel : Seen → List BodyPlace → Option Named → Option ℕ
own_cancel seen bodies n = owned seen bodies (found seen (local_named seen.known n))

-- What is no name of a field, but the key of a map, slice or array, has a declaration, or is a value of the universe.

abbrev pub universe_values : List (List ℕ)
universe_values = codes "true" ∷ codes "false" ∷ codes "iota" ∷ codes "nil" ∷ []

-- by its first byte: a capital letter, or of more bytes than one
abbrev pub may_be_exported : List ℕ → Bool
may_be_exported [] = false
may_be_exported (b ∷ bs) = (nat_le 65 b && nat_le b 90) || nat_le 128 b

abbrev pub is_of_import : Mark → Bool
is_of_import (of_fields site imports_all) = true
is_of_import mark = false

abbrev pub may_be_imported : Seen → List ℕ → Bool
may_be_imported seen name = may_be_exported name && list_any (λ p. is_of_import p.mark) seen.marks

abbrev pub is_undeclared : Seen → List ℕ → Bool
is_undeclared seen name = not (list_any (bytes_eq name) universe_values || may_be_imported seen name)

-- functions are no keys
abbrev pub is_field_meant : Seen → List ℕ → Option Meaning → Bool
is_field_meant seen name None = false
is_field_meant seen name (Some (local_name number kind)) = is_cancel (tracked_kind seen (found seen (Some number)))
is_field_meant seen name (Some (import_name path)) = false
is_field_meant seen name (Some function_name) = true
is_field_meant seen name (Some package_name) = false
is_field_meant seen name (Some universe_name) = is_undeclared seen name

-- c of `f: c`, where f is a field for certain
abbrev pub field_value : Seen → List BodyPlace → Element → Option ℕ
field_value seen bodies e =
    if is_field_meant seen e.field (seen.known.means e.at) then own_cancel seen bodies (Some e.value) else None

abbrev pub kept_in : Option ℕ → Option ℕ → List ℕ → List Keep
kept_in (Some v) (Some x) f = record { variable = v; object = x; field = f } ∷ []
kept_in v x f = []

abbrev pub kept_element : Seen → List BodyPlace → Option ℕ → Element → List Keep
kept_element seen bodies x e =
    if has_field seen.known.fields e.field then kept_in (field_value seen bodies e) x e.field else []

abbrev pub only_value_of : Expressions → Option Expression
only_value_of (expression_and e no_expression) = Some e
only_value_of es = None

abbrev pub some_fields : Option Expression → List Element
some_fields None = []
some_fields (Some e) = fields_in e

-- `x := L` and `var x = L`
abbrev pub declared_fields : RowForm → Expressions → List Element
declared_fields (defines (n ∷ [])) es = some_fields (only_value_of es)
declared_fields (declares Var (n ∷ []) missing_expression) es = some_fields (only_value_of es)
declared_fields form es = []

abbrev pub role_fields : Role → List Element
role_fields (left k row) = declared_fields row.form row.values
role_fields role = []

abbrev pub some_bare : Option Expression → Option Named
some_bare None = None
some_bare (Some e) = as_bare e

-- c of `x.f = c`
abbrev pub stored_name : RowForm → Expressions → Option Named
stored_name (assigns (expression_and l no_expression)) es = some_bare (only_value_of es)
stored_name form es = None

abbrev pub stored_keeps : Seen → List BodyPlace → FieldLeft → Row → Option ObjectLeft → List Keep
-- a row obtains into the field, which is a variable of its own
stored_keeps seen bodies l row (Some (left_of_new x number)) =
    kept_in (owned seen bodies (found seen (Some number))) (Some x) l.field.text
stored_keeps seen bodies l row (Some left_of_outer) = []
stored_keeps seen bodies l row None =
    if not l.has_brackets && has_field seen.known.fields l.field.text
    then kept_in (own_cancel seen bodies (stored_name row.form row.values))
    (unaddressed seen.known seen.marks (local_named seen.known l.object)) l.field.text
    else []

-- the places of the names that are given
abbrev pub gift_places : List Gift → List ℕ
gift_places [] = []
gift_places (named_gift n ∷ gs) = n.at ∷ gift_places gs
gift_places (element_gift e ∷ gs) = gift_places gs

abbrev pub items_places : Expressions → List ℕ
items_places no_expression = []
items_places (expression_and e es) = gift_places (gifts missing_expression e) ++ items_places es

abbrev pub places_given : Known → Mark → List ℕ
places_given known (of_fields site (hands_over taker e)) =
    if takes_it known taker then gift_places (gifts missing_expression e) else []
places_given known (returns at es) = items_places es
places_given known mark = []

abbrev pub is_of_body : List BodyPlace → Option Local → Bool
is_of_body bodies None = false
is_of_body bodies (Some l) = is_own l bodies

-- the body that declares x gives at that place
abbrev pub is_given_at : Seen → ℕ → ℕ → Bool
is_given_at seen x at = list_any
    (λ p. is_of_body p.bodies (found seen (Some x)) && list_any (λ n. n == at) (places_given seen.known p.mark))
    seen.marks

abbrev pub is_place_given : Seen → ℕ → Mark → Bool
is_place_given seen x (mentions m) = is_given_at seen x m.named.at
is_place_given seen x mark = false

-- `&x`, other than where it is given
abbrev pub points_elsewhere : Seen → ℕ → Mark → Bool
points_elsewhere seen x mark = points_to seen.known x mark && not (is_place_given seen x mark)

-- The object that is declared with L. A pointer that may get another value by its address is none, unless others get
-- what it keeps along with the address.
abbrev pub holder : Seen → Option ℕ → Option ℕ
holder seen None = None
holder seen (Some x) =
    if is_value_in seen.known seen.marks x || not (list_any (λ p. points_elsewhere seen x p.mark) seen.marks)
    then Some x else None

abbrev pub keeps_by_mark : Seen → List BodyPlace → Mark → List Keep
keeps_by_mark seen bodies (mentions m) =
    flat_map (kept_element seen bodies (holder seen (declared_by seen.known m))) (role_fields m.role)
keeps_by_mark seen bodies (of_fields site (writes_field l (Some a))) =
    stored_keeps seen bodies l a.row (seen.known.object_lefts l.field.span.start)
keeps_by_mark seen bodies mark = []

abbrev pub object_kind_of : Seen → List BodyPlace → ℕ → Option ObjectKind
object_kind_of seen bodies x = object_in seen.known seen.marks bodies (Some x)

-- those in objects of the body
abbrev pub keeps_there : Seen → List BodyPlace → Mark → List Keep
keeps_there seen bodies mark =
    filter (λ k. is_some (object_kind_of seen bodies k.object)) (keeps_by_mark seen bodies mark)

abbrev pub keeps_in : Seen → List Keep
keeps_in seen = flat_map (λ p. keeps_there seen p.bodies p.mark) seen.marks

-- What belongs together

abbrev pub is_same_place : Keep → Keep → Bool
is_same_place k q = (k.object == q.object) && bytes_eq k.field q.field

-- if one is of the variable, or into the field, of the other, so is it of both
abbrev pub agrees : Keep → Keep → Bool
agrees k q = if k.variable == q.variable then is_same_place k q else not (is_same_place k q)

-- the field of that object gets another value, in literals too
abbrev pub writes_otherwise : Seen → Keep → List BodyPlace → Mark → Bool
writes_otherwise seen k bodies (of_fields site (writes_field l by)) =
    (is_variable (local_named seen.known l.object) k.object && bytes_eq l.field.text k.field)
    && not (list_any (is_same_place k) (keeps_there seen bodies (of_fields site (writes_field l by))))
writes_otherwise seen k bodies mark = false

abbrev pub belongs : Seen → Keep → Bool
belongs seen k =
    list_all (agrees k) (keeps_in seen) && not (list_any (λ p. writes_otherwise seen k p.bodies p.mark) seen.marks)

-- each variable once, by their numbers
abbrev pub put_keep : Keep → List Keep → List Keep
put_keep k [] = k ∷ []
put_keep k (q ∷ qs) =
    if k.variable == q.variable then q ∷ qs
    else if nat_lt k.variable q.variable then k ∷ q ∷ qs
    else q ∷ put_keep k qs

abbrev pub by_variable : List Keep → List Keep
by_variable [] = []
by_variable (k ∷ ks) = put_keep k (by_variable ks)

-- what is kept in a file
abbrev pub kept_of : Seen → List Keep
kept_of seen = by_variable (filter (belongs seen) (keeps_in seen))

-- what the innermost of these bodies keeps in the object
abbrev pub kept_there : Seen → List BodyPlace → Option ℕ → List Keep
kept_there seen bodies None = []
kept_there seen bodies (Some x) =
    filter (λ k. (k.object == x) && is_of_body bodies (found seen (Some x))) (kept_of seen)

-- Events

-- `x.f()` and `defer x.f()`, with one argument where the function takes a cause
abbrev pub has_arguments_of : Seen → Option Local → Call → Bool
has_arguments_of seen None c = false
has_arguments_of seen (Some l) c = has_its_arguments (cancel_type_of seen l) c

abbrev pub field_call : Seen → List ℕ → Call → Keep → List Event
field_call seen m c k =
    if not (bytes_eq k.field m && has_arguments_of seen (found seen (Some k.variable)) c) then []
    else if is_statement_place c.place then call_kept k.variable k.object ∷ []
    else if is_deferred_place c.place then defer_kept k.variable k.object ∷ []
    else []

abbrev pub field_calls : Seen → List BodyPlace → Mention → Option (List ℕ) → Call → List Event
field_calls seen bodies m None c = []
field_calls seen bodies m (Some f) c =
    flat_map (field_call seen f c) (kept_there seen bodies (variable_of seen.known m))

abbrev pub renew_all : List Keep → List Event
renew_all ks = map (λ k. renew k.variable k.object) ks

abbrev pub keep_event : Option ObjectKind → Keep → List Event
keep_event None k = []
keep_event (Some new_object) k = keep k.variable k.object ∷ []
keep_event (Some outer_object) k = give_field k.variable ∷ []

abbrev pub keep_events : Seen → List BodyPlace → Mark → List Event
keep_events seen bodies mark =
    flat_map (λ k. keep_event (object_kind_of seen bodies k.object) k)
    (filter (belongs seen) (keeps_there seen bodies mark))

-- a name stands where it is declared; that of a type switch its clauses declare
abbrev pub declared_at_name : ℕ → Option ℕ → Option ℕ
declared_at_name at None = None
declared_at_name at (Some number) = if number == at then Some number else None

abbrev pub declared_events : Seen → List BodyPlace → Mention → List Event
declared_events seen bodies m =
    renew_all (kept_there seen bodies (declared_at_name m.named.at (declared_by seen.known m)))
    ++ keep_events seen bodies (mentions m)

abbrev pub role_events : Seen → List BodyPlace → Mention → Role → List Event
role_events seen bodies m (called c) = field_calls seen bodies m m.named.selected c
role_events seen bodies m (left k row) = declared_events seen bodies m
role_events seen bodies m exposed = declared_events seen bodies m
role_events seen bodies m role = []

-- what a mention does to what an object keeps
abbrev pub object_events : Seen → List BodyPlace → Mention → List Event
object_events seen bodies m = role_events seen bodies m m.role

abbrev pub give_all : List Keep → List Event
give_all ks = map (λ k. give k.variable k.object) ks

abbrev pub given_field : Option ℕ → List Event
given_field None = []
given_field (Some v) = give_field v ∷ []

abbrev pub carried : Seen → List BodyPlace → Element → Option ℕ
carried seen bodies e =
    if has_field seen.known.fields e.field then field_value seen bodies e else None

abbrev pub gift_events : Seen → List BodyPlace → Gift → List Event
gift_events seen bodies (named_gift n) = give_all (kept_there seen bodies (local_named seen.known (Some n)))
gift_events seen bodies (element_gift e) = given_field (carried seen bodies e)

-- a mention of a local, by its place
pub record MentionAt : Type 0 where
  pub at : ℕ
  pub number : ℕ

abbrev pub mention_at : ℕ → Option ℕ → List MentionAt
mention_at at None = []
mention_at at (Some number) = record { at = at; number = number } ∷ []

-- a key may be the name of a field
abbrev pub is_key : Role → Bool
is_key as_key = true
is_key role = false

abbrev pub mentioned_there : Known → Mark → List MentionAt
mentioned_there known (mentions m) = if is_key m.role then [] else mention_at m.named.at (variable_of known m)
mentioned_there known mark = []

abbrev pub mentioned_in : Seen → ℕ → List MentionAt
mentioned_in seen literal =
    flat_map (λ p. if list_any (λ b. b.at == literal) p.bodies then mentioned_there seen.known p.mark else [])
    seen.marks

abbrev pub put_mention : MentionAt → List MentionAt → List MentionAt
put_mention m [] = m ∷ []
put_mention m (n ∷ ns) = if nat_le m.at n.at then m ∷ n ∷ ns else n ∷ put_mention m ns

abbrev pub in_order_of_place : List MentionAt → List MentionAt
in_order_of_place [] = []
in_order_of_place (m ∷ ms) = put_mention m (in_order_of_place ms)

-- each local once, where it comes first
abbrev pub first_mentions : List MentionAt → List ℕ
first_mentions [] = []
first_mentions (m ∷ ms) = m.number ∷ filter (λ n. not (n == m.number)) (first_mentions ms)

abbrev pub literal_gifts : Seen → List BodyPlace → ℕ → List Event
literal_gifts seen bodies literal =
    flat_map (λ x. give_all (kept_there seen bodies (Some x)))
    (first_mentions (in_order_of_place (mentioned_in seen literal)))

-- the row binds what it obtains into the field, where that is a variable of its own
abbrev pub obtained_event : Seen → FieldLeft → Assigned → Keep → Event
obtained_event seen l a k =
    obtain_kept record { number = k.variable; at = l.field.span.start }
    (called_in seen.known (only_call a.row a.row.values)) a.left_side k.object

abbrev pub obtained_into : Seen → List BodyPlace → Mark → FieldLeft → Assigned → List Event
obtained_into seen bodies mark l a =
    if row_obtains seen.known a.row a.left_side && row_binds seen a.row
    then map (obtained_event seen l a) (keeps_there seen bodies mark)
    else []

abbrev pub written_events : Seen → List BodyPlace → Mark → FieldLeft → Assigned → Option ObjectLeft → List Event
written_events seen bodies mark l a None = keep_events seen bodies mark
written_events seen bodies mark l a (Some o) = obtained_into seen bodies mark l a

-- what the mark, which is this one of fields, does
abbrev pub field_events : Seen → List BodyPlace → Mark → FieldMark → List Event
field_events seen bodies mark (calls_field f) = []
field_events seen bodies mark (writes_field l None) = []
field_events seen bodies mark (writes_field l (Some a)) =
    written_events seen bodies mark l a (seen.known.object_lefts l.field.span.start)
field_events seen bodies mark (hands_over taker e) =
    if takes_it seen.known taker then flat_map (gift_events seen bodies) (gifts missing_expression e) else []
field_events seen bodies mark (hands_literal taker at) =
    if takes_it seen.known taker then literal_gifts seen bodies at else []
field_events seen bodies mark (renews number) = renew_all (kept_there seen bodies (Some number))
field_events seen bodies mark imports_all = []

-- Returns

abbrev pub handed_field : ℕ → Option ℕ → List Handed
handed_field k None = []
handed_field k (Some v) = record { number = v; position = k; object = None } ∷ []

abbrev pub handed_gift : Seen → List BodyPlace → ℕ → Gift → List Handed
handed_gift seen bodies k (named_gift n) =
    map (λ q. record { number = q.variable; position = k; object = Some q.object })
    (kept_there seen bodies (local_named seen.known (Some n)))
handed_gift seen bodies k (element_gift e) = handed_field k (carried seen bodies e)

-- what an item of a return takes with it: what an object keeps that it names, and what a literal carries
abbrev pub handed_in_fields : Seen → List BodyPlace → ℕ → Expression → List Handed
handed_in_fields seen bodies k e = flat_map (handed_gift seen bodies k) (gifts missing_expression e)
