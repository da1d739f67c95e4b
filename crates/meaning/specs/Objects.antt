-- Objects: the locals of a body in whose fields cancel functions may be kept. A new object is bound in its declaration
-- alone; an outer one, which others hold, is a parameter or receiver whose type is written with `*`, and is bound
-- nowhere. Where a row of a maker or giver has at a position that is given a left side `x.f`, of an object x and a
-- field f that keeps, then for an outer object nobody owes what it gets. For a new one `x.f` is a variable of its own,
-- with the name of the field. All such left sides of one x and f are one variable, declared at the first f by place.
-- A pointer whose address is taken may get another value by it: nothing is assigned to its fields that it keeps.
-- (This tool's rules.)
use Rattle.std.specs.Prelude.{ℕ, ◌==◌, Bool, true, false, not, ◌&&◌, ◌||◌, if◌then◌else◌, List, [], ◌∷◌, ◌++◌, Option, Some, None, is_none, flat_map, nat_lt}
use Rattle.std.specs.List.{list_any}
use Rattle.std.specs.Str.{bytes_eq}
use Rattle.tree.specs.declared.operator.DeclKeyword.TheVariants.{Var}
use Rattle.tree.specs.Syntax.{Identifier, expression_node, composite_literal, star_expression, Expressions, no_expression, expression_and, OptionalExpression, missing_expression, present_expression, Signature, signature_of}
use Rattle.meaning.specs.Mentions.{Named, RowForm, defines, declares, Role, left, exposed, pointed_to, argument, BodyPlace, writes_field, Mark, mentions, of_fields}
use Rattle.meaning.specs.FunctionFacts.{CancelType, cancel_type, Item, items_of}
use Rattle.meaning.specs.Tracked.{Known, has_field, ObjectLeft, left_of_outer, left_of_new, Giving, local_meant_or, variable_of, declared_by, row_giving, is_given, type_given, Placed, LocalRole, parameter, receiver, variadic, result, in_block, Local, receiver_items, locals_of, find_local, is_variable}

-- Objects

-- what may give a local another value; its address may be handed out
abbrev pub is_binding : Role → Bool
is_binding (left k row) = true
is_binding exposed = true
is_binding role = false

abbrev pub binds_again : Known → ℕ → Mark → Bool
binds_again known number (mentions m) =
    is_variable (variable_of known m) number && (is_binding m.role && is_none (declared_by known m))
binds_again known number mark = false

-- the local is bound elsewhere than in its declaration, in literals too
abbrev pub is_bound_again : Known → List Placed → ℕ → Bool
is_bound_again known marks number = list_any (λ p. binds_again known number p.mark) marks

abbrev pub is_pointer : OptionalExpression → Bool
is_pointer (present_expression (expression_node (star_expression t) span)) = true
is_pointer t = false

abbrev pub is_at : ℕ → Option Identifier → Bool
is_at number None = false
is_at number (Some n) = n.span.start == number

abbrev pub points : ℕ → Item → Bool
points number i = is_at number i.name && (not i.is_variadic && is_pointer i.type)

abbrev pub parameter_items : Signature → List Item
parameter_items (signature_of ps rs brackets) = items_of ps

-- the type of that parameter or receiver is written with `*`
abbrev pub points_in : BodyPlace → ℕ → Bool
points_in b number = list_any (points number) (receiver_items b.receiver ++ parameter_items b.signature)

-- `&n`
abbrev pub is_address : Role → Bool
is_address pointed_to = true
is_address (argument k has_address c) = has_address
is_address role = false

abbrev pub points_to : Known → ℕ → Mark → Bool
points_to known number (mentions m) = is_variable (variable_of known m) number && is_address m.role
points_to known number mark = false

-- one composite literal
abbrev pub is_literal : Expressions → Bool
is_literal (expression_and (expression_node (composite_literal t es) span) no_expression) = true
is_literal es = false

-- `x := T{..}`, `var x = T{..}`, `var x T`: x itself has the fields
abbrev pub is_value_row : RowForm → Expressions → Bool
is_value_row (defines (n ∷ [])) es = is_literal es
is_value_row (declares Var (n ∷ []) missing_expression) es = is_literal es
is_value_row (declares Var ns (present_expression t)) no_expression = not (is_pointer (present_expression t))
is_value_row form es = false

abbrev pub is_value : Role → Bool
is_value (left k row) = is_value_row row.form row.values
is_value role = false

abbrev pub declares_value : Known → ℕ → Mark → Bool
declares_value known number (mentions m) = is_variable (declared_by known m) number && is_value m.role
declares_value known number mark = false

abbrev pub is_value_in : Known → List Placed → ℕ → Bool
is_value_in known marks number = list_any (λ p. declares_value known number p.mark) marks

-- the local, unless it may get another value by its address
abbrev pub unaddressed : Known → List Placed → Option ℕ → Option ℕ
unaddressed known marks None = None
unaddressed known marks (Some x) =
    if is_value_in known marks x || not (list_any (λ p. points_to known x p.mark) marks) then Some x else None

pub data ObjectKind : Type 0 where
  new_object : ObjectKind
  outer_object : ObjectKind

abbrev pub outer_if : Bool → Option ObjectKind
outer_if points = if points then Some outer_object else None

abbrev pub kind_by_role : LocalRole → Bool → Option ObjectKind
kind_by_role (parameter k) points = outer_if points
kind_by_role receiver points = outer_if points
kind_by_role variadic points = None
kind_by_role result points = Some new_object
kind_by_role in_block points = Some new_object

abbrev pub object_kind : Known → List Placed → BodyPlace → Option Local → Option ObjectKind
object_kind known marks b None = None
object_kind known marks b (Some l) =
    if (l.body == b.at) && not (is_bound_again known marks l.number)
    then kind_by_role l.role (points_in b l.number) else None

-- the local as an object of the innermost of these bodies
abbrev pub object_in : Known → List Placed → List BodyPlace → Option ℕ → Option ObjectKind
object_in known marks [] number = None
object_in known marks (b ∷ bs) None = None
object_in known marks (b ∷ bs) (Some number) =
    object_kind known marks b (find_local (locals_of known marks) number)

-- the local that a bare name means
abbrev pub local_named : Known → Option Named → Option ℕ
local_named known None = None
local_named known (Some n) = local_meant_or (known.means n.at) None

-- Rows that obtain into fields

-- a left side `x.f` of such a row, in the body with that `func`, with the type of the position
pub record ObjectRow : Type 0 where
  pub object : ℕ
  pub kind : ObjectKind
  pub field : Identifier
  pub type : CancelType
  pub body : ℕ

abbrev pub type_at : ℕ → Option Giving → Option CancelType
type_at k None = None
type_at k (Some g) = if is_given k g.gives then Some (type_given k g.gives) else None

abbrev pub object_row : List BodyPlace → Identifier → Option ℕ → Option ObjectKind → Option CancelType → List ObjectRow
object_row (b ∷ bs) f (Some x) (Some kind) (Some t) =
    record { object = x; kind = kind; field = f; type = t; body = b.at } ∷ []
object_row bodies f x kind t = []

abbrev pub object_rows_there : Known → List Placed → List BodyPlace → Mark → List ObjectRow
object_rows_there known marks bodies (of_fields site (writes_field l (Some a))) =
    if not l.has_brackets && has_field known.fields l.field.text
    then object_row bodies l.field (local_named known l.object)
    (object_in known marks bodies (unaddressed known marks (local_named known l.object)))
    (type_at a.left_side (row_giving known a.row))
    else []
object_rows_there known marks bodies mark = []

abbrev pub object_rows : Known → List Placed → List ObjectRow
object_rows known marks = flat_map (λ p. object_rows_there known marks p.bodies p.mark) marks

abbrev pub is_same_field : ObjectRow → ObjectRow → Bool
is_same_field r q = (r.object == q.object) && bytes_eq r.field.text q.field.text

-- the first place, among these, of the field of that object
abbrev pub first_place : ObjectRow → List ObjectRow → ℕ
first_place r [] = r.field.span.start
first_place r (q ∷ qs) =
    if is_same_field r q && nat_lt q.field.span.start (first_place r qs) then q.field.span.start else first_place r qs

abbrev pub left_by : ObjectKind → ℕ → ℕ → ObjectLeft
left_by new_object x number = left_of_new x number
left_by outer_object x number = left_of_outer

-- what the left side stands for of which the field has that offset
abbrev pub object_left : List ObjectRow → List ObjectRow → ℕ → Option ObjectLeft
object_left all [] at = None
object_left all (r ∷ rs) at =
    if r.field.span.start == at then Some (left_by r.kind r.object (first_place r all)) else object_left all rs at

abbrev pub field_local : ObjectKind → ObjectRow → ℕ → List Local
field_local outer_object r number = []
field_local new_object r number =
    if r.field.span.start == number
    then
    record {
      number = number;
      name = r.field.text;
      at = number;
      role = in_block;
      typed = Some (cancel_type r.type);
      body = r.body;
    }
    ∷ []
    else []

-- the variables that are fields of new objects
abbrev pub field_locals : List ObjectRow → List ObjectRow → List Local
field_locals all [] = []
field_locals all (r ∷ rs) = field_local r.kind r (first_place r all) ++ field_locals all rs
