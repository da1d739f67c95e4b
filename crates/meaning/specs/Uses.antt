-- What each mention of a tracked variable does, and which uses the rules don't allow. A mention is a binding, one of
-- the allowed mentions below, or a fault. In the body that declares a variable more is allowed than in the literals in
-- it. A cancel variable has one type: a binding, call, pass or return by the other type is a fault. Besides, makers,
-- givers, `errgroup` and the universe's `recover` may be named only as the rules say. The rules have two editions.
-- (The documentation of `context` and `golang.org/x/sync/errgroup`; this tool's rules.)
use Rattle.std.specs.Prelude.{ℕ, zero, suc, ◌+◌, ◌==◌, Bool, true, false, not, ◌&&◌, ◌||◌, if◌then◌else◌, List, [], ◌∷◌, ◌++◌, Option, Some, None, is_some, option_map, map, flat_map, slice_get, codes, length, nat_le}
use Rattle.std.specs.List.{list_any, list_all, filter}
use Rattle.std.specs.Str.{bytes_eq}
use Rattle.tree.specs.declared.edition.Edition.{Edition}
use Rattle.tree.specs.declared.edition.Edition.TheVariants.{First, Second}
use Rattle.tree.specs.declared.operator.DeclKeyword.TheVariants.{Const, Var, «Type» as type_keyword}
use Rattle.tree.specs.Syntax.{Identifier, Expression, expression_node, parenthesized, star_expression, function_literal, Expressions, no_expression, expression_and, OptionalExpression, present_expression, Signature, signature_of, Parameters}
use Rattle.meaning.specs.Scopes.{is_blank}
use Rattle.meaning.specs.OuterBlocks.{is_init}
use Rattle.meaning.specs.Declarations.{Meaning, import_name}
use Rattle.meaning.specs.Mentions.{Named, as_bare, RowForm, defines, assigns, declares, Standing, ordinary, first_of_for, communication, Row, Call, CallPlace, nowhere, as_statement, only_value, return_item, deferred, under_go, Role, elsewhere, as_key, found_nil, found_error, called, called_in_brackets, argument, returned, left, names_type, new_literal, parameter_pointer, Mention, LiteralUse, other_use, deferred_call, call_under_go, started_by, BodyPlace, FieldMark, writes_field, Mark, mentions, of_fields, runs_literal, returns, opens, closes, is_none_left, expression_marks, part_of}
use Rattle.meaning.specs.FunctionFacts.{errgroup_path, is_import, is_selected, CancelType, plain, with_cause, is_same_type, is_cancel_type, TrackedType, cancel_type, group_type, is_same_tracked, VariableKind, cancel, group, kind_of_type, TrackedParameter, CancelResult, Unless, FunctionFacts, items_of, cancel_results, listed}
use Rattle.meaning.specs.Tracked.{Known, facts_of, is_universe, is_of_universe, is_maker, Giving, giving_of, local_meant_or, variable_of, declared_by, Left, left_local, lefts_of, local_at, is_blank_at, is_binding_form, may_bind, call_giving, call_in, only_call, row_giving, type_given, own_variable, is_outer_at, are_locals, row_obtains, GroupState, row_makes, Placed, placed, LocalRole, parameter, receiver, variadic, result, in_block, Local, find_local, locals_of, is_variable, kind_of_local}
use Rattle.meaning.specs.Objects.{ObjectRow, object_rows, object_left, field_locals}

-- A file with what is known of it

pub record Seen : Type 0 where
  pub known : Known
  pub marks : List Placed
  pub locals : List Local

-- with the rows that obtain into fields
abbrev pub seen_with : Known → List Placed → List ObjectRow → Seen
seen_with known marks rows = record {
  known = record known { object_lefts = object_left rows rows };
  marks = marks;
  locals = locals_of known marks ++ field_locals rows rows;
}

abbrev pub seen_in : Known → List Mark → Seen
seen_in known ms = seen_with known (placed [] ms) (object_rows known (placed [] ms))

-- The kind of a local, whatever its role is: what it would be tracked as.
abbrev pub kind_of : Seen → Option Local → Option VariableKind
kind_of seen None = None
kind_of seen (Some l) = kind_of_local seen.known seen.marks l

abbrev pub found : Seen → Option ℕ → Option Local
found seen None = None
found seen (Some number) = find_local seen.locals number

abbrev pub may_be_tracked : LocalRole → Bool
may_be_tracked (parameter k) = true
may_be_tracked receiver = true
may_be_tracked variadic = false
may_be_tracked result = false
may_be_tracked in_block = true

-- what the local is tracked as
abbrev pub tracked_kind : Seen → Option Local → Option VariableKind
tracked_kind seen None = None
tracked_kind seen (Some l) =
    if may_be_tracked l.role then kind_of_local seen.known seen.marks l else None

abbrev pub is_tracked : Seen → Option ℕ → Bool
is_tracked seen number = is_some (tracked_kind seen (found seen number))

-- some mark among these is of a tracked variable
abbrev pub names_tracked : Seen → Mark → Bool
names_tracked seen (mentions m) = is_tracked seen (variable_of seen.known m)
names_tracked seen (of_fields site m) = false
names_tracked seen (runs_literal moment site at) = false
names_tracked seen (returns at es) = false
names_tracked seen (opens b) = false
names_tracked seen closes = false

abbrev pub has_tracked : Seen → Expression → Bool
has_tracked seen e = list_any (names_tracked seen) (expression_marks (part_of 0) e)

-- the same, but for what stands in literals
abbrev pub is_outside : List BodyPlace → Bool
is_outside [] = true
is_outside (b ∷ bs) = false

abbrev pub names_tracked_outside : Seen → Placed → Bool
names_tracked_outside seen p = is_outside p.bodies && names_tracked seen p.mark

abbrev pub has_tracked_outside : Seen → Expression → Bool
has_tracked_outside seen e = list_any (names_tracked_outside seen) (placed [] (expression_marks (part_of 0) e))

-- Bindings

-- a function, of the import of that path, or of this package
pub record Callee : Type 0 where
  pub path : Option (List ℕ)
  pub name : List ℕ

abbrev pub path_meant : Option Meaning → Option (List ℕ)
path_meant (Some (import_name path)) = Some path
path_meant meaning = None

abbrev pub selected_or : Option (List ℕ) → List ℕ → List ℕ
selected_or None name = name
selected_or (Some m) name = m

abbrev pub last_name : Named → List ℕ
last_name n = selected_or n.selected n.name

abbrev pub callee_of : Known → Named → Callee
callee_of known n = record { path = path_meant (known.means n.at); name = last_name n }

pub data Binding : Type 0 where
  -- obtained from the result of that number
  obtained : ℕ → Binding
  cleared : Binding
  made : GroupState → Binding

abbrev pub is_cancel : Option VariableKind → Bool
is_cancel None = false
is_cancel (Some cancel) = true
is_cancel (Some group) = false

abbrev pub is_group : Option VariableKind → Bool
is_group None = false
is_group (Some cancel) = false
is_group (Some group) = true

abbrev pub kind_at : Seen → Row → ℕ → Option VariableKind
kind_at seen row k = kind_of seen (found seen (local_at seen.known row k))

abbrev pub are_cancels : Seen → Row → Option Giving → Bool
are_cancels seen row None = false
are_cancels seen row (Some g) =
    list_all (λ p. is_cancel (kind_at seen row p.position) || is_outer_at seen.known row p.position) g.gives

-- the row binds all cancel variables that it obtains
abbrev pub row_binds : Seen → Row → Bool
row_binds seen row = are_cancels seen row (row_giving seen.known row)

-- The type of a cancel variable

-- the type of the position from which a row obtains what stands on its left side k
abbrev pub type_from : ℕ → Option Giving → CancelType
type_from k None = plain
type_from k (Some g) = type_given k g.gives

-- a binding that obtains a cancel function: the offset of its name, and the type of the position
pub record Obtaining : Type 0 where
  pub at : ℕ
  pub type : CancelType

abbrev pub obtained_by_row : Seen → ℕ → ℕ → Row → Option Obtaining
obtained_by_row seen at k row =
    if row_obtains seen.known row k && row_binds seen row
    then Some record { at = at; type = type_from k (row_giving seen.known row) }
    else None

abbrev pub obtained_in_role : Seen → ℕ → Role → Option Obtaining
obtained_in_role seen at (left k row) = obtained_by_row seen at k row
obtained_in_role seen at role = None

abbrev pub obtained_there : Seen → ℕ → Mark → Option Obtaining
obtained_there seen number (mentions m) =
    if is_variable (variable_of seen.known m) number then obtained_in_role seen m.named.at m.role else None
obtained_there seen number mark = None

abbrev pub first_of_both : Obtaining → Obtaining → Obtaining
first_of_both a b = if nat_le a.at b.at then a else b

abbrev pub first_of_some : Option Obtaining → Option Obtaining → Option Obtaining
first_of_some None b = b
first_of_some (Some a) None = Some a
first_of_some (Some a) (Some b) = Some (first_of_both a b)

-- the first binding of the local, by place, that obtains it; in literals too, and whether it gives an event or none
abbrev pub first_obtaining : Seen → ℕ → List Placed → Option Obtaining
first_obtaining seen number [] = None
first_obtaining seen number (p ∷ ps) =
    first_of_some (obtained_there seen number p.mark) (first_obtaining seen number ps)

abbrev pub type_obtained : Option Obtaining → CancelType
type_obtained None = plain
type_obtained (Some o) = o.type

abbrev pub type_by : Option TrackedType → Option Obtaining → CancelType
type_by (Some (cancel_type t)) first = t
type_by (Some group_type) first = type_obtained first
type_by None first = type_obtained first

-- that which it is declared with; else that of the first binding that obtains it; plain where none does
abbrev pub cancel_type_of : Seen → Local → CancelType
cancel_type_of seen l = type_by l.typed (first_obtaining seen l.number seen.marks)

-- Rows that clear

-- a function literal, or the universe's `nil`
abbrev pub is_empty_value : Known → Expression → Bool
is_empty_value known (expression_node (function_literal signature ss braces) span) = true
is_empty_value known e = is_nil (as_bare e)
  where
    is_nil : Option Named → Bool
    is_nil None = false
    is_nil (Some n) = is_of_universe known (codes "nil") n

abbrev pub clears_by_value : Known → ℕ → Expressions → Bool
clears_by_value known count no_expression = false
clears_by_value known count (expression_and e no_expression) = (count == 1) && is_empty_value known e
clears_by_value known count (expression_and e (expression_and f es)) = false

abbrev pub clears_by_type : Known → OptionalExpression → Expressions → Bool
clears_by_type known (present_expression t) no_expression = is_cancel_type known.means t
clears_by_type known t es = false

abbrev pub clears_by_form : Known → Row → RowForm → Bool
clears_by_form known row (defines ns) = clears_by_value known (length ns) row.values
clears_by_form known row (assigns ls) = clears_by_value known (length (lefts_of (assigns ls))) row.values
clears_by_form known row (declares Const ns t) = false
clears_by_form known row (declares Var ns t) = clears_by_type known t row.values
clears_by_form known row (declares type_keyword ns t) = false

abbrev pub is_no_giving : Known → Row → Option Expression → Bool
is_no_giving known row None = false
is_no_giving known row (Some e) = not (is_some (call_giving known (call_in row e)))

-- no value at all, one for all left sides, or one for each: none that is a call of a maker or a giver clears
abbrev pub clears_at : Known → Row → ℕ → List Expression → Bool
clears_at known row k [] = true
clears_at known row k (e ∷ []) = is_no_giving known row (Some e)
clears_at known row k (e ∷ f ∷ es) =
    (length (e ∷ f ∷ es) == length (lefts_of row.form)) && is_no_giving known row (slice_get (e ∷ f ∷ es) k)

-- In the first edition a row of one name clears it by a type or an empty value alone; in the second each value does.
abbrev pub clears_by_edition : Edition → Known → Row → ℕ → Bool
clears_by_edition First known row k = clears_by_form known row row.form
clears_by_edition Second known row k = clears_at known row k (listed row.values)

-- the row may clear what stands on its left side k, if it is a cancel variable
abbrev pub row_clears : Known → Row → ℕ → Bool
row_clears known row k = may_bind row.standing row.form && clears_by_edition known.edition known row k

abbrev pub second : Expressions → Option Expression
second no_expression = None
second (expression_and e no_expression) = None
second (expression_and e (expression_and f es)) = Some f

abbrev pub has_tracked_in : Seen → Option Expression → Bool
has_tracked_in seen None = false
has_tracked_in seen (Some e) = has_tracked seen e

-- x of `g, x := errgroup.WithContext(..)`, or of `var`, has no tracked name, in literals neither
abbrev pub is_second_free : Seen → Row → RowForm → Bool
is_second_free seen row (defines ns) = not (is_tracked seen (local_at seen.known row 1))
is_second_free seen row (assigns ls) = not (has_tracked_in seen (second ls))
is_second_free seen row (declares keyword ns t) =
    is_none_left row.values || not (is_tracked seen (local_at seen.known row 1))

abbrev pub is_group_or_none : Seen → Option ℕ → Bool
is_group_or_none seen None = true
is_group_or_none seen (Some number) = is_group (kind_of seen (found seen (Some number)))

-- all names of `var g, h errgroup.Group` are groups; of another row the first name is
abbrev pub are_groups : Seen → Row → RowForm → Bool
are_groups seen row (defines ns) = is_group (kind_at seen row 0)
are_groups seen row (assigns ls) = is_group (kind_at seen row 0)
are_groups seen row (declares keyword ns t) =
    if is_none_left row.values
    then list_all (λ l. is_group_or_none seen (left_local seen.known (Some l))) (lefts_of row.form)
    else is_group (kind_at seen row 0)

abbrev pub made_binding : Seen → Row → Option GroupState → Option Binding
made_binding seen row None = None
made_binding seen row (Some state) =
    if are_groups seen row row.form && is_second_free seen row row.form then Some (made state) else None

-- how the row binds what stands on its left side k
abbrev pub binding_at : Seen → Row → ℕ → Option Binding
binding_at seen row k =
    if row_obtains seen.known row k then if row_binds seen row then Some (obtained k) else None
    else if row_clears seen.known row k && is_cancel (kind_at seen row k) then Some cleared
    else made_binding seen row (row_makes seen.known row k)

-- Rows of givers with an error

abbrev pub unless_in : Option FunctionFacts → List Unless
unless_in None = []
unless_in (Some f) = f.unless

abbrev pub call_unless : Known → Option Call → List Unless
call_unless known None = []
call_unless known (Some c) = unless_in (facts_of known c.callee)

abbrev pub is_obtained : Option Binding → Bool
is_obtained None = false
is_obtained (Some (obtained k)) = true
is_obtained (Some cleared) = false
is_obtained (Some (made state)) = false

abbrev pub is_left_of : Known → ℕ → Left → Bool
is_left_of known number l = is_variable (left_local known (Some l)) number

-- `*e`, or something in brackets: it may be a local by another name
unfoldable pub may_be_a_local : Expression → Bool
may_be_a_local (expression_node (star_expression e) span) = true
may_be_a_local (expression_node (parenthesized e) span) = true
may_be_a_local e = false

abbrev pub has_hidden_left : RowForm → Bool
has_hidden_left (defines ns) = false
has_hidden_left (assigns ls) = list_any may_be_a_local (listed ls)
has_hidden_left (declares keyword ns t) = false

-- that local stands on the left side k of the row, and nowhere else there, by another name neither
abbrev pub stands_once : Known → Row → ℕ → ℕ → Bool
stands_once known row k number =
    is_variable (local_at known row k) number
    && ((length (filter (is_left_of known number) (lefts_of row.form)) == 1) && not (has_hidden_left row.form))

-- what the row obtains from a function that gives it only where its error, which that local holds, is nil
abbrev pub obtained_unless : Seen → Row → ℕ → Unless → List ℕ
obtained_unless seen row error u =
    if is_obtained (binding_at seen row u.given) && stands_once seen.known row u.error error
    then some (local_at seen.known row u.given) else []
  where
    some : Option ℕ → List ℕ
    some None = []
    some (Some number) = number ∷ []

abbrev pub lost_to : Seen → Row → Option ℕ → List ℕ
lost_to seen row None = []
lost_to seen row (Some error) =
    flat_map (obtained_unless seen row error) (call_unless seen.known (only_call row row.values))

abbrev pub is_made : Option Binding → Bool
is_made None = false
is_made (Some (obtained k)) = false
is_made (Some cleared) = false
is_made (Some (made state)) = true

abbrev pub below : ℕ → List ℕ
below zero = []
below (suc n) = n ∷ below n

-- the row makes a group
abbrev pub makes_group : Seen → Row → Bool
makes_group seen row = list_any (λ k. is_made (binding_at seen row k)) (below (length (lefts_of row.form)))

-- Bodies around a mention

-- the literals between the body that declares the variable and the mention, the innermost first
abbrev pub literals_between : ℕ → List BodyPlace → List BodyPlace
literals_between body [] = []
literals_between body (b ∷ bs) = if b.at == body then [] else b ∷ literals_between body bs

abbrev pub is_body : ℕ → List BodyPlace → Bool
is_body at [] = false
is_body at (b ∷ bs) = b.at == at

-- the mention stands in the body that declares the variable, and in no literal in it
abbrev pub is_own : Local → List BodyPlace → Bool
is_own l bodies = is_body l.body bodies

abbrev pub is_deferred_use : LiteralUse → Bool
is_deferred_use other_use = false
is_deferred_use deferred_call = true
is_deferred_use call_under_go = false
is_deferred_use (started_by n) = false

-- it is called under `defer` or `go`
abbrev pub is_run : LiteralUse → Bool
is_run other_use = false
is_run deferred_call = true
is_run call_under_go = true
is_run (started_by n) = false

-- under `go`
abbrev pub goes_off : LiteralUse → Bool
goes_off other_use = false
goes_off deferred_call = false
goes_off call_under_go = true
goes_off (started_by n) = false

abbrev pub is_deferred : BodyPlace → Bool
is_deferred b = is_deferred_use b.literal

-- a literal that runs once, where its statement is reached: in the first edition a deferred one alone
abbrev pub runs_once : Edition → BodyPlace → Bool
runs_once First b = is_deferred b
runs_once Second b = is_run b.literal

abbrev pub is_of_local : Local → Option ℕ → Bool
is_of_local l None = false
is_of_local l (Some number) = number == l.number

abbrev pub is_started_by_it : Known → Local → LiteralUse → Bool
is_started_by_it known l other_use = false
is_started_by_it known l deferred_call = false
is_started_by_it known l call_under_go = false
is_started_by_it known l (started_by n) = is_of_local l (local_meant_or (known.means n.at) None)

-- the literal is the argument of Go or TryGo of that variable
abbrev pub is_member_of : Known → Local → BodyPlace → Bool
is_member_of known l b = is_started_by_it known l b.literal

-- these bodies around a mention, the innermost first, are such literals up to the body that declares the variable
abbrev pub are_members : Known → Local → List BodyPlace → Bool
are_members known l [] = false
are_members known l (b ∷ bs) = (b.at == l.body) || (is_member_of known l b && are_members known l bs)

-- The results of a body that are cancel functions: what its returns may hand on. Methods, literals, and functions that
-- are called `_` or `init` have none.
abbrev pub named_gives : Known → Identifier → Signature → List CancelResult
named_gives known n (signature_of ps rs brackets) =
    if is_blank n.text || is_init n.text then [] else cancel_results known.means 0 (items_of rs)

abbrev pub gives_of : Known → Option Identifier → Option Parameters → Signature → List CancelResult
gives_of known (Some n) None signature = named_gives known n signature
gives_of known name of signature = []

abbrev pub body_gives : Known → List BodyPlace → List CancelResult
body_gives known [] = []
body_gives known (b ∷ bs) = gives_of known b.name b.receiver b.signature

-- Events

-- a variable that a return hands on, and the position of its item; with the object in which it is kept, if it is that
-- which the item names
pub record Handed : Type 0 where
  pub number : ℕ
  pub position : ℕ
  pub object : Option ℕ

-- a variable, with the offset of its name where it is bound or passed: there a fault of a path stands
pub record VariableAt : Type 0 where
  pub number : ℕ
  pub at : ℕ

-- a variable that a function under `go` gets, and the position of the argument
pub record Sent : Type 0 where
  pub number : ℕ
  pub position : ℕ

-- what a `go` statement starts: a call of what the variable holds, a function that gets some, or the literal at that
-- offset, which may see to what it captures
pub data Work : Type 0 where
  go_call : ℕ → Work
  go_pass : Callee → List Sent → Work
  go_literal : ℕ → Work

pub data Event : Type 0 where
  other : Event
  -- the variable, the function whose result it obtains, the result's number, and whether the variable is declared there
  obtain : VariableAt → Callee → ℕ → Bool → Event
  clear : VariableAt → Event
  call : ℕ → Event
  defer_call : ℕ → Event
  -- a field of the object of that number, which is a variable of its own: it obtains what the field keeps from then on
  obtain_kept : VariableAt → Callee → ℕ → ℕ → Event
  -- a variable that is kept, in a field of the object of that number: the declaration of the object is evaluated,
  renew : ℕ → ℕ → Event
  -- the field gets what the variable holds,
  keep : ℕ → ℕ → Event
  -- the field is called, or its call is saved,
  call_kept : ℕ → ℕ → Event
  defer_kept : ℕ → ℕ → Event
  -- and the object is given to others
  give : ℕ → ℕ → Event
  -- what the variable holds goes to others in a field
  give_field : ℕ → Event
  -- the variable, the function, and the position of the argument
  pass : VariableAt → Callee → ℕ → Event
  defer_pass : VariableAt → Callee → ℕ → Event
  lend : ℕ → Callee → ℕ → Event
  -- the group, and the literal that is started, if it is one; a try starts it or does nothing
  start : ℕ → Option ℕ → Event
  try : ℕ → Option ℕ → Event
  wait : ℕ → Event
  defer_wait : ℕ → Event
  make : VariableAt → GroupState → Event
  defer_literal : ℕ → Event
  -- a goroutine starts
  go : Work → Event
  -- the variables that are handed on, each with its position
  return_event : List Handed → Event

-- Allowed mentions

-- `:=`, `=` and `var` have a value that stands as a whole; `const` has none
abbrev pub is_value_place : CallPlace → Bool
is_value_place nowhere = false
is_value_place as_statement = false
is_value_place (only_value row) = is_binding_form row.form
is_value_place (return_item k) = false
is_value_place deferred = false
is_value_place under_go = false

abbrev pub is_statement_place : CallPlace → Bool
is_statement_place nowhere = false
is_statement_place as_statement = true
is_statement_place (only_value row) = false
is_statement_place (return_item k) = false
is_statement_place deferred = false
is_statement_place under_go = false

abbrev pub is_item_place : CallPlace → Bool
is_item_place nowhere = false
is_item_place as_statement = false
is_item_place (only_value row) = false
is_item_place (return_item k) = true
is_item_place deferred = false
is_item_place under_go = false

abbrev pub is_deferred_place : CallPlace → Bool
is_deferred_place nowhere = false
is_deferred_place as_statement = false
is_deferred_place (only_value row) = false
is_deferred_place (return_item k) = false
is_deferred_place deferred = true
is_deferred_place under_go = false

abbrev pub is_statement_or_value : CallPlace → Bool
is_statement_or_value p = is_statement_place p || is_value_place p

abbrev pub is_under_go : CallPlace → Bool
is_under_go nowhere = false
is_under_go as_statement = false
is_under_go (only_value row) = false
is_under_go (return_item k) = false
is_under_go deferred = false
is_under_go under_go = true

-- a statement, an only value, or an item of a return list
abbrev pub is_call_place : CallPlace → Bool
is_call_place p = is_statement_or_value p || is_item_place p

abbrev pub is_same_kind : VariableKind → VariableKind → Bool
is_same_kind cancel k = is_cancel (Some k)
is_same_kind group k = is_group (Some k)

abbrev pub has_kind_at : VariableKind → ℕ → TrackedParameter → Bool
has_kind_at kind k p = is_same_kind kind (kind_of_type p.typed) && (p.position == k)

abbrev pub facts_take : VariableKind → ℕ → Option FunctionFacts → Bool
facts_take kind k None = false
facts_take kind k (Some f) = list_any (has_kind_at kind k) f.parameters

abbrev pub has_type_at : TrackedType → ℕ → TrackedParameter → Bool
has_type_at t k p = is_same_tracked t p.typed && (p.position == k)

abbrev pub facts_take_type : TrackedType → ℕ → Option FunctionFacts → Bool
facts_take_type t k None = false
facts_take_type t k (Some f) = list_any (has_type_at t k) f.parameters

-- the function takes what is of that type at that position
abbrev pub takes : Known → Call → TrackedType → ℕ → Bool
takes known c t k = facts_take_type t k (facts_of known c.callee)

abbrev pub is_empty : Expressions → Bool
is_empty no_expression = true
is_empty (expression_and e es) = false

-- `()`
abbrev pub has_no_argument : Call → Bool
has_no_argument c = is_empty c.arguments && not c.has_ellipsis

abbrev pub allowed_if : Bool → List Event → Option (List Event)
allowed_if is_allowed events = if is_allowed then Some events else None

-- or else the second
abbrev pub either_use : Option (List Event) → Option (List Event) → Option (List Event)
either_use None second_use = second_use
either_use (Some events) second_use = Some events

abbrev pub only_argument : Call → Option Expression
only_argument c = only c.arguments c.has_ellipsis
  where
    only : Expressions → Bool → Option Expression
    only (expression_and e no_expression) false = Some e
    only es ellipsis = None

-- `()`, or `(e)` where the function takes a cause
abbrev pub has_its_arguments : CancelType → Call → Bool
has_its_arguments plain c = has_no_argument c
has_its_arguments with_cause c = is_some (only_argument c)

-- `c()` and `defer c()`, or `c(e)` and `defer c(e)` where it takes a cause; in literals too
abbrev pub cancel_called : CancelType → ℕ → Option (List ℕ) → Call → Option (List Event)
cancel_called t v (Some m) c = None
cancel_called t v None c = either_use
    (allowed_if (has_its_arguments t c && is_statement_place c.place) (call v ∷ []))
    (allowed_if (has_its_arguments t c && is_deferred_place c.place) (defer_call v ∷ []))

abbrev pub variable_at : Local → Mention → VariableAt
variable_at l m = record { number = l.number; at = m.named.at }

-- argument c of a function that takes one of its type at that position, at a call place or under `defer`
abbrev pub cancel_passed : Known → CancelType → VariableAt → Option (List ℕ) → ℕ → Bool → Call → Option (List Event)
cancel_passed known t v None k false c = either_use
    (allowed_if (takes known c (cancel_type t) k && is_call_place c.place)
    (pass v (callee_of known c.callee) k ∷ []))
    (allowed_if (takes known c (cancel_type t) k && is_deferred_place c.place)
    (defer_pass v (callee_of known c.callee) k ∷ []))
cancel_passed known t v selected k has_address c = None

-- a result of that number is a cancel function of that type
abbrev pub is_given_as : ℕ → CancelType → List CancelResult → Bool
is_given_as k t = list_any (λ g. (g.position == k) && is_same_type t g.type)

-- what a mention of a cancel variable of that type gives, if it is allowed
abbrev pub cancel_use : Known → CancelType → Local → List BodyPlace → Mention → Role → Option (List Event)
cancel_use known t l bodies m (called c) = cancel_called t l.number m.named.selected c
cancel_use known t l bodies m (argument k has_address c) =
    if is_own l bodies then cancel_passed known t (variable_at l m) m.named.selected k has_address c else None
-- an item of a return list at the position of such a result is handed on by the return
cancel_use known t l bodies m (returned k) =
    allowed_if (is_own l bodies && is_given_as k t (body_gives known bodies)) []
-- where the variable is nil nothing is left to call, so it is as good as called there
cancel_use known t l bodies m (found_nil nil) = Some (if is_universe (known.means nil) then call l.number ∷ [] else [])
cancel_use known t l bodies m (found_error nil row) = Some []
cancel_use known t l bodies m role = None

-- `go c()`, or `go c(e)` where it takes a cause; in literals too
abbrev pub call_taken_on : CancelType → ℕ → Option (List ℕ) → Call → Option (List Event)
call_taken_on t v (Some m) c = None
call_taken_on t v None c =
    allowed_if (has_its_arguments t c && is_under_go c.place) (go (go_call v) ∷ [])

-- In the second edition a goroutine may call it.
abbrev pub taken_on : CancelType → Local → Mention → Role → Option (List Event)
taken_on t l m (called c) = call_taken_on t l.number m.named.selected c
taken_on t l m role = None

-- In the second edition the variable may be read anywhere: its function may be called by several and more than once, so
-- that a copy takes nothing away from who has to call it. A call with other arguments than its own is no read.
abbrev pub is_read : CancelType → Role → Option (List ℕ) → Bool
is_read t elsewhere selected = true
is_read t as_key selected = true
is_read t (called c) selected = is_some selected || has_its_arguments t c
is_read t called_in_brackets selected = true
is_read t (argument k has_address c) selected = not has_address
is_read t (returned k) selected = true
is_read t role selected = false

abbrev pub cancel_use_by
    : Edition → Known → CancelType → Local → List BodyPlace → Mention → Role → Option (List Event)
cancel_use_by First known t l bodies m role = cancel_use known t l bodies m role
cancel_use_by Second known t l bodies m role =
    either_use (cancel_use known t l bodies m role)
    (either_use (taken_on t l m role) (allowed_if (is_read t role m.named.selected) []))

abbrev pub literal_at : Expression → Option ℕ
literal_at (expression_node (function_literal signature ss braces) span) = Some span.start
literal_at e = None

-- x of `g.Go(x)`: a function literal, or an expression without a tracked name outside literals
abbrev pub is_free : Seen → Option Expression → Bool
is_free seen None = false
is_free seen (Some e) = is_some (literal_at e) || not (has_tracked_outside seen e)

abbrev pub started_literal : Option Expression → Option ℕ
started_literal None = None
started_literal (Some e) = literal_at e

-- `g.Go(x)` as a statement, and `g.TryGo(x)` as a statement or value; in literals of the body that declares the group,
-- where each one between is a member
abbrev pub group_started : Seen → Local → List BodyPlace → Call → Option (List Event)
group_started seen l bodies c = allowed_if
    (is_statement_place c.place && (is_free seen (only_argument c) && are_members seen.known l bodies))
    (start l.number (started_literal (only_argument c)) ∷ [])

abbrev pub group_tried : Seen → Local → List BodyPlace → Call → Option (List Event)
group_tried seen l bodies c = allowed_if
    (is_statement_or_value c.place && (is_free seen (only_argument c) && are_members seen.known l bodies))
    (try l.number (started_literal (only_argument c)) ∷ [])

-- `g.Wait()` at a call place, and under `defer`; in literals where each one between runs once, and not as an item
abbrev pub group_awaited : Edition → Local → List BodyPlace → Call → Option (List Event)
group_awaited e l bodies c = either_use
    (allowed_if (has_no_argument c && ((is_statement_or_value c.place || (is_item_place c.place && is_own l bodies))
    && list_all (runs_once e) (literals_between l.body bodies))) (wait l.number ∷ []))
    (allowed_if (has_no_argument c && (is_deferred_place c.place
    && list_all (runs_once e) (literals_between l.body bodies))) (defer_wait l.number ∷ []))

-- `g.SetLimit(..)` as a statement
abbrev pub group_limited : Local → List BodyPlace → Call → Option (List Event)
group_limited l bodies c = allowed_if (is_statement_place c.place && is_own l bodies) []

abbrev pub group_called : Seen → Local → List BodyPlace → Option (List ℕ) → Call → Option (List Event)
group_called seen l bodies None c = None
group_called seen l bodies (Some m) c =
    if bytes_eq m (codes "Go") then group_started seen l bodies c
    else if bytes_eq m (codes "TryGo") then group_tried seen l bodies c
    else if bytes_eq m (codes "Wait") then group_awaited seen.known.edition l bodies c
    else if bytes_eq m (codes "SetLimit") then group_limited l bodies c
    else None

-- argument g or `&g` at a position of type `*errgroup.Group`, at a call place
abbrev pub group_lent : Known → Local → List BodyPlace → Option (List ℕ) → ℕ → Call → Option (List Event)
group_lent known l bodies None k c = allowed_if
    (is_own l bodies && (takes known c group_type k && is_call_place c.place))
    (lend l.number (callee_of known c.callee) k ∷ [])
group_lent known l bodies (Some m) k c = None

abbrev pub group_use : Seen → Local → List BodyPlace → Mention → Role → Option (List Event)
group_use seen l bodies m (called c) = group_called seen l bodies m.named.selected c
group_use seen l bodies m (argument k has_address c) = group_lent seen.known l bodies m.named.selected k c
group_use seen l bodies m (found_nil nil) = Some []
group_use seen l bodies m (found_error nil row) = Some []
group_use seen l bodies m role = None

-- Faults

-- what is said of a use; in a report these are LC02, LC03, LC06, LC09, LC11 and LC12
pub data UseCode : Type 0 where
  recover_used : UseCode
  goto_used : UseCode
  cancel_discarded : UseCode
  cancel_used_otherwise : UseCode
  group_used_otherwise : UseCode
  bound_again : UseCode
  too_many_variables : UseCode

pub record UseFault : Type 0 where
  pub at : ℕ
  pub code : UseCode
  pub name : List ℕ

abbrev pub fault_at : ℕ → UseCode → List ℕ → List UseFault
fault_at at code name = record { at = at; code = code; name = name } ∷ []

abbrev pub otherwise : VariableKind → UseCode
otherwise cancel = cancel_used_otherwise
otherwise group = group_used_otherwise

-- what a mention gives: its faults and its events
pub record Outcome : Type 0 where
  pub faults : List UseFault
  pub events : List Event

abbrev pub nothing : Outcome
nothing = record { faults = []; events = [] }

abbrev pub only_faults : List UseFault → Outcome
only_faults faults = record { faults = faults; events = [] }

-- Bindings

-- some literal in the body that declares the variable mentions it
abbrev pub mentions_inside : Known → Local → List BodyPlace → Mark → Bool
mentions_inside known l bodies (mentions m) = is_of_local l (variable_of known m) && not (is_own l bodies)
mentions_inside known l bodies mark = false

abbrev pub is_in_literal : Seen → Local → Bool
is_in_literal seen l = list_any (λ p. mentions_inside seen.known l p.bodies p.mark) seen.marks

abbrev pub called_in : Known → Option Call → Callee
called_in known None = record { path = None; name = [] }
called_in known (Some c) = callee_of known c.callee

abbrev pub binding_event : Known → Local → Mention → Row → Binding → Event
binding_event known l m row (obtained k) =
    obtain (variable_at l m) (called_in known (only_call row row.values)) k (is_some (declared_by known m))
binding_event known l m row cleared = clear (variable_at l m)
binding_event known l m row (made state) = make (variable_at l m) state

abbrev pub if_not : Bool → List UseFault → List UseFault
if_not b faults = if b then [] else faults

-- bound again although a literal mentions it
abbrev pub again_faults : Seen → Local → Mention → List UseFault
again_faults seen l m =
    if is_in_literal seen l && not (is_some (declared_by seen.known m))
    then fault_at m.named.at bound_again l.name else []

-- obtained from a position of the other type
abbrev pub type_faults : Seen → Local → Mention → Row → Binding → List UseFault
type_faults seen l m row (obtained k) =
    if_not (is_same_type (cancel_type_of seen l) (type_from k (row_giving seen.known row)))
    (fault_at m.named.at cancel_used_otherwise l.name)
type_faults seen l m row cleared = []
type_faults seen l m row (made state) = []

abbrev pub first_faults : Standing → VariableKind → Local → Mention → List UseFault
first_faults ordinary kind l m = []
first_faults first_of_for kind l m = fault_at m.named.at (otherwise kind) l.name
first_faults communication kind l m = []

-- in a literal a variable of an outer body is not bound
abbrev pub event_here : Local → List BodyPlace → Event → List Event
event_here l bodies e = if is_own l bodies then e ∷ [] else []

abbrev pub binding_outcome
    : Seen → Local → VariableKind → List BodyPlace → Mention → Row → Binding → LocalRole → Outcome
binding_outcome seen l kind bodies m row b result = only_faults (fault_at m.named.at bound_again l.name)
binding_outcome seen l kind bodies m row b variadic = only_faults (fault_at m.named.at (otherwise kind) l.name)
binding_outcome seen l kind bodies m row b (parameter k) =
    only_faults (fault_at m.named.at (otherwise kind) l.name ++ again_faults seen l m)
binding_outcome seen l kind bodies m row b receiver =
    only_faults (fault_at m.named.at (otherwise kind) l.name ++ again_faults seen l m)
binding_outcome seen l kind bodies m row b in_block = record {
  faults = first_faults row.standing kind l m ++ (type_faults seen l m row b ++ again_faults seen l m);
  events = event_here l bodies (binding_event seen.known l m row b);
}

-- a field of a new object that a row obtains into, which is a variable of its own
abbrev pub field_obtained : Seen → Local → Identifier → Row → ℕ → List UseFault
field_obtained seen v f row k =
    (if is_first row.standing then fault_at f.span.start cancel_used_otherwise f.text else [])
    ++ if_not (is_same_type (cancel_type_of seen v) (type_from k (row_giving seen.known row)))
    (fault_at f.span.start cancel_used_otherwise f.text)
  where
    is_first : Standing → Bool
    is_first ordinary = false
    is_first first_of_for = true
    is_first communication = false

abbrev pub field_left_faults : Seen → Option Local → Identifier → Row → ℕ → List UseFault
field_left_faults seen None f row k = []
field_left_faults seen (Some v) f row k = if row_binds seen row then field_obtained seen v f row k else []

abbrev pub field_variable : Seen → Identifier → Option Local
field_variable seen f = found seen (own_variable (seen.known.object_lefts f.span.start))

abbrev pub field_faults : Seen → FieldMark → List UseFault
field_faults seen (writes_field l (Some a)) =
    field_left_faults seen (field_variable seen l.field) l.field a.row a.left_side
field_faults seen mark = []

-- Behind a giver with an error nothing was given where its error is not nil.
abbrev pub error_events : Seen → Mention → Role → List Event
error_events seen m (found_error nil row) =
    if is_universe (seen.known.means nil) then map call (lost_to seen row (variable_of seen.known m)) else []
error_events seen m role = []

-- Mentions of variables

abbrev pub use_outcome : VariableKind → Local → Mention → Option (List Event) → Outcome
use_outcome kind l m None = only_faults (fault_at m.named.at (otherwise kind) l.name)
use_outcome kind l m (Some events) = record { faults = []; events = events }

abbrev pub kind_use : Seen → Local → VariableKind → List BodyPlace → Mention → Option (List Event)
kind_use seen l cancel bodies m =
    cancel_use_by seen.known.edition seen.known (cancel_type_of seen l) l bodies m m.role
kind_use seen l group bodies m = group_use seen l bodies m m.role

-- a mention that binds nothing
abbrev pub mention_outcome : Seen → Local → Option VariableKind → List BodyPlace → Mention → Outcome
mention_outcome seen l None bodies m = nothing
mention_outcome seen l (Some kind) bodies m = use_outcome kind l m (kind_use seen l kind bodies m)

abbrev pub row_outcome
    : Seen → Local → Option VariableKind → List BodyPlace → Mention → Row → Option Binding → Outcome
row_outcome seen l None bodies m row binding = nothing
row_outcome seen l (Some kind) bodies m row None = mention_outcome seen l (tracked_kind seen (Some l)) bodies m
row_outcome seen l (Some kind) bodies m row (Some binding) =
    binding_outcome seen l kind bodies m row binding l.role

abbrev pub role_outcome : Seen → Local → List BodyPlace → Mention → Role → Outcome
role_outcome seen l bodies m (left k row) =
    row_outcome seen l (kind_of seen (Some l)) bodies m row (binding_at seen row k)
role_outcome seen l bodies m role = mention_outcome seen l (tracked_kind seen (Some l)) bodies m

abbrev pub local_outcome : Seen → List BodyPlace → Mention → Option Local → Outcome
local_outcome seen bodies m None = nothing
local_outcome seen bodies m (Some l) = role_outcome seen l bodies m m.role

abbrev pub variable_outcome : Seen → List BodyPlace → Mention → Outcome
variable_outcome seen bodies m = local_outcome seen bodies m (found seen (variable_of seen.known m))

-- Makers and givers

abbrev pub last_fault : UseCode → Named → List UseFault
last_fault code n = fault_at n.at code (last_name n)

abbrev pub has_blank : Row → List CancelResult → Bool
has_blank row = list_any (λ g. is_blank_at row g.position)

abbrev pub row_call_faults : Seen → Named → Row → Option Giving → List UseFault
row_call_faults seen n row None = last_fault cancel_used_otherwise n
row_call_faults seen n row (Some g) =
    if has_blank row g.gives then fault_at row.statement cancel_discarded (last_name n)
    else if are_locals seen.known row g.gives && row_binds seen row then []
    else last_fault cancel_used_otherwise n

-- a return item that is such a call hands on all that it gives, each at a position of its type
abbrev pub hands_on : List CancelResult → ℕ → Giving → Bool
hands_on gives k g = list_all (λ p. is_given_as (k + p.position) p.type gives) g.gives

abbrev pub call_faults : Seen → List BodyPlace → Mention → Giving → CallPlace → List UseFault
call_faults seen bodies m g nowhere = last_fault cancel_used_otherwise m.named
call_faults seen bodies m g as_statement = fault_at m.site cancel_discarded (last_name m.named)
call_faults seen bodies m g (only_value row) = row_call_faults seen m.named row (row_giving seen.known row)
call_faults seen bodies m g (return_item k) =
    if_not (hands_on (body_gives seen.known bodies) k g) (last_fault cancel_used_otherwise m.named)
call_faults seen bodies m g deferred = last_fault cancel_used_otherwise m.named
call_faults seen bodies m g under_go = last_fault cancel_used_otherwise m.named

-- In the first edition a giver may be named where it is not called, a maker not; in the second neither may. A call of
-- an instance is no call here, so that what it names stands elsewhere.
abbrev pub is_only_called : Edition → Known → Named → Bool
is_only_called First known n = is_maker known n
is_only_called Second known n = true

abbrev pub giving_role_faults : Seen → List BodyPlace → Mention → Giving → Role → List UseFault
giving_role_faults seen bodies m g (called c) = call_faults seen bodies m g c.place
giving_role_faults seen bodies m g called_in_brackets = last_fault cancel_used_otherwise m.named
giving_role_faults seen bodies m g role =
    if is_only_called seen.known.edition seen.known m.named then last_fault cancel_used_otherwise m.named else []

abbrev pub giving_faults : Seen → List BodyPlace → Mention → Option Giving → List UseFault
giving_faults seen bodies m None = []
giving_faults seen bodies m (Some g) = giving_role_faults seen bodies m g m.role

-- The package errgroup

abbrev pub is_making_place : Seen → CallPlace → Bool
is_making_place seen nowhere = false
is_making_place seen as_statement = false
is_making_place seen (only_value row) = makes_group seen row
is_making_place seen (return_item k) = false
is_making_place seen deferred = false
is_making_place seen under_go = false

-- it stands in a making, or is a whole type of a parameter
abbrev pub is_made_or_parameter : Seen → Mention → Role → Bool
is_made_or_parameter seen m parameter_pointer = is_selected (codes "Group") m.named.selected
is_made_or_parameter seen m (names_type row) = makes_group seen row
is_made_or_parameter seen m (new_literal row) = makes_group seen row
is_made_or_parameter seen m (called c) =
    is_selected (codes "WithContext") m.named.selected && is_making_place seen c.place
is_made_or_parameter seen m (argument k has_address c) =
    is_of_universe seen.known (codes "new") c.callee && is_making_place seen c.place
is_made_or_parameter seen m role = false

abbrev pub errgroup_faults : Seen → Mention → List UseFault
errgroup_faults seen m =
    if is_import errgroup_path (seen.known.means m.named.at)
    then if_not (is_made_or_parameter seen m m.role) (last_fault group_used_otherwise m.named)
    else []

-- The universe's `recover`

abbrev pub recover_faults : Known → Mention → List UseFault
recover_faults known m =
    if bytes_eq m.named.name (codes "recover") && is_universe (known.means m.named.at)
    then fault_at m.named.at recover_used (codes "-") else []

-- All of a mark, but for `recover`, of which BodyEvents says where it is a fault

abbrev pub mention_faults : Seen → List BodyPlace → Mention → List UseFault
mention_faults seen bodies m =
    (variable_outcome seen bodies m).faults
    ++ (giving_faults seen bodies m (giving_of seen.known m.named) ++ errgroup_faults seen m)

abbrev pub is_result : LocalRole → Bool
is_result (parameter k) = false
is_result receiver = false
is_result variadic = false
is_result result = true
is_result in_block = false

-- a named result that is a cancel function
abbrev pub result_faults : List Local → List UseFault
result_faults [] = []
result_faults (l ∷ ls) =
    if is_result l.role && is_cancel (option_map kind_of_type l.typed)
    then fault_at l.at bound_again l.name ++ result_faults ls
    else result_faults ls
