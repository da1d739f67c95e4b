-- Which variables are tracked, and which left sides bind them. A maker is `WithCancel`, `WithTimeout` or `WithDeadline`
-- of an import of `context`, or one of these with a cause; a giver is a function with a result of type
-- `context.CancelFunc` or `context.CancelCauseFunc`. A cancel variable is a local that some row obtains from one of
-- them, or that is declared with one of these types; a group variable is a local that some row makes, or a parameter of
-- type `*errgroup.Group`. A row binds only variables of its own kind: where one of its variables is of another kind, it
-- nothing. Named results and variadic parameters are never tracked. Where a field keeps what it holds, a row may obtain
-- into a field of an object; Objects says of which.
-- (The documentation of `context` and `golang.org/x/sync/errgroup`; this tool's rules.)
use Rattle.std.specs.Prelude.{ℕ, zero, suc, ◌+◌, ◌==◌, Bool, true, false, ◌&&◌, ◌||◌, if◌then◌else◌, List, [], ◌∷◌, ◌++◌, Option, Some, None, is_none, is_some, option_map, map, slice_get, codes, length}
use Rattle.std.specs.List.{list_any, list_all}
use Rattle.std.specs.Str.{bytes_eq}
use Rattle.tree.specs.declared.edition.Edition.{Edition}
use Rattle.tree.specs.declared.edition.Edition.TheVariants.{First, Second}
use Rattle.tree.specs.declared.operator.DeclKeyword.TheVariants.{Const, Var, «Type» as type_keyword}
use Rattle.tree.specs.Syntax.{Identifier, Expression, expression_node, name_expression, selector_expression, call_expression, unary_expression, Expressions, no_expression, expression_and, OptionalExpression, missing_expression, present_expression, Signature, signature_of, Parameters}
use Rattle.meaning.specs.Scopes.{is_blank}
use Rattle.meaning.specs.OuterBlocks.{or_else, has_any}
use Rattle.meaning.specs.Declarations.{Meaning, local_name, import_name, function_name, package_name, universe_name}
use Rattle.meaning.specs.Mentions.{Named, bare, as_named, as_new_literal, RowForm, defines, assigns, declares, Standing, ordinary, first_of_for, communication, Row, Call, call_of, only_value, Role, left, Mention, BodyPlace, Mark, mentions, of_fields, runs_literal, returns, opens, closes, number_of}
use Rattle.meaning.specs.FunctionFacts.{Meanings, context_path, errgroup_path, is_of, is_of_some, CancelType, plain, with_cause, TrackedType, cancel_type, group_type, tracked_type, VariableKind, cancel, group, kind_of_type, Item, items_of, item_type, CancelResult, FunctionFacts}

-- What is known

-- the fields that keep cancel functions, of a package
pub data Fields : Type 0 where
  -- each field is taken for one, where it is asked which are
  each_field : Fields
  -- and the names of those that are assigned to, or are keys of elements
  these_fields : List (List ℕ) → List (List ℕ) → Fields

abbrev pub has_field : Fields → List ℕ → Bool
has_field each_field name = true
has_field (these_fields names filled) name = list_any (λ f. bytes_eq f name) names

-- it may be a field's, and no method's
abbrev pub may_be_field : Fields → List ℕ → Bool
may_be_field each_field name = true
may_be_field (these_fields names filled) name =
    list_any (λ f. bytes_eq f name) names || list_any (λ f. bytes_eq f name) filled

abbrev pub some_keep : Fields → Bool
some_keep each_field = true
some_keep (these_fields names filled) = has_any names

-- a left side `x.f` into which a maker or giver gives what the field keeps
pub data ObjectLeft : Type 0 where
  -- x is an object that others hold
  left_of_outer : ObjectLeft
  -- x is a new object, of that number, and `x.f` a variable of its own
  left_of_new : ℕ → ℕ → ObjectLeft

-- the edition of the rules, what the uses of a file mean, and the facts of functions: of this package's by name, and of
-- the given imports' by path and name; and the fields that keep
pub record Known : Type 0 where
  pub edition : Edition
  pub means : Meanings
  pub fields : Fields
  -- by the offset of f in `x.f`, where that is such a left side
  pub object_lefts : ℕ → Option ObjectLeft
  pub functions : List ℕ → Option FunctionFacts
  pub imported : List ℕ → List ℕ → Option FunctionFacts

abbrev pub facts_meant : Known → List ℕ → Option (List ℕ) → Option Meaning → Option FunctionFacts
facts_meant known name None (Some function_name) = known.functions name
facts_meant known name (Some m) (Some (import_name path)) = known.imported path m
facts_meant known name selected meaning = None

-- the facts of the function that is named
abbrev pub facts_of : Known → Named → Option FunctionFacts
facts_of known n = facts_meant known n.name n.selected (known.means n.at)

-- a name of the universe
abbrev pub is_universe : Option Meaning → Bool
is_universe (Some universe_name) = true
is_universe meaning = false

abbrev pub is_of_universe : Known → List ℕ → Named → Bool
is_of_universe known name n = is_none n.selected && (bytes_eq n.name name && is_universe (known.means n.at))

-- Makers and givers

abbrev pub is_one_of_context : Known → List (List ℕ) → Named → Bool
is_one_of_context known names n = list_any (λ name. is_of known.means context_path name n) names

-- those that give a `context.CancelFunc`; the last two take the cause at once
abbrev pub plain_makers : List (List ℕ)
plain_makers = codes "WithCancel" ∷ codes "WithTimeout" ∷ codes "WithDeadline"
    ∷ codes "WithTimeoutCause" ∷ codes "WithDeadlineCause" ∷ []

-- those that give a `context.CancelCauseFunc`
abbrev pub cause_makers : List (List ℕ)
cause_makers = codes "WithCancelCause" ∷ []

abbrev pub is_plain_maker : Known → Named → Bool
is_plain_maker known = is_one_of_context known plain_makers

abbrev pub is_cause_maker : Known → Named → Bool
is_cause_maker known = is_one_of_context known cause_makers

abbrev pub is_maker : Known → Named → Bool
is_maker known n = is_plain_maker known n || is_cause_maker known n

-- the results that are cancel functions, and the number of results
pub record Giving : Type 0 where
  pub gives : List CancelResult
  pub results : ℕ

abbrev pub is_empty : List CancelResult → Bool
is_empty [] = true
is_empty (g ∷ gs) = false

abbrev pub facts_giving : Option FunctionFacts → Option Giving
facts_giving None = None
facts_giving (Some f) = if is_empty f.gives then None else Some record { gives = f.gives; results = f.results }

-- a maker has two results, a context and a cancel function of that type
abbrev pub maker_giving : CancelType → Giving
maker_giving t = record { gives = record { position = 1; type = t } ∷ []; results = 2 }

-- what a maker or a giver gives
abbrev pub giving_of : Known → Named → Option Giving
giving_of known n =
    if is_plain_maker known n then Some (maker_giving plain)
    else if is_cause_maker known n then Some (maker_giving with_cause)
    else facts_giving (facts_of known n)

abbrev pub call_giving : Known → Option Call → Option Giving
call_giving known None = None
call_giving known (Some c) = giving_of known c.callee

-- Variables

-- the local that a name means; one that no use means is the one that it declares
abbrev pub local_meant_or : Option Meaning → Option ℕ → Option ℕ
local_meant_or None declared = declared
local_meant_or (Some (local_name number kind)) declared = Some number
local_meant_or (Some (import_name path)) declared = None
local_meant_or (Some function_name) declared = None
local_meant_or (Some package_name) declared = None
local_meant_or (Some universe_name) declared = None

abbrev pub variable_of : Known → Mention → Option ℕ
variable_of known m = local_meant_or (known.means m.named.at) m.declares

-- the local that a mention declares
abbrev pub declared_there : Option Meaning → Option ℕ → Option ℕ
declared_there None declared = declared
declared_there (Some meaning) declared = None

abbrev pub declared_by : Known → Mention → Option ℕ
declared_by known m = declared_there (known.means m.named.at) m.declares

-- Left sides

pub data Left : Type 0 where
  blank_left : Left
  -- a name, with the number of the local that it declares, if it declares
  name_left : Named → Option ℕ → Left
  -- `n.f`, by the offset of f
  field_left : ℕ → Left
  other_left : Left

abbrev pub left_name : Named → Option ℕ → Left
left_name n number = if is_blank n.name then blank_left else name_left n number

abbrev pub left_of_name : Identifier → Left
left_of_name n = left_name (bare n.text n.span.start) (number_of n)

abbrev pub left_of_expression : Expression → Left
left_of_expression (expression_node (name_expression text) span) = left_name (bare text span.start) None
left_of_expression (expression_node (selector_expression (expression_node (name_expression n) at) f) span) =
    field_left f.span.start
left_of_expression e = other_left

abbrev pub lefts_of_expressions : Expressions → List Left
lefts_of_expressions no_expression = []
lefts_of_expressions (expression_and e es) = left_of_expression e ∷ lefts_of_expressions es

abbrev pub lefts_of : RowForm → List Left
lefts_of (defines ns) = map left_of_name ns
lefts_of (assigns ls) = lefts_of_expressions ls
lefts_of (declares keyword ns t) = map left_of_name ns

abbrev pub own_variable : Option ObjectLeft → Option ℕ
own_variable None = None
own_variable (Some left_of_outer) = None
own_variable (Some (left_of_new object number)) = Some number

abbrev pub is_of_outer : Option ObjectLeft → Bool
is_of_outer None = false
is_of_outer (Some left_of_outer) = true
is_of_outer (Some (left_of_new object number)) = false

abbrev pub left_local : Known → Option Left → Option ℕ
left_local known None = None
left_local known (Some blank_left) = None
left_local known (Some (name_left n number)) = local_meant_or (known.means n.at) number
left_local known (Some (field_left at)) = own_variable (known.object_lefts at)
left_local known (Some other_left) = None

-- the local on the left side of that number
abbrev pub local_at : Known → Row → ℕ → Option ℕ
local_at known row k = left_local known (slice_get (lefts_of row.form) k)

abbrev pub is_outer_left : Known → Option Left → Bool
is_outer_left known (Some (field_left at)) = is_of_outer (known.object_lefts at)
is_outer_left known l = false

-- an outer object stands there, with a field that keeps
abbrev pub is_outer_at : Known → Row → ℕ → Bool
is_outer_at known row k = is_outer_left known (slice_get (lefts_of row.form) k)

abbrev pub is_blank_left : Option Left → Bool
is_blank_left None = false
is_blank_left (Some blank_left) = true
is_blank_left (Some (name_left n number)) = false
is_blank_left (Some (field_left at)) = false
is_blank_left (Some other_left) = false

abbrev pub is_blank_at : Row → ℕ → Bool
is_blank_at row k = is_blank_left (slice_get (lefts_of row.form) k)

-- Rows that obtain

-- `:=`, `=` and `var`, but for what a `select` waits for
abbrev pub is_binding_form : RowForm → Bool
is_binding_form (defines ns) = true
is_binding_form (assigns ls) = true
is_binding_form (declares Const ns t) = false
is_binding_form (declares Var ns t) = true
is_binding_form (declares type_keyword ns t) = false

abbrev pub may_bind : Standing → RowForm → Bool
may_bind ordinary form = is_binding_form form
may_bind first_of_for form = is_binding_form form
may_bind communication form = false

-- the call that is the only value of a row
abbrev pub call_in : Row → Expression → Option Call
call_in row (expression_node (call_expression e es ellipsis) span) = call_of (only_value row) e es ellipsis
call_in row e = None

abbrev pub only_call : Row → Expressions → Option Call
only_call row no_expression = None
only_call row (expression_and e no_expression) = call_in row e
only_call row (expression_and e (expression_and f es)) = None

abbrev pub fits : Row → Option Giving → Option Giving
fits row None = None
fits row (Some g) = if length (lefts_of row.form) == g.results then Some g else None

-- what the row's call of a maker or a giver gives, where there are as many left sides as results
abbrev pub row_giving : Known → Row → Option Giving
row_giving known row =
    if may_bind row.standing row.form then fits row (call_giving known (only_call row row.values)) else None

abbrev pub is_given : ℕ → List CancelResult → Bool
is_given k = list_any (λ g. g.position == k)

abbrev pub type_given : ℕ → List CancelResult → CancelType
type_given k [] = plain
type_given k (g ∷ gs) = if g.position == k then g.type else type_given k gs

abbrev pub are_locals : Known → Row → List CancelResult → Bool
are_locals known row = list_all (λ g. is_some (local_at known row g.position) || is_outer_at known row g.position)

abbrev pub obtains_there : Known → Row → ℕ → Option Giving → Bool
obtains_there known row k None = false
obtains_there known row k (Some g) = is_given k g.gives && are_locals known row g.gives

-- The row obtains what stands on its left side k, by its form: a local stands at each position that is given. (Or a
-- field of an outer object does; what that gets nobody owes.)
abbrev pub row_obtains : Known → Row → ℕ → Bool
row_obtains known row k = obtains_there known row k (row_giving known row)

-- Rows that make

pub data GroupState : Type 0 where
  idle : GroupState
  live : GroupState

abbrev pub is_group_type : Known → Option Named → Bool
is_group_type known n = is_of_some known.means errgroup_path (codes "Group") n

-- `new(errgroup.Group)`, with the universe's `new`
abbrev pub is_new_call : Known → Named → Expressions → Bool → Bool
is_new_call known callee (expression_and e no_expression) false =
    is_of_universe known (codes "new") callee && is_group_type known (as_named e)
is_new_call known callee es ellipsis = false

abbrev pub made_by_call : Known → ℕ → Option Call → Option GroupState
made_by_call known count None = None
made_by_call known count (Some c) =
    if is_of known.means errgroup_path (codes "WithContext") c.callee
    then if count == 2 then Some live else None
    else if is_new_call known c.callee c.arguments c.has_ellipsis && (count == 1) then Some idle
    else None

-- what is made by a value that the first of so many left sides gets
abbrev pub made_by_value : Known → Row → ℕ → Expression → Option GroupState
made_by_value known row count (expression_node (unary_expression op e) span) =
    if is_group_type known (as_new_literal op e) && (count == 1) then Some idle else None
made_by_value known row count e = made_by_call known count (call_in row e)

abbrev pub made_by_values : Known → Row → ℕ → Expressions → Option GroupState
made_by_values known row count no_expression = None
made_by_values known row count (expression_and e no_expression) = made_by_value known row count e
made_by_values known row count (expression_and e (expression_and f es)) = None

abbrev pub if_first : {A : Type 0} → ℕ → Option A → Option A
if_first zero made = made
if_first (suc k) made = None

-- `var g errgroup.Group`
abbrev pub made_by_type : Known → OptionalExpression → Expressions → Option GroupState
made_by_type known (present_expression t) no_expression =
    if is_group_type known (as_named t) then Some idle else None
made_by_type known t es = None

-- `var g, x = errgroup.WithContext(..)`, in the second edition alone
abbrev pub made_by_pair : Edition → Known → Row → ℕ → OptionalExpression → Option GroupState
made_by_pair First known row count t = None
made_by_pair Second known row count (present_expression t) = None
made_by_pair Second known row count missing_expression =
    if is_context_call (only_call row row.values) && (count == 2) then Some live else None
  where
    is_context_call : Option Call → Bool
    is_context_call None = false
    is_context_call (Some c) = is_of known.means errgroup_path (codes "WithContext") c.callee

abbrev pub made_by_form : Known → Row → ℕ → RowForm → Option GroupState
made_by_form known row k (defines ns) = if_first k (made_by_values known row (length ns) row.values)
made_by_form known row k (assigns ls) =
    if_first k (made_by_values known row (length (lefts_of_expressions ls)) row.values)
made_by_form known row k (declares Const ns t) = None
made_by_form known row k (declares Var ns t) =
    or_else (made_by_type known t row.values) (if_first k (made_by_pair known.edition known row (length ns) t))
made_by_form known row k (declares type_keyword ns t) = None

-- what the row makes on its left side k, by its form, where a local stands there
abbrev pub row_makes : Known → Row → ℕ → Option GroupState
row_makes known row k =
    if may_bind row.standing row.form && is_some (local_at known row k) then made_by_form known row k row.form
    else None

-- Where a mark stands

pub record Placed : Type 0 where
  pub mark : Mark
  -- the bodies around it, the innermost first
  pub bodies : List BodyPlace

abbrev pub outer : List BodyPlace → List BodyPlace
outer [] = []
outer (b ∷ bs) = bs

-- the mark that opens a body stands in it
unfoldable pub placed : List BodyPlace → List Mark → List Placed
placed bodies [] = []
placed bodies (mentions m ∷ ms) = record { mark = mentions m; bodies = bodies } ∷ placed bodies ms
placed bodies (of_fields site m ∷ ms) = record { mark = of_fields site m; bodies = bodies } ∷ placed bodies ms
placed bodies (runs_literal moment site at ∷ ms) =
    record { mark = runs_literal moment site at; bodies = bodies } ∷ placed bodies ms
placed bodies (returns at es ∷ ms) = record { mark = returns at es; bodies = bodies } ∷ placed bodies ms
placed bodies (opens b ∷ ms) = record { mark = opens b; bodies = b ∷ bodies } ∷ placed (b ∷ bodies) ms
placed bodies (closes ∷ ms) = placed (outer bodies) ms

-- Locals

pub data LocalRole : Type 0 where
  -- a parameter, with its position
  parameter : ℕ → LocalRole
  receiver : LocalRole
  variadic : LocalRole
  result : LocalRole
  in_block : LocalRole

pub record Local : Type 0 where
  pub number : ℕ
  pub name : List ℕ
  -- the offset of the name that declares it
  pub at : ℕ
  pub role : LocalRole
  -- the type that it is declared with, if that is tracked
  pub typed : Option TrackedType
  -- the body that declares it, by the offset of its `func`
  pub body : ℕ

abbrev pub item_local : BodyPlace → LocalRole → Option TrackedType → Option Identifier → List Local
item_local b role typed None = []
item_local b role typed (Some n) =
    if is_blank n.text then []
    else
    record {
      number = n.span.start;
      name = n.text;
      at = n.span.start;
      role = role;
      typed = typed;
      body = b.at;
    }
    ∷ []

abbrev pub parameter_role : LocalRole → Item → LocalRole
parameter_role role i = if i.is_variadic then variadic else role

-- parameters from the one of that position on
abbrev pub parameter_locals : Known → BodyPlace → ℕ → List Item → List Local
parameter_locals known b k [] = []
parameter_locals known b k (i ∷ is) =
    item_local b (parameter_role (parameter k) i) (item_type known.means i) i.name
    ++ parameter_locals known b (k + 1) is

abbrev pub receiver_locals : Known → BodyPlace → List Item → List Local
receiver_locals known b [] = []
receiver_locals known b (i ∷ is) =
    item_local b (parameter_role receiver i) (item_type known.means i) i.name ++ receiver_locals known b is

-- a result is no parameter, so that a type of groups says nothing of it
abbrev pub only_cancel : Option TrackedType → Option TrackedType
only_cancel None = None
only_cancel (Some (cancel_type t)) = Some (cancel_type t)
only_cancel (Some group_type) = None

abbrev pub result_locals : Known → BodyPlace → List Item → List Local
result_locals known b [] = []
result_locals known b (i ∷ is) =
    item_local b result (only_cancel (item_type known.means i)) i.name ++ result_locals known b is

abbrev pub receiver_items : Option Parameters → List Item
receiver_items None = []
receiver_items (Some ps) = items_of ps

abbrev pub signature_locals : Known → BodyPlace → Signature → List Local
signature_locals known b (signature_of ps rs brackets) =
    parameter_locals known b 0 (items_of ps) ++ result_locals known b (items_of rs)

abbrev pub body_locals : Known → BodyPlace → List Local
body_locals known b =
    receiver_locals known b (receiver_items b.receiver) ++ signature_locals known b b.signature

-- the type of a variable or constant by that of its spec
abbrev pub row_typed : Known → RowForm → Option TrackedType
row_typed known (defines ns) = None
row_typed known (assigns ls) = None
row_typed known (declares keyword ns t) = only_cancel (tracked_type known.means t)

abbrev pub role_typed : Known → Role → Option TrackedType
role_typed known (left k row) = row_typed known row.form
role_typed known role = None

abbrev pub declared_local : Known → Mention → List BodyPlace → Option ℕ → List Local
declared_local known m [] number = []
declared_local known m (b ∷ bs) None = []
declared_local known m (b ∷ bs) (Some number) =
    record {
      number = number;
      name = m.named.name;
      at = m.named.at;
      role = in_block;
      typed = role_typed known m.role;
      body = b.at;
    }
    ∷ []

abbrev pub locals_there : Known → List BodyPlace → Mark → List Local
locals_there known bodies (mentions m) = declared_local known m bodies (declared_by known m)
locals_there known bodies (of_fields site m) = []
locals_there known bodies (runs_literal moment site at) = []
locals_there known bodies (returns at es) = []
locals_there known bodies (opens b) = body_locals known b
locals_there known bodies closes = []

-- the locals of a file that have names of their own
unfoldable pub locals_of : Known → List Placed → List Local
locals_of known [] = []
locals_of known (p ∷ ps) = locals_there known p.bodies p.mark ++ locals_of known ps

-- in the tree of a text no two locals have one number
abbrev pub find_local : List Local → ℕ → Option Local
find_local [] number = None
find_local (l ∷ ls) number = if l.number == number then Some l else find_local ls number

-- Kinds

abbrev pub is_variable : Option ℕ → ℕ → Bool
is_variable None number = false
is_variable (Some n) number = n == number

abbrev pub is_obtained_by : Known → Mention → Role → Bool
is_obtained_by known m (left k row) = row_obtains known row k
is_obtained_by known m role = false

abbrev pub is_made_by : Known → Mention → Role → Bool
is_made_by known m (left k row) = is_some (row_makes known row k)
is_made_by known m role = false

abbrev pub obtains_in : Known → ℕ → Mark → Bool
obtains_in known number (mentions m) =
    is_variable (variable_of known m) number && is_obtained_by known m m.role
obtains_in known number mark = false

abbrev pub makes_in : Known → ℕ → Mark → Bool
makes_in known number (mentions m) =
    is_variable (variable_of known m) number && is_made_by known m m.role
makes_in known number mark = false

-- The kind of a local: that of its type; else cancel, if some row obtains it; else group, if some row makes it.
abbrev pub kind_by_rows : Known → List Placed → ℕ → Option VariableKind
kind_by_rows known marks number =
    if list_any (λ p. obtains_in known number p.mark) marks then Some cancel
    else if list_any (λ p. makes_in known number p.mark) marks then Some group
    else None

abbrev pub kind_of_local : Known → List Placed → Local → Option VariableKind
kind_of_local known marks l = or_else (option_map kind_of_type l.typed) (kind_by_rows known marks l.number)
