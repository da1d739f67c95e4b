-- What a function's signature says of cancel functions and groups: at which positions it takes them, and at which
-- results it gives cancel functions, each with its type. Positions count single parameters and single results from 0;
-- a receiver has none. A type is told by its name alone: `CancelFunc` and `CancelCauseFunc` of an import of `context`,
-- and `*Group` of an import of `errgroup`. In brackets, or under another name, a type is another type. A variadic
-- parameter is not of its element's type. In the second edition a function's returns say besides of which results it
-- gives one only where its error is nil.
-- (The Go specification, "Function types"; the documentation of `context` and `golang.org/x/sync/errgroup`.)
use Rattle.std.specs.Prelude.{ℕ, ◌+◌, Bool, true, false, ◌&&◌, ◌||◌, ◌==◌, zero, suc, if◌then◌else◌, List, [], ◌∷◌, ◌++◌, Option, Some, None, is_none, is_some, map, flat_map, slice_get, codes, length}
use Rattle.std.specs.List.{list_any, list_all, filter}
use Rattle.std.specs.Str.{bytes_eq}
use Rattle.tree.specs.declared.edition.Edition.{Edition}
use Rattle.tree.specs.declared.edition.Edition.TheVariants.{First, Second}
use Rattle.tree.specs.Syntax.{Identifier, Expression, Expressions, no_expression, expression_and, OptionalExpression, missing_expression, present_expression, Signature, signature_of, Parameters, no_parameter, named_and, unnamed_and, name_alone_and, Block, Function, TopLevelDeclaration, function_declaration, general_declaration, SourceFile}
use Rattle.meaning.specs.Declarations.{Meaning, local_name, import_name, function_name, package_name, universe_name}
use Rattle.meaning.specs.OuterBlocks.{can_be_meant, or_else}
use Rattle.meaning.specs.Mentions.{Named, as_bare, as_named, as_pointer, Mark, mentions, of_fields, runs_literal, returns, opens, closes, statements_marks}

-- what the use at an offset of a file means
abbrev pub Meanings : Type 0
Meanings = ℕ → Option Meaning

abbrev pub context_path : List ℕ
context_path = codes "context"

abbrev pub errgroup_path : List ℕ
errgroup_path = codes "golang.org/x/sync/errgroup"

abbrev pub is_import : List ℕ → Option Meaning → Bool
is_import path None = false
is_import path (Some (local_name number kind)) = false
is_import path (Some (import_name p)) = bytes_eq p path
is_import path (Some function_name) = false
is_import path (Some package_name) = false
is_import path (Some universe_name) = false

abbrev pub is_selected : List ℕ → Option (List ℕ) → Bool
is_selected name None = false
is_selected name (Some m) = bytes_eq m name

-- `q.name`, where q is an import of the path
abbrev pub is_of : Meanings → List ℕ → List ℕ → Named → Bool
is_of means path name n = is_selected name n.selected && is_import path (means n.at)

abbrev pub is_of_some : Meanings → List ℕ → List ℕ → Option Named → Bool
is_of_some means path name None = false
is_of_some means path name (Some n) = is_of means path name n

-- Types

-- the types of cancel functions
pub data CancelType : Type 0 where
  -- `context.CancelFunc`
  plain : CancelType
  -- `context.CancelCauseFunc`, which is called with a cause
  with_cause : CancelType

abbrev pub is_same_type : CancelType → CancelType → Bool
is_same_type plain plain = true
is_same_type plain with_cause = false
is_same_type with_cause plain = false
is_same_type with_cause with_cause = true

abbrev pub cancel_type_of_name : Meanings → Option Named → Option CancelType
cancel_type_of_name means n =
    if is_of_some means context_path (codes "CancelFunc") n then Some plain
    else if is_of_some means context_path (codes "CancelCauseFunc") n then Some with_cause
    else None

abbrev pub is_cancel_type : Meanings → Expression → Bool
is_cancel_type means t = is_some (cancel_type_of_name means (as_named t))

abbrev pub is_group_pointer : Meanings → Expression → Bool
is_group_pointer means t = is_of_some means errgroup_path (codes "Group") (as_pointer t)

-- the types of what is tracked: cancel functions, and `*errgroup.Group`
pub data TrackedType : Type 0 where
  cancel_type : CancelType → TrackedType
  group_type : TrackedType

abbrev pub group_or_none : Bool → Option TrackedType
group_or_none is_group = if is_group then Some group_type else None

abbrev pub cancel_or_group : Option CancelType → Bool → Option TrackedType
cancel_or_group (Some t) is_group = Some (cancel_type t)
cancel_or_group None is_group = group_or_none is_group

abbrev pub tracked_type : Meanings → OptionalExpression → Option TrackedType
tracked_type means missing_expression = None
tracked_type means (present_expression t) =
    cancel_or_group (cancel_type_of_name means (as_named t)) (is_group_pointer means t)

abbrev pub is_same_tracked : TrackedType → TrackedType → Bool
is_same_tracked (cancel_type t) (cancel_type u) = is_same_type t u
is_same_tracked (cancel_type t) group_type = false
is_same_tracked group_type (cancel_type u) = false
is_same_tracked group_type group_type = true

-- what a tracked variable holds
pub data VariableKind : Type 0 where
  cancel : VariableKind
  group : VariableKind

abbrev pub kind_of_type : TrackedType → VariableKind
kind_of_type (cancel_type t) = cancel
kind_of_type group_type = group

-- Items of a list of parameters or results

pub record Item : Type 0 where
  pub name : Option Identifier
  pub is_variadic : Bool
  pub type : OptionalExpression

-- a name alone takes the type of the next item
abbrev pub alone : Identifier → List Item → Item
alone n [] = record { name = Some n; is_variadic = false; type = missing_expression }
alone n (i ∷ is) = record { name = Some n; is_variadic = i.is_variadic; type = i.type }

abbrev pub items_of : Parameters → List Item
items_of no_parameter = []
items_of (named_and n ellipsis t ps) =
    record { name = Some n; is_variadic = ellipsis; type = present_expression t } ∷ items_of ps
items_of (unnamed_and ellipsis t ps) =
    record { name = None; is_variadic = ellipsis; type = present_expression t } ∷ items_of ps
items_of (name_alone_and n ps) = alone n (items_of ps) ∷ items_of ps

abbrev pub item_type : Meanings → Item → Option TrackedType
item_type means i = if i.is_variadic then None else tracked_type means i.type

-- Facts

-- a parameter that is tracked
pub record TrackedParameter : Type 0 where
  pub position : ℕ
  pub typed : TrackedType

-- a result that is a cancel function
pub record CancelResult : Type 0 where
  pub position : ℕ
  pub type : CancelType

-- the function gives the result at the first position, unless the one at the other, an `error`, is not nil
pub record Unless : Type 0 where
  pub given : ℕ
  pub error : ℕ

pub record FunctionFacts : Type 0 where
  pub parameters : List TrackedParameter
  -- the results that are cancel functions
  pub gives : List CancelResult
  -- the number of results
  pub results : ℕ
  -- of declared functions, and in the first edition, nothing is known of errors
  pub unless : List Unless

abbrev pub parameter_at : ℕ → Option TrackedType → List TrackedParameter
parameter_at k None = []
parameter_at k (Some t) = record { position = k; typed = t } ∷ []

abbrev pub tracked_parameters : Meanings → ℕ → List Item → List TrackedParameter
tracked_parameters means k [] = []
tracked_parameters means k (i ∷ is) = parameter_at k (item_type means i) ++ tracked_parameters means (k + 1) is

abbrev pub given_at : ℕ → Option TrackedType → List CancelResult
given_at k None = []
given_at k (Some (cancel_type t)) = record { position = k; type = t } ∷ []
given_at k (Some group_type) = []

abbrev pub cancel_results : Meanings → ℕ → List Item → List CancelResult
cancel_results means k [] = []
cancel_results means k (i ∷ is) = given_at k (item_type means i) ++ cancel_results means (k + 1) is

abbrev pub signature_facts : Meanings → Signature → FunctionFacts
signature_facts means (signature_of ps rs brackets) = record {
  parameters = tracked_parameters means 0 (items_of ps);
  gives = cancel_results means 0 (items_of rs);
  results = length (items_of rs);
  unless = [];
}

-- Givers with an error, in the second edition: the results have no names, and each return has as many items as there
-- are results and `nil` at one of the two positions; some have it at the one, and some at the other.

abbrev pub listed : Expressions → List Expression
listed no_expression = []
listed (expression_and e es) = e ∷ listed es

abbrev pub means_universe : Meanings → List ℕ → Option Named → Bool
means_universe means name None = false
means_universe means name (Some n) = bytes_eq n.name name && is_universe (means n.at)
  where
    is_universe : Option Meaning → Bool
    is_universe (Some universe_name) = true
    is_universe meaning = false

abbrev pub is_error : Meanings → OptionalExpression → Bool
is_error means missing_expression = false
is_error means (present_expression t) = means_universe means (codes "error") (as_bare t)

abbrev pub error_results : Meanings → ℕ → List Item → List ℕ
error_results means k [] = []
error_results means k (i ∷ is) =
    if is_error means i.type then k ∷ error_results means (k + 1) is else error_results means (k + 1) is

-- the returns among the marks of a body that stand in no literal in it; so many literals are open
abbrev pub own_returns : ℕ → List Mark → List (List Expression)
own_returns literals [] = []
own_returns literals (mentions m ∷ ms) = own_returns literals ms
own_returns literals (of_fields site m ∷ ms) = own_returns literals ms
own_returns literals (runs_literal moment site at ∷ ms) = own_returns literals ms
own_returns literals (opens b ∷ ms) = own_returns (suc literals) ms
own_returns zero (returns at es ∷ ms) = listed es ∷ own_returns zero ms
own_returns (suc n) (returns at es ∷ ms) = own_returns (suc n) ms
own_returns zero (closes ∷ ms) = own_returns zero ms
own_returns (suc n) (closes ∷ ms) = own_returns n ms

abbrev pub is_nil_at : Meanings → ℕ → List Expression → Bool
is_nil_at means k es = is_nil (slice_get es k)
  where
    is_nil : Option Expression → Bool
    is_nil None = false
    is_nil (Some e) = means_universe means (codes "nil") (as_bare e)

abbrev pub has_nil_at_one : Meanings → ℕ → Unless → List Expression → Bool
has_nil_at_one means results u es =
    (length es == results) && (is_nil_at means u.given es || is_nil_at means u.error es)

abbrev pub gives_unless : Meanings → ℕ → List (List Expression) → Unless → Bool
gives_unless means results rs u =
    list_all (has_nil_at_one means results u) rs
    && (list_any (is_nil_at means u.given) rs && list_any (is_nil_at means u.error) rs)

abbrev pub pairs : List CancelResult → List ℕ → List Unless
pairs gs errors = flat_map (λ g. map (λ j. record { given = g.position; error = j }) errors) gs

abbrev pub unless_by : Meanings → List Item → Option Block → List Unless
unless_by means is None = []
unless_by means is (Some b) =
    if list_all (λ i. is_none i.name) is
    then filter (gives_unless means (length is) (own_returns 0 (statements_marks b.statements)))
    (pairs (cancel_results means 0 is) (error_results means 0 is))
    else []

abbrev pub result_items : Signature → List Item
result_items (signature_of ps rs brackets) = items_of rs

abbrev pub with_unless : FunctionFacts → List Unless → FunctionFacts
with_unless f us = record { parameters = f.parameters; gives = f.gives; results = f.results; unless = us }

abbrev pub function_facts : Edition → Meanings → Function → FunctionFacts
function_facts First means f = signature_facts means f.signature
function_facts Second means f =
    with_unless (signature_facts means f.signature) (unless_by means (result_items f.signature) f.body)

-- The facts of a package's functions, by their names: no methods, and none that is called `init` or `_`. Two functions
-- of one name are a fault of the package; here the first counts.

abbrev pub facts_in : Edition → Meanings → List ℕ → List TopLevelDeclaration → Option FunctionFacts
facts_in edition means name [] = None
facts_in edition means name (function_declaration f ∷ ds) =
    if can_be_meant f && bytes_eq f.name.text name then Some (function_facts edition means f)
    else facts_in edition means name ds
facts_in edition means name (general_declaration d ∷ ds) = facts_in edition means name ds

-- `means` has what the uses mean in the file of each number
abbrev pub facts_from : Edition → (ℕ → Meanings) → List ℕ → ℕ → List SourceFile → Option FunctionFacts
facts_from edition means name file [] = None
facts_from edition means name file (f ∷ fs) =
    or_else (facts_in edition (means file) name f.declarations) (facts_from edition means name (file + 1) fs)

abbrev pub package_facts : Edition → (ℕ → Meanings) → List SourceFile → List ℕ → Option FunctionFacts
package_facts edition means files name = facts_from edition means name 0 files
