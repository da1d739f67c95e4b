-- What the program keeps of elements and gifts, and what it stands for; the forms that its functions ask for.
use Rattle.std.specs.Prelude.{◌≡◌, Bool, true, false, List, [], ◌∷◌, ◌++◌, Option, Some, None, option_map, map}
use Rattle.std.specs.Borrow.{Bor}
use Rattle.tree.specs.declared.expression.Expr.{Expr}
use Rattle.tree.specs.declared.operator.DeclKeyword.TheVariants.{Var}
use Rattle.tree.specs.declared.operator.UnaryOperator.{UnaryOperator}
use Rattle.tree.specs.declared.operator.UnaryOperator.TheVariants.{Address}
use Rattle.tree.specs.Syntax.{Expression, expression_node, composite_literal, array_type, ellipsis_array_type, slice_type, map_type, OptionalExpression, missing_expression, present_expression}
use Rattle.tree.specs.View.{optional_expression_of, expression_syntax}
use Rattle.kept_forms.specs.declared.element.Element.{Element as KeptElement}
use Rattle.kept_forms.specs.declared.gift.Gift.{Gift as KeptGift}
use Rattle.kept_forms.specs.declared.gift.Gift.TheVariants.{Named as NamedGift, Element as ElementGift}
use Rattle.mentions.specs.MarkViews.{named_view}
use Rattle.meaning.specs.Mentions.{RowForm, defines, declares}
use Rattle.meaning.specs.Kept.{Element, fields_of, Gift, named_gift, element_gift, gifts}

-- Elements and gifts

abbrev pub element_view : KeptElement → Element
element_view e = record { field = e.field.now; at = e.at; value = named_view e.value }

abbrev pub listed_element : Option KeptElement → List Element
listed_element None = []
listed_element (Some e) = element_view e ∷ []

abbrev pub gift_view : KeptGift → Gift
gift_view (NamedGift n) = named_gift (named_view n)
gift_view (ElementGift e) = element_gift (element_view e)

abbrev pub AddsElements : List KeptElement → List KeptElement → List Element → Type 0
AddsElements before after es = map element_view after ≡ map element_view before ++ es

abbrev pub AddsGifts : List KeptGift → List KeptGift → List Gift → Type 0
AddsGifts before after gs = map gift_view after ≡ map gift_view before ++ gs

abbrev pub type_syntax : Option (Bor Expr) → OptionalExpression
type_syntax t = optional_expression_of (option_map (λ (e : Bor Expr). expression_syntax e.now) t)

-- the type of the elements of a type that is written as an array, slice or map
abbrev pub held_type : Expression → Option Expression
held_type (expression_node (array_type n t) span) = Some t
held_type (expression_node (ellipsis_array_type t) span) = Some t
held_type (expression_node (slice_type t) span) = Some t
held_type (expression_node (map_type k t) span) = Some t
held_type t = None

abbrev pub held_by : OptionalExpression → Option Expression
held_by missing_expression = None
held_by (present_expression t) = held_type t

-- the elements of `T{..}`
abbrev pub literal_fields : Expression → List Element
literal_fields (expression_node (composite_literal t es) span) = fields_of (present_expression t) es
literal_fields e = []

abbrev pub addressed_fields : UnaryOperator → Expression → List Element
addressed_fields Address e = literal_fields e
addressed_fields op e = []

-- what is given behind the operator
abbrev pub addressed_gifts : UnaryOperator → Expression → List Gift
addressed_gifts Address e = gifts missing_expression e
addressed_gifts op e = []

-- `x := ..` and `var x = ..`
abbrev pub declares_one : RowForm → Bool
declares_one (defines (n ∷ [])) = true
declares_one (declares Var (n ∷ []) missing_expression) = true
declares_one form = false
