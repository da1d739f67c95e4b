-- How a condition comes out, by how its smallest parts do: `&&` and `||` evaluate their second operand only where the
-- first one leaves the outcome open. What a condition finds out then is so.
-- (The Go specification, "Logical operators", "Comparison operators".)
use Rattle.std.specs.Prelude.{◌≡◌, Bool, true, false, not, [], Option, Some, Contains, codes, ◌⊎◌}
use Rattle.std.specs.Str.{bytes_eq}
use Rattle.tree.specs.declared.operator.BinaryOperator.{BinaryOperator}
use Rattle.tree.specs.declared.operator.BinaryOperator.TheVariants.{LogicalAnd, LogicalOr}
use Rattle.tree.specs.declared.span.Span.{Span}
use Rattle.tree.specs.Syntax.{Expression, expression_node, binary_expression}
use Rattle.meaning.specs.Mentions.{Named, as_bare, NilTest, nil_where, error_where, has_both, compares}

abbrev pub joined : BinaryOperator → Expression → Expression → Span → Expression
joined op l r span = expression_node (binary_expression op l r) span

-- `comes`: how the parts come out that are no `&&` and no `||`
pub data ComesOut (comes : Expression → Bool) : Expression → Bool → Type 0 where
  by_itself : (op : BinaryOperator) (l r : Expression) (span : Span) (b : Bool)
      → has_both true op ≡ false
      → has_both false op ≡ false
      → comes (joined op l r span) ≡ b
      → ComesOut comes (joined op l r span) b
  and_both : (l r : Expression) (span : Span)
      → ComesOut comes l true
      → ComesOut comes r true
      → ComesOut comes (joined LogicalAnd l r span) true
  and_first : (l r : Expression) (span : Span)
      → ComesOut comes l false
      → ComesOut comes (joined LogicalAnd l r span) false
  and_second : (l r : Expression) (span : Span)
      → ComesOut comes l true
      → ComesOut comes r false
      → ComesOut comes (joined LogicalAnd l r span) false
  or_first : (l r : Expression) (span : Span) → ComesOut comes l true → ComesOut comes (joined LogicalOr l r span) true
  or_second : (l r : Expression) (span : Span)
      → ComesOut comes l false
      → ComesOut comes r true
      → ComesOut comes (joined LogicalOr l r span) true
  or_neither : (l r : Expression) (span : Span)
      → ComesOut comes l false
      → ComesOut comes r false
      → ComesOut comes (joined LogicalOr l r span) false
  -- another form finds nothing nil
  otherwise : (e : Expression) (b : Bool) → nil_where b e ≡ [] → ComesOut comes e b

-- the first of the operands is what is tested, and the second a name `nil`
pub record Tests (t : NilTest) (n z : Option Named) : Type 0 where
  pub nil : Named
  pub is_named : n ≡ Some t.named
  pub is_nil : z ≡ Some nil
  pub is_nil_there : nil.at ≡ t.nil
  pub has_name : bytes_eq nil.name (codes "nil") ≡ true

abbrev pub TestsEither : NilTest → Expression → Expression → Type 0
TestsEither t l r = Tests t (as_bare l) (as_bare r) ⊎ Tests t (as_bare r) (as_bare l)

-- a comparison with `nil` that came out so that both are equal
pub record IsNil (comes : Expression → Bool) (t : NilTest) : Type 0 where
  pub op : BinaryOperator
  pub left : Expression
  pub right : Expression
  pub span : Span
  pub outcome : Bool
  pub came_out : comes (joined op left right span) ≡ outcome
  pub is_equal : compares outcome op ≡ true
  pub tests : TestsEither t left right

pub record ConditionsFindOut : Type 0 where
  pub nil : (comes : Expression → Bool) (e : Expression) (b : Bool)
      → ComesOut comes e b
      → (t : NilTest)
      → Contains (nil_where b e) t
      → IsNil comes t
  -- an error: were the outcome the other one, both would be equal
  pub error : (op : BinaryOperator) (l r : Expression) (span : Span) (b : Bool) (t : NilTest)
      → Contains (error_where b (joined op l r span)) t
      → (compares (not b) op ≡ true) × TestsEither t l r
