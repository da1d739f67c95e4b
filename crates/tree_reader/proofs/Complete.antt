-- The readers of each depth give all that is spelled and no deeper.
use Rattle.std.proofs.Common.{◌≡◌, ℕ, zero, suc, ◌≤◌, List, refl, arith}
use Rattle.tree.specs.Syntax.{Expression, expression_node, key_value, Statement, statement_node}
use Rattle.tree.specs.Depth.{expression_depth, statement_depth}
use Rattle.meaning.specs.Cursor.{GoText, Cursor}
use Rattle.meaning.specs.Grammar.{Position, as_type, as_expression, as_value, as_element, SpellsExpression, SpellsForm}
use Rattle.tree_reader.specs.Reader.{readers}
use Rattle.tree_reader.specs.Claims.{AreComplete}
use Rattle.tree_reader.proofs.CompleteExpressions.{read_expression_of-complete, read_value_of-complete}
use Rattle.tree_reader.proofs.CompleteTypes.{read_type_of-complete}
use Rattle.tree_reader.proofs.CompleteStatements.{read_statement_of-complete}

statement_depth-least : (s : Statement) → 1 ≤ statement_depth s
unfolding statement_depth
statement_depth-least (statement_node form span) = omega arith

module _ (text : GoText) where
  -- Only a key with its value, which stands among elements, may count nothing.
  depth-least : (place : Position) (e : Expression) (from to : Cursor) → (place ≡ as_element → ⊥) → SpellsExpression text place e from to → 1 ≤ expression_depth e
  unfolding SpellsExpression SpellsForm expression_depth
  depth-least place (expression_node (key_value k v) span) from to h s = absurd (h s.0.0)
  depth-least place (expression_node _ span) from to h s = omega arith

  pub are_complete : (n : ℕ) → AreComplete text n (readers text n)
  unfolding readers
  are_complete zero = record {
    most = refl;
    expression = λ header least from to e s l h d stop. absurd (omega (arith, depth-least as_expression e from to (λ p. cc) s));
    type = λ from to t s d. absurd (omega (arith, depth-least as_type t from to (λ p. cc) s));
    value = λ from to e s d stop. absurd (omega (arith, depth-least as_value e from to (λ p. cc) s));
    statement = λ from to s spelled h d e. absurd (omega (arith, statement_depth-least s));
  }
  are_complete (suc n) =
      let below : AreComplete text n (readers text n) = are_complete n in
      record {
        most = refl;
        expression = read_expression_of-complete text (readers text n) n below;
        type = read_type_of-complete text (readers text n) n below;
        value = read_value_of-complete text (readers text n) n below;
        statement = read_statement_of-complete text (readers text n) n below;
      }
