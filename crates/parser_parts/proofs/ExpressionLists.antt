-- Lists of expressions.
use Rattle.std.proofs.Common.{◌≡◌, ℕ, ◌-◌, ◌+◌, ◌<◌, ◌≤◌, arith, Bool, true, false, List, [], ◌∷◌, ◌++◌, Some, None, refl, ap, ◌∙◌}
use Rattle.lexer.specs.declared.token.TokenKind.TheVariants.{Comma}
use Rattle.tree.specs.declared.expression.Expr.{Expr}
use Rattle.tree.specs.Syntax.{Expressions, expression_and, no_expression}
use Rattle.tree.specs.View.{expression_syntax, expressions_syntax}
use Rattle.meaning.specs.Cursor.{Cursor, GoText}
use Rattle.tree_reader.specs.Reader.{Readers, read_more_expressions, read_expressions}
use Rattle.tree_reader.specs.Reading.{Read, stands, behind, steps}
use Rattle.parser_base.proofs.Growing.{prepend, prepend-all, with_part, after, runs_out, ends, fails, goes_on}
use Rattle.parser_base.proofs.Faults.{fails_too}
use Rattle.parser_base.specs.declared.fault.Stop.{Stop}
use Rattle.parser_base.specs.Gives.{Stops}

abbrev pub and_expression : Expr → Expressions → Expressions
and_expression e es = expression_and (expression_syntax e) es

pub all_expressions : (es : List Expr) → prepend and_expression es no_expression ≡ expressions_syntax es
all_expressions es = prepend-all and_expression no_expression expressions_syntax refl (λ x xs. refl) es

module _ (text : GoText) (r : Readers) (header : Bool) where
  pub expressions-start : (place next : Cursor) (x : Expr) (count : ℕ) → r.read_expression header 1 place ≡ Some (expression_syntax x, next) → count ≡ steps next → after and_expression (x ∷ []) (read_more_expressions text r header (count - 0) next) ≡ read_expressions text r header place
  unfolding read_expressions
  expressions-start place next x count read same =
      let k : count - 0 ≡ steps next = omega (arith, same) in
      ap (λ (n : ℕ). after and_expression (x ∷ []) (read_more_expressions text r header n next)) k ∙ rw read (one-after (read_more_expressions text r header (steps next) next))
    where
      one-after : (more : Read Expressions) → after and_expression (x ∷ []) more ≡ with_part and_expression x more
      one-after None = refl
      one-after (Some m) = refl

  -- in a round, after those expressions, of so many rounds
  module _ (items : List Expr) (count i : ℕ) (rest : Cursor) (total : Read Expressions) (so_far : after and_expression items (read_more_expressions text r header (count - i) rest) ≡ total) where
    pub expressions-run-out : count ≤ i → total ≡ None
    unfolding read_more_expressions
    expressions-run-out le =
        runs_out and_expression (read_more_expressions text r header) items count i rest total so_far (λ place. refl) le

    module _ (lt : i < count) where
      pub expressions-end : stands Comma rest ≡ false → total ≡ Some (expressions_syntax items, rest)
      unfolding read_more_expressions
      expressions-end e =
          ends and_expression (read_more_expressions text r header) items count i rest total so_far lt no_expression rest (λ n. rw e refl) ∙ ap (λ (es : Expressions). Some (es, rest)) (all_expressions items)

      pub expressions-fail : (e : Stop) → stands Comma rest ≡ true → Stops e (r.read_expression header 1 (behind rest)) → Stops e total
      unfolding read_more_expressions
      expressions-fail e comma h =
          fails_too e (r.read_expression header 1 (behind rest)) total h (λ none. fails and_expression (read_more_expressions text r header) items count i rest total so_far lt (λ n. rw (comma, none) refl))

      pub expressions-more : stands Comma rest ≡ true → (x : Expr) (next : Cursor) → r.read_expression header 1 (behind rest) ≡ Some (expression_syntax x, next) → after and_expression (items ++ x ∷ []) (read_more_expressions text r header (count - (i + 1)) next) ≡ total
      unfolding read_more_expressions
      expressions-more comma x next read =
          goes_on and_expression (read_more_expressions text r header) items count i rest total so_far lt x next (λ n. rw (comma, read) refl)
