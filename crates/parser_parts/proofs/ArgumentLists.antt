-- Arguments of instances.
use Rattle.std.proofs.Common.{◌≡◌, ℕ, ◌-◌, ◌+◌, ◌<◌, ◌≤◌, arith, true, false, List, [], ◌∷◌, ◌++◌, Some, None, refl, ap, ◌∙◌}
use Rattle.lexer.specs.declared.token.TokenKind.TheVariants.{Comma, RightBracket}
use Rattle.tree.specs.declared.expression.Expr.{Expr}
use Rattle.tree.specs.Syntax.{Expressions, no_expression}
use Rattle.tree.specs.View.{expression_syntax, expressions_syntax}
use Rattle.meaning.specs.Cursor.{Cursor, GoText}
use Rattle.tree_reader.specs.Reader.{Readers, read_any, read_more_arguments}
use Rattle.tree_reader.specs.Reading.{Read, stands, behind, steps}
use Rattle.parser_base.proofs.Growing.{with_part, after, runs_out, ends, fails, goes_on}
use Rattle.parser_base.proofs.Faults.{fails_too}
use Rattle.parser_base.specs.declared.fault.Stop.{Stop}
use Rattle.parser_base.specs.Gives.{Stops}
use Rattle.parser_parts.proofs.ExpressionLists.{and_expression, all_expressions}

one-after : (x : Expr) (more : Read Expressions) → after and_expression (x ∷ []) more ≡ with_part and_expression x more
one-after x None = refl
one-after x (Some m) = refl

module _ (text : GoText) (r : Readers) where
  pub more-start : (place : Cursor) (x : Expr) (count : ℕ) → count ≡ steps place → after and_expression (x ∷ []) (read_more_arguments text r (count - 0) place) ≡ with_part and_expression x (read_more_arguments text r (steps place) place)
  more-start place x count same =
      let k : count - 0 ≡ steps place = omega (arith, same) in
      ap (λ (n : ℕ). after and_expression (x ∷ []) (read_more_arguments text r n place)) k ∙ one-after x (read_more_arguments text r (steps place) place)

  -- in a round, after those arguments, of so many rounds
  module _ (items : List Expr) (count i : ℕ) (rest : Cursor) (total : Read Expressions) (so_far : after and_expression items (read_more_arguments text r (count - i) rest) ≡ total) where
    pub more-run-out : count ≤ i → total ≡ None
    unfolding read_more_arguments
    more-run-out le =
        runs_out and_expression (read_more_arguments text r) items count i rest total so_far (λ place. refl) le

    module _ (lt : i < count) where
      pub more-end : stands Comma rest ≡ false → total ≡ Some (expressions_syntax items, rest)
      unfolding read_more_arguments
      more-end e =
          ends and_expression (read_more_arguments text r) items count i rest total so_far lt no_expression rest (λ n. rw e refl) ∙ ap (λ (es : Expressions). Some (es, rest)) (all_expressions items)

      module _ (comma : stands Comma rest ≡ true) (next : Cursor) (is : next ≡ behind rest) where
        pub more-end-comma : stands RightBracket next ≡ true → total ≡ Some (expressions_syntax items, next)
        unfolding read_more_arguments
        more-end-comma e =
            ends and_expression (read_more_arguments text r) items count i rest total so_far lt no_expression next (λ n. rw (comma, ← is, e) refl) ∙ ap (λ (es : Expressions). Some (es, next)) (all_expressions items)

        module _ (no_end : stands RightBracket next ≡ false) where
          pub more-fail : (e : Stop) → Stops e (read_any text r next) → Stops e total
          unfolding read_more_arguments
          more-fail e h =
              fails_too e (read_any text r next) total h (λ none. fails and_expression (read_more_arguments text r) items count i rest total so_far lt (λ n. rw (comma, ← is, no_end, none) refl))

          pub more-more : (x : Expr) (end : Cursor) → read_any text r next ≡ Some (expression_syntax x, end) → after and_expression (items ++ x ∷ []) (read_more_arguments text r (count - (i + 1)) end) ≡ total
          unfolding read_more_arguments
          more-more x end read =
              goes_on and_expression (read_more_arguments text r) items count i rest total so_far lt x end (λ n. rw (comma, ← is, no_end, read) refl)
