-- Elements of composite literals, and arguments.
use Rattle.std.proofs.Common.{◌≡◌, ℕ, suc, ◌-◌, ◌+◌, ◌<◌, ◌≤◌, Bool, true, false, List, [], ◌∷◌, ◌++◌, Some, None, refl, ap, ◌∙◌}
use Rattle.lexer.specs.declared.token.TokenKind.TheVariants.{Comma, Ellipsis, RightBrace, RightParenthesis}
use Rattle.tree.specs.declared.expression.Expr.{Expr}
use Rattle.tree.specs.Syntax.{Expressions, no_expression}
use Rattle.tree.specs.View.{expression_syntax, expressions_syntax}
use Rattle.meaning.specs.Cursor.{Cursor, GoText}
use Rattle.tree_reader.specs.Reader.{Readers, read_any, read_element, read_elements, read_arguments}
use Rattle.tree_reader.specs.Reading.{Read, stands, behind, past}
use Rattle.parser_base.proofs.Growing.{prepend, prepend-all, after, runs_out, ends, fails, goes_on}
use Rattle.parser_base.proofs.Faults.{fails_too}
use Rattle.parser_base.specs.declared.fault.Stop.{Stop}
use Rattle.parser_base.specs.Gives.{Stops}
use Rattle.parser_parts.proofs.ExpressionLists.{and_expression, all_expressions}

module _ {X Y : Type 0} (cons : X → Y → Y) where
  prepend-last : (items : List X) (x : X) (nil : Y) → prepend cons items (cons x nil) ≡ prepend cons (items ++ x ∷ []) nil
  prepend-last [] x nil = refl
  prepend-last (y ∷ ys) x nil = ap (cons y) (prepend-last ys x nil)

  -- a round in which the last part is read
  pub ends_with : (reads : ℕ → Cursor → Read Y) (items : List X) (count i : ℕ) (rest : Cursor) (total : Read Y) → after cons items (reads (count - i) rest) ≡ total → i < count → (nil : Y) (view : List X → Y) → ((xs : List X) → prepend cons xs nil ≡ view xs) → (x : X) (end : Cursor) → ((n : ℕ) → reads (suc n) rest ≡ Some (cons x nil, end)) → total ≡ Some (view (items ++ x ∷ []), end)
  ends_with reads items count i rest total so_far lt nil view all x end is =
      ends cons reads items count i rest total so_far lt (cons x nil) end is ∙ ap (λ (y : Y). Some (y, end)) (prepend-last items x nil ∙ all (items ++ x ∷ []))

module _ (text : GoText) (r : Readers) where
  -- in a round, after those elements, of so many rounds
  module _ (items : List Expr) (count i : ℕ) (rest : Cursor) (total : Read Expressions) (so_far : after and_expression items (read_elements text r (count - i) rest) ≡ total) where
    pub elements-run-out : count ≤ i → total ≡ None
    unfolding read_elements
    elements-run-out le =
        runs_out and_expression (read_elements text r) items count i rest total so_far (λ place. refl) le

    module _ (lt : i < count) where
      pub elements-end : stands RightBrace rest ≡ true → total ≡ Some (expressions_syntax items, rest)
      unfolding read_elements
      elements-end e =
          ends and_expression (read_elements text r) items count i rest total so_far lt no_expression rest (λ n. rw e refl) ∙ ap (λ (es : Expressions). Some (es, rest)) (all_expressions items)

      pub elements-fail : (e : Stop) → stands RightBrace rest ≡ false → Stops e (read_element text r rest) → Stops e total
      unfolding read_elements
      elements-fail e brace h =
          fails_too e (read_element text r rest) total h (λ none. fails and_expression (read_elements text r) items count i rest total so_far lt (λ n. rw (brace, none) refl))

      pub elements-last : stands RightBrace rest ≡ false → (x : Expr) (next : Cursor) → read_element text r rest ≡ Some (expression_syntax x, next) → stands Comma next ≡ false → total ≡ Some (expressions_syntax (items ++ x ∷ []), next)
      unfolding read_elements
      elements-last brace x next read comma =
          ends_with and_expression (read_elements text r) items count i rest total so_far lt no_expression expressions_syntax all_expressions x next (λ n. rw (brace, read, comma) refl)

      pub elements-more : stands RightBrace rest ≡ false → (x : Expr) (next : Cursor) → read_element text r rest ≡ Some (expression_syntax x, next) → stands Comma next ≡ true → after and_expression (items ++ x ∷ []) (read_elements text r (count - (i + 1)) (behind next)) ≡ total
      unfolding read_elements
      elements-more brace x next read comma =
          goes_on and_expression (read_elements text r) items count i rest total so_far lt x (behind next) (λ n. rw (brace, read, comma) refl)

-- an argument, and what follows it
abbrev pub and_argument : Expr → Expressions × Bool → Expressions × Bool
and_argument e es = (and_expression e es.0, es.1)

abbrev pub arguments_syntax : Bool → List Expr → Expressions × Bool
arguments_syntax has_ellipsis es = (expressions_syntax es, has_ellipsis)

pub all_arguments : (has_ellipsis : Bool) (es : List Expr) → prepend and_argument es (no_expression, has_ellipsis) ≡ arguments_syntax has_ellipsis es
all_arguments has_ellipsis es =
    prepend-all and_argument (no_expression, has_ellipsis) (arguments_syntax has_ellipsis) refl (λ x xs. refl) es

module _ (text : GoText) (r : Readers) where
  -- in a round, after those arguments, of so many rounds
  module _ (items : List Expr) (count i : ℕ) (rest : Cursor) (total : Read (Expressions × Bool)) (so_far : after and_argument items (read_arguments text r (count - i) rest) ≡ total) where
    pub arguments-run-out : count ≤ i → total ≡ None
    unfolding read_arguments
    arguments-run-out le =
        runs_out and_argument (read_arguments text r) items count i rest total so_far (λ place. refl) le

    module _ (lt : i < count) where
      pub arguments-end : stands RightParenthesis rest ≡ true → total ≡ Some (arguments_syntax false items, rest)
      unfolding read_arguments
      arguments-end e =
          ends and_argument (read_arguments text r) items count i rest total so_far lt (no_expression, false) rest (λ n. rw e refl) ∙ ap (λ (es : Expressions × Bool). Some (es, rest)) (all_arguments false items)

      pub arguments-fail : (e : Stop) → stands RightParenthesis rest ≡ false → Stops e (read_any text r rest) → Stops e total
      unfolding read_arguments
      arguments-fail e bracket h =
          fails_too e (read_any text r rest) total h (λ none. fails and_argument (read_arguments text r) items count i rest total so_far lt (λ n. rw (bracket, none) refl))

      module _ (bracket : stands RightParenthesis rest ≡ false) (x : Expr) (next : Cursor) (read : read_any text r rest ≡ Some (expression_syntax x, next)) where
        pub arguments-spread : stands Ellipsis next ≡ true → total ≡ Some (arguments_syntax true (items ++ x ∷ []), past Comma (behind next))
        unfolding read_arguments
        arguments-spread dots =
            ends_with and_argument (read_arguments text r) items count i rest total so_far lt (no_expression, true) (arguments_syntax true) (all_arguments true) x (past Comma (behind next)) (λ n. rw (bracket, read, dots) refl)

        pub arguments-last : stands Ellipsis next ≡ false → stands Comma next ≡ false → total ≡ Some (arguments_syntax false (items ++ x ∷ []), next)
        unfolding read_arguments
        arguments-last dots comma =
            ends_with and_argument (read_arguments text r) items count i rest total so_far lt (no_expression, false) (arguments_syntax false) (all_arguments false) x next (λ n. rw (bracket, read, dots, comma) refl)

        pub arguments-more : stands Ellipsis next ≡ false → stands Comma next ≡ true → after and_argument (items ++ x ∷ []) (read_arguments text r (count - (i + 1)) (behind next)) ≡ total
        unfolding read_arguments
        arguments-more dots comma =
            goes_on and_argument (read_arguments text r) items count i rest total so_far lt x (behind next) (λ n. rw (bracket, read, dots, comma) refl)
