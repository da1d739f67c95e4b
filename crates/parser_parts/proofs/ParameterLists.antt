-- Lists of parameters.
use Rattle.std.proofs.Common.{◌≡◌, ℕ, ◌-◌, ◌+◌, ◌<◌, ◌≤◌, true, false, List, [], ◌∷◌, ◌++◌, Some, None, refl, ap, ◌∙◌}
use Rattle.lexer.specs.declared.token.TokenKind.TheVariants.{Comma, RightParenthesis}
use Rattle.tree.specs.declared.expression.Param.{Param}
use Rattle.tree.specs.Syntax.{Parameters, no_parameter}
use Rattle.tree.specs.View.{parameter_and, parameters_syntax}
use Rattle.meaning.specs.Cursor.{Cursor, GoText}
use Rattle.tree_reader.specs.Reader.{Readers, read_item, read_items}
use Rattle.tree_reader.specs.Reading.{Read, stands, behind}
use Rattle.parser_base.proofs.Growing.{prepend, prepend-all, after, runs_out, ends, fails, goes_on}
use Rattle.parser_base.proofs.Faults.{fails_too}
use Rattle.parser_base.specs.declared.fault.Stop.{Stop}
use Rattle.parser_base.specs.Gives.{Stops}

pub all_parameters : (ps : List Param) → prepend parameter_and ps no_parameter ≡ parameters_syntax ps
all_parameters ps = prepend-all parameter_and no_parameter parameters_syntax refl (λ x xs. refl) ps

pub with_last : (ps : List Param) (x : Param) → prepend parameter_and ps (parameter_and x no_parameter) ≡ parameters_syntax (ps ++ x ∷ [])
with_last [] x = refl
with_last (p ∷ ps) x = ap (parameter_and p) (with_last ps x)

-- in a round, after those items, of so many rounds
module _ (text : GoText) (r : Readers) (items : List Param) (count i : ℕ) (rest : Cursor) (total : Read Parameters) (so_far : after parameter_and items (read_items text r (count - i) rest) ≡ total) where
  pub items-run-out : count ≤ i → total ≡ None
  unfolding read_items
  items-run-out le = runs_out parameter_and (read_items text r) items count i rest total so_far (λ place. refl) le

  module _ (lt : i < count) where
    pub items-end : stands RightParenthesis rest ≡ true → total ≡ Some (parameters_syntax items, rest)
    unfolding read_items
    items-end e =
        ends parameter_and (read_items text r) items count i rest total so_far lt no_parameter rest (λ n. rw e refl) ∙ ap (λ (ps : Parameters). Some (ps, rest)) (all_parameters items)

    module _ (no_end : stands RightParenthesis rest ≡ false) where
      pub items-fail : (e : Stop) → Stops e (read_item text r rest) → Stops e total
      unfolding read_items
      items-fail e h =
          fails_too e (read_item text r rest) total h (λ none. fails parameter_and (read_items text r) items count i rest total so_far lt (λ n. rw (no_end, none) refl))

      module _ (x : Param) (next : Cursor) (read : read_item text r rest ≡ Some (parameter_and x, next)) where
        pub items-last : stands Comma next ≡ false → total ≡ Some (parameters_syntax (items ++ x ∷ []), next)
        unfolding read_items
        items-last no_comma =
            ends parameter_and (read_items text r) items count i rest total so_far lt (parameter_and x no_parameter) next (λ n. rw (no_end, read, no_comma) refl) ∙ ap (λ (ps : Parameters). Some (ps, next)) (with_last items x)

        pub items-more : stands Comma next ≡ true → after parameter_and (items ++ x ∷ []) (read_items text r (count - (i + 1)) (behind next)) ≡ total
        unfolding read_items
        items-more comma =
            goes_on parameter_and (read_items text r) items count i rest total so_far lt x (behind next) (λ n. rw (no_end, read, comma) refl)
