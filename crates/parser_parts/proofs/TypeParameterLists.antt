-- Lists of type parameters.
use Rattle.std.proofs.Common.{◌≡◌, ℕ, ◌-◌, ◌+◌, ◌<◌, ◌≤◌, true, false, List, [], ◌∷◌, ◌++◌, Some, None, refl, ap, ◌∙◌}
use Rattle.lexer.specs.declared.token.TokenKind.TheVariants.{Comma, RightBracket}
use Rattle.tree.specs.declared.expression.Param.{Param}
use Rattle.tree.specs.Syntax.{Parameters, no_parameter}
use Rattle.tree.specs.View.{parameter_and, parameters_syntax}
use Rattle.meaning.specs.Cursor.{Cursor, GoText}
use Rattle.tree_reader.specs.Reader.{Readers, read_type_parameter, read_type_items}
use Rattle.tree_reader.specs.Reading.{Read, stands, behind}
use Rattle.parser_base.proofs.Growing.{after, runs_out, ends, fails, goes_on}
use Rattle.parser_base.proofs.Faults.{fails_too}
use Rattle.parser_base.specs.declared.fault.Stop.{Stop}
use Rattle.parser_base.specs.Gives.{Stops}
use Rattle.parser_parts.proofs.ParameterLists.{all_parameters, with_last}

-- in a round, after those type parameters, of so many rounds
module _ (text : GoText) (r : Readers) (items : List Param) (count i : ℕ) (rest : Cursor) (total : Read Parameters) (so_far : after parameter_and items (read_type_items text r (count - i) rest) ≡ total) where
  pub type_items-run-out : count ≤ i → total ≡ None
  unfolding read_type_items
  type_items-run-out le = runs_out parameter_and (read_type_items text r) items count i rest total so_far (λ place. refl) le

  module _ (lt : i < count) where
    pub type_items-end : stands RightBracket rest ≡ true → total ≡ Some (parameters_syntax items, rest)
    unfolding read_type_items
    type_items-end e =
        ends parameter_and (read_type_items text r) items count i rest total so_far lt no_parameter rest (λ n. rw e refl) ∙ ap (λ (ps : Parameters). Some (ps, rest)) (all_parameters items)

    module _ (no_end : stands RightBracket rest ≡ false) where
      pub type_items-fail : (e : Stop) → Stops e (read_type_parameter text r rest) → Stops e total
      unfolding read_type_items
      type_items-fail e h =
          fails_too e (read_type_parameter text r rest) total h (λ none. fails parameter_and (read_type_items text r) items count i rest total so_far lt (λ n. rw (no_end, none) refl))

      module _ (x : Param) (next : Cursor) (read : read_type_parameter text r rest ≡ Some (parameter_and x, next)) where
        pub type_items-last : stands Comma next ≡ false → total ≡ Some (parameters_syntax (items ++ x ∷ []), next)
        unfolding read_type_items
        type_items-last no_comma =
            ends parameter_and (read_type_items text r) items count i rest total so_far lt (parameter_and x no_parameter) next (λ n. rw (no_end, read, no_comma) refl) ∙ ap (λ (ps : Parameters). Some (ps, next)) (with_last items x)

        pub type_items-more : stands Comma next ≡ true → after parameter_and (items ++ x ∷ []) (read_type_items text r (count - (i + 1)) (behind next)) ≡ total
        unfolding read_type_items
        type_items-more comma =
            goes_on parameter_and (read_type_items text r) items count i rest total so_far lt x (behind next) (λ n. rw (no_end, read, comma) refl)
