-- Lines of struct and interface types.
use Rattle.std.proofs.Common.{◌≡◌, ℕ, ◌-◌, ◌+◌, ◌<◌, ◌≤◌, true, false, List, [], ◌∷◌, ◌++◌, Some, None, refl, ap, ◌∙◌}
use Rattle.lexer.specs.declared.token.TokenKind.TheVariants.{RightBrace}
use Rattle.tree.specs.declared.expression.Field.{Field}
use Rattle.tree.specs.Syntax.{Fields, no_field}
use Rattle.tree.specs.View.{field_and, fields_syntax}
use Rattle.meaning.specs.Cursor.{Cursor, GoText}
use Rattle.meaning.specs.Grammar.{Owner}
use Rattle.tree_reader.specs.Reader.{Readers, read_field, read_fields}
use Rattle.tree_reader.specs.Reading.{Read, stands, take_semicolon}
use Rattle.parser_base.proofs.Growing.{prepend, prepend-all, after, runs_out, ends, fails, goes_on}
use Rattle.parser_base.proofs.Faults.{fails_too}
use Rattle.parser_base.specs.declared.fault.Stop.{Stop}
use Rattle.parser_base.specs.Gives.{Stops}

pub all_fields : (fs : List Field) → prepend field_and fs no_field ≡ fields_syntax fs
all_fields fs = prepend-all field_and no_field fields_syntax refl (λ x xs. refl) fs

module _ (text : GoText) (r : Readers) (owner : Owner) where
  -- in a round, after those lines, of so many rounds
  module _ (items : List Field) (count i : ℕ) (rest : Cursor) (total : Read Fields) (so_far : after field_and items (read_fields text r owner (count - i) rest) ≡ total) where
    pub fields-run-out : count ≤ i → total ≡ None
    unfolding read_fields
    fields-run-out le =
        runs_out field_and (read_fields text r owner) items count i rest total so_far (λ place. refl) le

    module _ (lt : i < count) where
      pub fields-end : stands RightBrace rest ≡ true → total ≡ Some (fields_syntax items, rest)
      unfolding read_fields
      fields-end e =
          ends field_and (read_fields text r owner) items count i rest total so_far lt no_field rest (λ n. rw e refl) ∙ ap (λ (fs : Fields). Some (fs, rest)) (all_fields items)

      module _ (brace : stands RightBrace rest ≡ false) where
        pub fields-fail : (e : Stop) → Stops e (read_field text r owner rest) → Stops e total
        unfolding read_fields
        fields-fail e h =
            fails_too e (read_field text r owner rest) total h (λ none. fails field_and (read_fields text r owner) items count i rest total so_far lt (λ n. rw (brace, none) refl))

        module _ (x : Field) (next : Cursor) (read : read_field text r owner rest ≡ Some (field_and x, next)) where
          pub fields-not-ended : (e : Stop) → Stops e (take_semicolon next) → Stops e total
          unfolding read_fields
          fields-not-ended e h =
              fails_too e (take_semicolon next) total h (λ none. fails field_and (read_fields text r owner) items count i rest total so_far lt (λ n. rw (brace, read, none) refl))

          pub fields-more : (end : Cursor) → take_semicolon next ≡ Some end → after field_and (items ++ x ∷ []) (read_fields text r owner (count - (i + 1)) end) ≡ total
          unfolding read_fields
          fields-more end semicolon =
              goes_on field_and (read_fields text r owner) items count i rest total so_far lt x end (λ n. rw (brace, read, semicolon) refl)
