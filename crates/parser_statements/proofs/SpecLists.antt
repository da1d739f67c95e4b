-- Lists of what a declaration declares.
use Rattle.std.proofs.Common.{◌≡◌, ℕ, ◌-◌, ◌+◌, ◌<◌, ◌≤◌, true, false, List, [], ◌∷◌, ◌++◌, Some, None, refl, ap, ◌∙◌}
use Rattle.lexer.specs.declared.token.TokenKind.TheVariants.{RightParenthesis}
use Rattle.tree.specs.declared.declaration.Spec.{Spec}
use Rattle.tree.specs.declared.operator.DeclKeyword.{DeclKeyword}
use Rattle.tree.specs.Syntax.{Specs, no_spec}
use Rattle.tree.specs.View.{spec_and, specs_syntax}
use Rattle.meaning.specs.Cursor.{Cursor, GoText}
use Rattle.tree_reader.specs.Reader.{Readers, read_spec, read_specs}
use Rattle.tree_reader.specs.Reading.{Read, stands, take_semicolon}
use Rattle.parser_base.proofs.Growing.{prepend, prepend-all, after, runs_out, ends, fails, goes_on}
use Rattle.parser_base.proofs.Faults.{fails_too}
use Rattle.parser_base.specs.declared.fault.Stop.{Stop}
use Rattle.parser_base.specs.Gives.{Stops}

all_specs : (specs : List Spec) → prepend spec_and specs no_spec ≡ specs_syntax specs
all_specs specs = prepend-all spec_and no_spec specs_syntax refl (λ x xs. refl) specs

-- in a round, after those lines, of so many rounds
module _ (text : GoText) (r : Readers) (keyword : DeclKeyword) (items : List Spec) (count i : ℕ) (rest : Cursor) (total : Read Specs) (so_far : after spec_and items (read_specs text r keyword (count - i) rest) ≡ total) where
  pub specs-run-out : count ≤ i → total ≡ None
  unfolding read_specs
  specs-run-out le = runs_out spec_and (read_specs text r keyword) items count i rest total so_far (λ place. refl) le

  module _ (lt : i < count) where
    pub specs-end : stands RightParenthesis rest ≡ true → total ≡ Some (specs_syntax items, rest)
    unfolding read_specs
    specs-end e =
        ends spec_and (read_specs text r keyword) items count i rest total so_far lt no_spec rest (λ n. rw e refl) ∙ ap (λ (specs : Specs). Some (specs, rest)) (all_specs items)

    module _ (no_end : stands RightParenthesis rest ≡ false) where
      pub specs-fail : (e : Stop) → Stops e (read_spec text r keyword rest) → Stops e total
      unfolding read_specs
      specs-fail e h =
          fails_too e (read_spec text r keyword rest) total h (λ none. fails spec_and (read_specs text r keyword) items count i rest total so_far lt (λ n. rw (no_end, none) refl))

      module _ (x : Spec) (next : Cursor) (read : read_spec text r keyword rest ≡ Some (spec_and x, next)) where
        pub specs-stop : (e : Stop) → Stops e (take_semicolon next) → Stops e total
        unfolding read_specs
        specs-stop e h =
            fails_too e (take_semicolon next) total h (λ none. fails spec_and (read_specs text r keyword) items count i rest total so_far lt (λ n. rw (no_end, read, none) refl))

        pub specs-more : (end : Cursor) → take_semicolon next ≡ Some end → after spec_and (items ++ x ∷ []) (read_specs text r keyword (count - (i + 1)) end) ≡ total
        unfolding read_specs
        specs-more end taken =
            goes_on spec_and (read_specs text r keyword) items count i rest total so_far lt x end (λ n. rw (no_end, read, taken) refl)
