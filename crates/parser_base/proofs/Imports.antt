-- Imports, and those that are not read.
use Rattle.std.proofs.Common.{◌≡◌, ℕ, suc, ◌+◌, ◌-◌, ◌<◌, ◌≤◌, true, false, List, [], ◌∷◌, ◌++◌, map, Some, None, refl, sym, ap, ◌∙◌, arith}
use Rattle.lexer.specs.Spelling.{same_kind}
use Rattle.lexer.specs.declared.token.Token.{Token}
use Rattle.lexer.specs.declared.token.TokenKind.TheVariants.{Dot, RightParenthesis}
use Rattle.meaning.specs.Cursor.{Cursor, GoText}
use Rattle.tree.specs.declared.file.ImportSpec.{ImportSpec as KeptImport}
use Rattle.tree.specs.Syntax.{ImportSpec}
use Rattle.tree.specs.View.{import_spec_syntax}
use Rattle.tree_reader.specs.Reader.{is_second, read_import_name, read_import_spec, read_import_specs}
use Rattle.tree_reader.specs.Reading.{Read, stands, steps, take_semicolon, read_optional_identifier}
use Rattle.tree_reader.proofs.Steps.{same_kind_is}
use Rattle.parser_base.specs.declared.fault.Stop.{Stop}
use Rattle.parser_base.specs.Gives.{Stops}
use Rattle.parser_base.proofs.Faults.{fails_too}
use Rattle.parser_base.proofs.Rounds.{after_front, after_front-nil, after_front-push, after_front-end, with_more}

dot-first : (text : GoText) → is_second text.edition ≡ false → (t : Token) (rest : List Token) (end : ℕ) → t.kind ≡ Dot → read_import_spec text (record { left = t ∷ rest; end = end }) ≡ None
unfolding read_import_spec read_import_name read_optional_identifier stands same_kind
dot-first text first t rest end e = rw (first, e) refl

dot-from : (text : GoText) → is_second text.edition ≡ false → (tokens : List Token) (end : ℕ) → stands Dot (record { left = tokens; end = end }) ≡ true → read_import_spec text (record { left = tokens; end = end }) ≡ None
unfolding stands
dot-from text first [] end e = absurd cc
dot-from text first (t ∷ rest) end e = dot-first text first t rest end (same_kind_is t.kind Dot e)

-- the first edition has no dot
pub dot-import : (text : GoText) (place : Cursor) → is_second text.edition ≡ false → stands Dot place ≡ true → read_import_spec text place ≡ None
dot-import text place first e = dot-from text first place.left place.end e

-- imports up to a closing bracket, as a loop reads them
module _ (text : GoText) (front : List KeptImport) (count i : ℕ) (rest : Cursor) (total : Read (List ImportSpec)) (so_far : after_front (map import_spec_syntax front) (read_import_specs text (count - i) rest) ≡ total) where
  pub imports-run-out : count ≤ i → total ≡ None
  unfolding read_import_specs
  imports-run-out le =
      let k : count - i ≡ 0 = omega arith in
      sym so_far ∙ ap (λ (n : ℕ). after_front (map import_spec_syntax front) (read_import_specs text n rest)) k

  module _ (lt : i < count) where
    one_round : total ≡ after_front (map import_spec_syntax front) (read_import_specs text (suc (count - (i + 1))) rest)
    one_round =
        let k : count - i ≡ suc (count - (i + 1)) = omega arith in
        sym so_far ∙ ap (λ (n : ℕ). after_front (map import_spec_syntax front) (read_import_specs text n rest)) k

    pub imports-end : stands RightParenthesis rest ≡ true → total ≡ Some (map import_spec_syntax front, rest)
    unfolding read_import_specs
    imports-end e = one_round ∙ rw e (after_front-end (map import_spec_syntax front) rest)

    module _ (no_end : stands RightParenthesis rest ≡ false) where
      pub import-fails : (e : Stop) → Stops e (read_import_spec text rest) → Stops e total
      unfolding read_import_specs
      import-fails e h = fails_too e (read_import_spec text rest) total h (λ none. one_round ∙ rw (no_end, none) refl)

      module _ (x : KeptImport) (end : Cursor) (read : read_import_spec text rest ≡ Some (import_spec_syntax x, end)) where
        pub semicolon-fails : (e : Stop) → Stops e (take_semicolon end) → Stops e total
        unfolding read_import_specs
        semicolon-fails e h = fails_too e (take_semicolon end) total h (λ none. one_round ∙ rw (no_end, read, none) refl)

        pub imports-go-on : (after : Cursor) → take_semicolon end ≡ Some after → after_front (map import_spec_syntax (front ++ x ∷ [])) (read_import_specs text (count - (i + 1)) after) ≡ total
        unfolding read_import_specs
        imports-go-on after taken =
            sym (one_round ∙ rw (no_end, read, taken) (ap (after_front (map import_spec_syntax front)) (with_more (import_spec_syntax x) (read_import_specs text (count - (i + 1)) after)) ∙ after_front-push import_spec_syntax front x (read_import_specs text (count - (i + 1)) after)))

pub imports-start : (text : GoText) (place : Cursor) (count : ℕ) → count ≡ steps place → after_front [] (read_import_specs text (count - 0) place) ≡ read_import_specs text (steps place) place
imports-start text place count same =
    let k : count - 0 ≡ steps place = omega (arith, same) in
    ap (λ (n : ℕ). after_front [] (read_import_specs text n place)) k ∙ after_front-nil (read_import_specs text (steps place) place)
