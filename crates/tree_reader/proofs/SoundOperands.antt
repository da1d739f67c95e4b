-- The operands that the reader reads are spelled by their tokens, and no deeper than they may be.
use Rattle.std.proofs.Common.{◌≡◌, ℕ, suc, ◌≤◌, true, false, inl, inr, refl, sym, ◌∙◌, List, arith}
use Rattle.std.specs.Prelude.{Some}
use Rattle.std.proofs.lemmas.Option.{option_and_then_some}
use Rattle.std.proofs.lemmas.Bool.{leb-true}
use Rattle.lexer.specs.declared.token.TokenKind.TheVariants.{Identifier as identifier_kind, FuncKeyword, LeftParenthesis, RightParenthesis, LeftBrace}
use Rattle.tree.specs.Syntax.{Expression, name_expression, basic_literal, function_literal, composite_literal, parenthesized, function_type}
use Rattle.tree.specs.Depth.{expression_depth}
use Rattle.meaning.specs.Cursor.{GoText, Cursor}
use Rattle.meaning.specs.WellFormed.{IsPrimary, has_bare_literal}
use Rattle.meaning.specs.Grammar.{as_type, as_expression, SpellsExpression, SpellsForm}
use Rattle.tree_reader.specs.Reading.{stands, behind, take, spanned, word_between}
use Rattle.tree_reader.specs.Reader.{of_next, literal_kind, Readers, read_any, read_signature, read_block, read_braced_elements, read_literal_type, read_function, read_typed, read_operand}
use Rattle.tree_reader.specs.Claims.{AreSound}
use Rattle.tree_reader.proofs.Steps.{given, two_ways, only_where_some, option_ways, stands-sound, take-sound}
use Rattle.tree_reader.proofs.Tables.{literal_kind-sound}
use Rattle.tree_reader.proofs.SoundLists.{read_braced_elements-sound}
use Rattle.tree_reader.proofs.SoundBlocks.{read_block-sound}
use Rattle.tree_reader.proofs.SoundSignatures.{read_signature-sound}
use Rattle.tree_reader.proofs.SoundTypes.{stands-left_brace, read_literal_type-sound, name-sound}

module _ (text : GoText) (r : Readers) (below : ℕ) (sound : AreSound text below r) where
  pub record ReadsOperand (from : Cursor) (x : Expression × Cursor) : Type 0 where
    pub spelled : SpellsExpression text as_expression x.0 from x.1
    pub plain : has_bare_literal x.0 ≡ false
    pub primary : IsPrimary x.0
    pub shallow : expression_depth x.0 ≤ suc below

  read_function-sound : (from : Cursor) (x : Expression × Cursor)
      → stands FuncKeyword from ≡ true
      → read_function text r below from ≡ Some x
      → ReadsOperand from x
  unfolding read_function SpellsExpression SpellsForm expression_depth has_bare_literal
  read_function-sound from x word e =
      option_and_then_some _ (read_signature text r (behind from)) x e λ s s-read s-then.
      let h = read_signature-sound text r below sound (behind from) s s-read in
      let func = stands-sound FuncKeyword from word in
      let a = h.1 in
      elim (two_ways (stands LeftBrace s.1) _ _ (Some x) s-then) [
        | inl c ↦ option_and_then_some _ (read_block text r s.1) x c.1 λ body body-read body-then.
            let k = read_block-sound text r below sound s.1 body body-read in
            let b = k.1 in
            let form = function_literal s.0 body.0.statements body.0.braces in
            given (ReadsOperand from) (spanned from form body.1) x body-then record {
              spelled = ((tt, (_, func, (_, h.0, k.0))), refl, refl);
              plain = refl;
              primary = refl;
              shallow = omega arith;
            }
        | inr c ↦ given (ReadsOperand from) (spanned from (function_type s.0) s.1) x c.1 record {
          spelled = ((_, func, (_, h.0, (refl, sym (stands-left_brace s.1) ∙ c.0))), refl, refl);
          plain = refl;
          primary = refl;
          shallow = omega arith;
        }
      ]

  read_typed-sound : (from : Cursor) (x : Expression × Cursor)
      → read_typed text r below from ≡ Some x
      → ReadsOperand from x
  unfolding read_typed SpellsExpression SpellsForm expression_depth has_bare_literal
  read_typed-sound from x e =
      option_and_then_some _ (read_literal_type text r from) x e λ t t-read t-then.
      let h = read_literal_type-sound text r below sound from t t-read in
      elim (two_ways (stands LeftBrace t.1) _ _ (Some x) t-then) [
        | inl c ↦ option_and_then_some _ (read_braced_elements text r t.1) x c.1 λ es es-read es-then.
            let k = read_braced_elements-sound text r below sound t.1 es es-read in
            let fits = only_where_some _ _ x es-then in
            let a = leb-true (expression_depth t.0) below fits.0 in
            let b = k.1 in
            given (ReadsOperand from) (spanned from (composite_literal t.0 es.0) es.1) x fits.1 record {
              spelled = ((tt, (h.takes, (_, h.spelled as_type refl, k.0))), refl, refl);
              plain = h.bare;
              primary = refl;
              shallow = omega arith;
            }
        | inr c ↦ given (ReadsOperand from) t x c.1 record {
          spelled = h.spelled as_expression (refl, sym (stands-left_brace t.1) ∙ c.0);
          plain = h.plain;
          primary = h.primary;
          shallow = h.shallow;
        }
      ]

  pub read_operand-sound : (from : Cursor) (x : Expression × Cursor)
      → read_operand text r below from ≡ Some x
      → ReadsOperand from x
  unfolding read_operand SpellsExpression SpellsForm expression_depth has_bare_literal
  read_operand-sound from x e =
      elim (two_ways (stands identifier_kind from) _ _ (Some x) e) [
        | inl c ↦ let form = name_expression (word_between text from (behind from)) in
            given (ReadsOperand from) (spanned from form (behind from)) x c.1 record {
              spelled = name-sound text r below sound from c.0;
              plain = refl;
              primary = refl;
              shallow = omega arith;
            }
        | inr c ↦ elim (two_ways (stands LeftParenthesis from) _ _ (Some x) c.1) [
          | inl c ↦ option_and_then_some _ (read_any text r (behind from)) x c.1 λ v v-read v-then.
              option_and_then_some _ (take RightParenthesis v.1) x v-then λ end end-read end-then.
              let h = sound.expression false 1 (behind from) v.1 v.0 v-read in
              let left = stands-sound LeftParenthesis from c.0 in
              let right = take-sound RightParenthesis v.1 end end-read in
              let a = h.3 in
              given (ReadsOperand from) (spanned from (parenthesized v.0) end) x end-then record {
                spelled = ((_, left, (_, h.0, right)), refl, refl);
                plain = refl;
                primary = refl;
                shallow = omega arith;
              }
          | inr c ↦ elim (two_ways (stands FuncKeyword from) _ _ (Some x) c.1) [
            | inl c ↦ read_function-sound from x c.0 c.1
            | inr c ↦ elim (option_ways _ _ (of_next literal_kind from) (Some x) c.1) [
              | inl c ↦ read_typed-sound from x c.1
              | inr c ↦ given (ReadsOperand from) (spanned from (basic_literal c.0) (behind from)) x c.2 record {
                spelled = ((tt, literal_kind-sound from c.0 c.1), refl, refl);
                plain = refl;
                primary = refl;
                shallow = omega arith;
              }
            ]
          ]
        ]
      ]
