-- The statements of a block that the reader reads are spelled by their tokens, and no deeper than they may be.
use Rattle.std.proofs.Common.{◌≡◌, ℕ, zero, suc, ◌≤◌, List, inl, inr, refl, arith}
use Rattle.std.specs.Prelude.{Some}
use Rattle.std.proofs.lemmas.Option.{none-some, option_and_then_some}
use Rattle.lexer.specs.declared.token.TokenKind.TheVariants.{LeftBrace, RightBrace}
use Rattle.tree.specs.Syntax.{Statements, statement_and}
use Rattle.tree.specs.Depth.{statements_depth}
use Rattle.meaning.specs.Cursor.{GoText, Cursor, is_next}
use Rattle.meaning.specs.Grammar.{block, SpellsStatements}
use Rattle.tree_reader.specs.Reading.{skip_semicolons, steps}
use Rattle.tree_reader.specs.Reader.{ends_statements, Readers, Braced, read_statements, read_block}
use Rattle.tree_reader.specs.Claims.{AreSound}
use Rattle.tree_reader.proofs.Steps.{given, two_ways, take-sound, take_semicolon-sound, skip_semicolons-sound}

module _ (text : GoText) (r : Readers) (below : ℕ) (sound : AreSound text below r) where
  abbrev pub ReadsStatements : Cursor → Statements × Cursor → Type 0
  ReadsStatements from x = SpellsStatements text x.0 from x.1 × (statements_depth x.0 ≤ below)

  pub read_statements-sound : (n : ℕ) (from : Cursor) (x : Statements × Cursor)
      → read_statements text r n from ≡ Some x
      → ReadsStatements from x
  unfolding read_statements SpellsStatements statements_depth
  read_statements-sound zero from x e = absurd (none-some x e)
  read_statements-sound (suc n) from x e =
      let start = skip_semicolons from in
      let skipped = skip_semicolons-sound from in
      elim (two_ways (is_next ends_statements start) _ _ (Some x) e) [
        | inl c ↦ given (ReadsStatements from) _ x c.1 (skipped, omega arith)
        | inr c ↦ option_and_then_some _ _ x c.1 λ s s-read s-then.
            option_and_then_some _ _ x s-then λ end end-read end-then.
            option_and_then_some _ _ x end-then λ more more-read more-then.
            let h = sound.statement start s.1 s.0 s-read in
            let k = read_statements-sound n end more more-read in
            let a = h.2 in
            let b = k.1 in
            given (ReadsStatements from) (statement_and s.0 more.0, more.1) x more-then
            ((start, skipped, (s.1, (h.1, h.0), (end, take_semicolon-sound s.1 end end-read, k.0))), omega arith)
      ]

  abbrev pub ReadsBlock : Cursor → Braced × Cursor → Type 0
  ReadsBlock from x =
      block x.0.braces (SpellsStatements text x.0.statements) from x.1 × (statements_depth x.0.statements ≤ below)

  pub read_block-sound : (from : Cursor) (x : Braced × Cursor) → read_block text r from ≡ Some x → ReadsBlock from x
  unfolding read_block
  read_block-sound from x e =
      option_and_then_some _ _ x e λ inner inner-read inner-then.
      option_and_then_some _ _ x inner-then λ ss ss-read ss-then.
      option_and_then_some _ _ x ss-then λ end end-read end-then.
      let h = read_statements-sound (steps inner) inner ss ss-read in
      let left = take-sound LeftBrace from inner inner-read in
      let right = take-sound RightBrace ss.1 end end-read in
      given (ReadsBlock from) _ x end-then (((_, left, (_, h.0, right)), refl, refl), h.1)
