use Rattle.std.proofs.Common.{◌≡◌, ◌≤◌, List, ℕ, true, length, take, get_or, sym, ap, ◌∙◌, subst, refl, arith}
use Rattle.std.specs.Prelude.{IfSome, IfNone}
use Rattle.std.specs.Str.{IsCharBoundary}
use Rattle.lexer.specs.declared.pieces.Piece.{Piece}
use Rattle.lexer.specs.Cut.{CanBegin, IsLongest}
use Rattle.lexer.specs.Dispatch.{token_piece, keyword_of}
use Rattle.lexer.specs.Pieces.{IsWord, is_white_space}
use Rattle.lexer.proofs.Literals.{space_piece}
use Rattle.lexer.proofs.Starts.{word_piece, no_word_from, plain_bounded, AtMost}
use Rattle.lexer.proofs.any_text.first_piece.Goals as goal

pub returns-then-is_white_space-clause-some : goal.returns-then-is_white_space-clause-some
returns-then-is_white_space-clause-some c =
    let text = c.args.text.now in
    let space : is_white_space (get_or text 0 0) ≡ true =
    ap (λ t. is_white_space (get_or t 0 0)) (sym c.as_bytes-bytes.ensures.value) ∙ (sym c.is_white_space.ensures ∙ c.if-is_white_space.true) in
    plain_bounded text _ c.utf8.text (space_piece text c.requires.nonempty space) refl

pub other_piece-requires-clause-no_space : goal.other_piece-requires-clause-no_space
other_piece-requires-clause-no_space c = sym c.is_white_space.ensures ∙ c.if-is_white_space.false

pub returns-then-size-gt0-clause-some : goal.returns-then-size-gt0-clause-some
returns-then-size-gt0-clause-some c =
    let text = c.args.text.now in
    let n = c.word_size-size.result in
    let words = c.word_size-size.ensures in
    let e = c.token_piece.ensures ∙ ap (λ k. token_piece k n) (c.word_kind.ensures ∙ ap (λ t. keyword_of (take n t)) c.as_bytes-bytes.ensures.value) in
    let P : Piece → Type 0 = λ p. IsLongest p text × IsCharBoundary text p.size in
    subst P (sym e) (word_piece text n c.utf8.text c.if-size-gt0.true words.in_range (words.word c.if-size-gt0.true) words.longest)

pub other_piece-requires-clause-no_word : goal.other_piece-requires-clause-no_word
other_piece-requires-clause-no_word c =
    let text = c.args.text.now in
    let n = c.word_size-size.result in
    let none = c.if-size-gt0.false in
    let zero_n : n ≡ 0 = omega arith in
    let most : AtMost text 0 = subst (AtMost text) zero_n c.word_size-size.ensures.longest in
    subst (λ (t : List ℕ). (m : ℕ) → m ≤ length t → IsWord (take m t) → ⊥) (sym c.as_bytes-bytes.ensures.value) (no_word_from text most)

pub returns-clause-some : goal.returns-clause-some
returns-clause-some c =
    subst (λ (t : List ℕ). IfSome c.other_piece.result (λ p. IsLongest p t × IsCharBoundary t p.size)) c.as_bytes-bytes.ensures.value c.other_piece.ensures.some

pub returns-clause-none : goal.returns-clause-none
returns-clause-none c =
    subst (λ (t : List ℕ). IfNone c.other_piece.result ((p : Piece) → CanBegin p t → ⊥)) c.as_bytes-bytes.ensures.value c.other_piece.ensures.none
