use Rattle.std.proofs.Common.{Option, IfNone, sym, ap, ◌∙◌, subst}
use Rattle.std.specs.Prelude.{IsTrue}
use Rattle.lexer.specs.Cut.{CanBegin, IsLongest, is_comment}
use Rattle.lexer.specs.Dispatch.{token_piece}
use Rattle.lexer.specs.declared.pieces.Piece.{Piece}
use Rattle.lexer.proofs.Literals.{quoted_piece, no_quoted}
use Rattle.lexer.proofs.quotes.quoted.Goals as goal

pub returns-in_err-size-clause-none : goal.returns-in_err-size-clause-none
returns-in_err-size-clause-none c =
    let text = c.args.text.now in
    let P : Option Piece → Type 0 = λ r. IfNone r ((p : Piece) → CanBegin p text → IsTrue (is_comment p.kind)) in
    subst P (sym c.from_residual.ensures) (λ q h. absurd (no_quoted text c.requires.nonempty c.requires.quote (sym c.in_err-size.ensures) q h))

pub returns-clause-some : goal.returns-clause-some
returns-clause-some c =
    let text = c.args.text.now in
    let e = c.token_piece.ensures ∙ ap (λ k. token_piece k c.in_ok-size.size) c.quote_kind.ensures in (
      subst (λ p. IsLongest p text) (sym e) (quoted_piece text c.in_ok-size.size c.requires.nonempty c.requires.quote (sym c.in_ok-size.ensures)),
      ap (λ (p : Piece). is_comment p.kind) e,
    )
