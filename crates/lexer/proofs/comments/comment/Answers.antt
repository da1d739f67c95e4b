use Rattle.std.proofs.Common.{◌≡◌, ◌≤◌, ◌<◌, true, false, length, take, Option, refl, sym, ◌∙◌, subst, arith, ⊎_elim, length-take-le}
use Rattle.std.specs.Prelude.{IfNone}
use Rattle.std.specs.Str.{IsCharBoundary}
use Rattle.std.proofs.lemmas.Bool.{cases_lt}
use Rattle.std.proofs.lemmas.Str.{IsCharBoundary-before_ascii, IsCharBoundary-end}
use Rattle.lexer.specs.Cut.{CanBegin}
use Rattle.lexer.specs.Pieces.{has_newline}
use Rattle.lexer.specs.declared.pieces.Piece.{Piece}
use Rattle.lexer.proofs.CommentSizes.{line_longest, general_longest, no_general, second_star}
use Rattle.lexer.proofs.comments.comment.Goals as goal

pub returns-then-text-eq47-clause-some : goal.returns-then-text-eq47-clause-some
returns-then-text-eq47-clause-some c =
    line_longest c.args.text.now c.line_comment_size.result c.requires.opens c.if-text-eq47.true c.line_comment_size.ensures.in_range.0 c.line_comment_size.ensures.in_range.1 c.line_comment_size.ensures.one_line c.line_comment_size.ensures.stops

pub returns-then-text-eq47-clause-boundary : goal.returns-then-text-eq47-clause-boundary
returns-then-text-eq47-clause-boundary c =
    let text = c.args.text.now in
    let n = c.line_comment_size.result in
    let range = c.line_comment_size.ensures.in_range.1 in
    λ _. ⊎_elim
    (λ (inside : n < length text). IsCharBoundary-before_ascii text n inside (subst (λ b. b < 128) (sym (c.line_comment_size.ensures.stops inside)) (omega arith)))
    (λ (past : length text ≤ n). let all : length text ≡ n = omega arith in subst (IsCharBoundary text) all (IsCharBoundary-end text))
    (cases_lt n (length text))

pub returns-in_err-size-clause-none : goal.returns-in_err-size-clause-none
returns-in_err-size-clause-none c =
    let text = c.args.text.now in
    let star = second_star text c.requires.opens c.if-text-eq47.false in
    let P : Option Piece → Type 0 = λ r. IfNone r ((p : Piece) → CanBegin p text → ⊥) in
    subst P (sym c.from_residual.ensures) (no_general text c.requires.size c.requires.opens star (sym c.in_err-size.ensures))

pub slice_bounds-has_newline-end : goal.slice_bounds-has_newline-end
slice_bounds-has_newline-end c =
    let text = c.args.text.now in
    let n = c.in_ok-size.size in
    let star = second_star text c.requires.opens c.if-text-eq47.false in
    let longest = general_longest text n (has_newline (take n text)) c.requires.size c.requires.opens star (sym c.in_ok-size.ensures) refl in
    sym (length-take-le n text longest.begins.within)

pub returns-then-has_newline-clause-some : goal.returns-then-has_newline-clause-some
returns-then-has_newline-clause-some c =
    let text = c.args.text.now in
    let star = second_star text c.requires.opens c.if-text-eq47.false in
    general_longest text c.in_ok-size.size true c.requires.size c.requires.opens star (sym c.in_ok-size.ensures) (sym c.has_newline.ensures ∙ c.if-has_newline.true)

pub returns-else-has_newline-clause-some : goal.returns-else-has_newline-clause-some
returns-else-has_newline-clause-some c =
    let text = c.args.text.now in
    let star = second_star text c.requires.opens c.if-text-eq47.false in
    general_longest text c.in_ok-size.size false c.requires.size c.requires.opens star (sym c.in_ok-size.ensures) (sym c.has_newline.ensures ∙ c.if-has_newline.false)
