use Rattle.std.proofs.Common.{get_or, sym, ap, ◌∙◌, subst, refl}
use Rattle.std.specs.Str.{IsCharBoundary}
use Rattle.std.proofs.lemmas.Bool.{ne_eqb}
use Rattle.lexer.specs.declared.pieces.Piece.{Piece}
use Rattle.lexer.specs.Cut.{IsLongest}
use Rattle.lexer.specs.Pieces.{starts_number}
use Rattle.lexer.specs.Dispatch.{operator_of}
use Rattle.lexer.proofs.Longest.{IsNumberSize, number_longest}
use Rattle.lexer.proofs.Literals.{newline_piece, quote_group}
use Rattle.lexer.proofs.Spelled.{Quotes}
use Rattle.lexer.proofs.Starts.{Good, plain_good, plain_bounded, comment_good, rest_good, no_slash_in}
use Rattle.lexer.proofs.any_text.other_piece.Goals as goal
use Rattle.lexer.proofs.any_text.other_piece.Goals.{After-operator, After-quoted, After-comment}

pub returns-then-starts_number-clause-some : goal.returns-then-starts_number-clause-some
returns-then-starts_number-clause-some c =
    let text = c.args.text.now in
    let size = c.number_size.result in
    let w : IsNumberSize text size = record {
      starts = ap (starts_number (get_or text 0 0)) (sym c.byte_at-second.ensures) ∙ (sym c.starts_number.ensures ∙ c.if-starts_number.true);
      positive = c.number_size.ensures.nonempty;
      in_range = c.number_size.ensures.in_range;
      number = c.number_size.ensures.number;
      stops = c.number_size.ensures.stops;
    } in
    let P : Piece → Type 0 = λ p. IsLongest p text × IsCharBoundary text p.size in
    subst P (sym c.token_piece.ensures) (plain_bounded text _ c.requires.utf8 (number_longest text size w) refl)

pub returns-then-first-eq10-clause-some : goal.returns-then-first-eq10-clause-some
returns-then-first-eq10-clause-some c =
    plain_bounded c.args.text.now _ c.requires.utf8 (newline_piece c.args.text.now c.requires.nonempty c.if-first-eq10.true) refl

quote_good : (c : After-quoted) → Good c.args.text.now c.quoted.result
quote_good c =
    let text = c.args.text.now in
    let group = quote_group (get_or text 0 0) (sym c.is_quote.ensures ∙ c.if-is_quote.true) in
    plain_good text c.quoted.result c.requires.utf8 (no_slash_in text Quotes group (λ e. cc)) c.quoted.ensures.some c.quoted.ensures.none

pub returns-then-is_quote-clause-some : goal.returns-then-is_quote-clause-some
returns-then-is_quote-clause-some c = (quote_good c).0

pub returns-then-is_quote-clause-none : goal.returns-then-is_quote-clause-none
returns-then-is_quote-clause-none c = (quote_good c).1

pub returns-then-opens_comment-clause-some : goal.returns-then-opens_comment-clause-some
returns-then-opens_comment-clause-some c =
    (comment_good c.args.text.now c.comment.result c.requires.utf8 c.comment.ensures.some c.comment.ensures.none c.comment.ensures.boundary).0

operator_good : (c : After-operator) → Good c.args.text.now c.operator.result
operator_good c =
    let text = c.args.text.now in
    let found = c.operator.ensures ∙ (ap (λ b. operator_of (get_or text 0 0) b c.byte_at.result) c.byte_at-second.ensures ∙ ap (operator_of (get_or text 0 0) (get_or text 1 0)) c.byte_at.ensures) in
    rest_good text c.requires.nonempty c.requires.utf8 c.requires.no_word
    (ap (starts_number (get_or text 0 0)) (sym c.byte_at-second.ensures) ∙ (sym c.starts_number.ensures ∙ c.if-starts_number.false))
    c.requires.no_space
    (ne_eqb _ _ c.if-first-eq10.false)
    (sym c.is_quote.ensures ∙ c.if-is_quote.false)
    (sym c.opens_comment.ensures ∙ c.if-opens_comment.false)
    c.operator.result found

pub returns-clause-some : goal.returns-clause-some
returns-clause-some c = (operator_good c).0

pub returns-clause-none : goal.returns-clause-none
returns-clause-none c = (operator_good c).1
