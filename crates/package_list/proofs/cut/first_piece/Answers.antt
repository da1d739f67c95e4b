use Rattle.package_list.proofs.Cuts.{cut_there, none_of, some_there}
use Rattle.package_list.proofs.cut.first_piece.Goals as goal

pub returns-then-is_empty-clause-none : goal.returns-then-is_empty-clause-none
returns-then-is_empty-clause-none c =
    none_of c.args.bytes.now c.after_blanks-text.result.now c.after_blanks-text.ensures.value c.if-is_empty.ensures

pub returns-clause-some : goal.returns-clause-some
returns-clause-some c =
    let text = c.after_blanks-text.result.now in
    cut_there c.args.bytes.now text _ _ c.piece_size.result c.after_blanks-text.ensures.value
    (some_there text c.if-is_empty.ensures) c.piece_size.ensures.value c.split_at.ensures.front c.split_at.ensures.back
