use Rattle.std.proofs.Common.{sym, ◌∙◌, arith}
use Rattle.std.proofs.lemmas.Bool.{cond-true, cond-false}
use Rattle.lexer.proofs.CommentSizes.{comment_end_more, comment_end_none}
use Rattle.lexer.proofs.comments.general_comment_size.Goals as goal

pub returns-then-ends_comment : goal.returns-then-ends_comment
returns-then-ends_comment c =
    let more = comment_end_more c.loop-size.size c.args.text.now c.loop-size-test.true in
    sym (cond-true _ _ _ (sym c.ends_comment.ensures ∙ c.if-ends_comment.true)) ∙ (sym more ∙ c.loop-size.invariant.to_come)

pub loop-size-preserved : goal.loop-size-preserved
loop-size-preserved c =
    let more = comment_end_more c.loop-size.size c.args.text.now c.loop-size-test.true in
    record {
      in_range = omega arith;
      to_come = sym (cond-false _ _ _ (sym c.ends_comment.ensures ∙ c.if-ends_comment.false)) ∙ (sym more ∙ c.loop-size.invariant.to_come);
    }

pub returns : goal.returns
returns c =
    sym (comment_end_none c.loop-size.size c.args.text.now c.loop-size-test.false) ∙ c.loop-size.invariant.to_come
