use Rattle.std.proofs.Common.{sym}
use Rattle.tree.specs.View.{expression_syntax}
use Rattle.tree.proofs.Views.{statement_form-If}
use Rattle.meaning.specs.Mentions.{guard_marks}
use Rattle.mentions.proofs.Adding.{adds_nothing, adds_same, same_adds}
use Rattle.marks.proofs.FoundOut.{other_if}
use Rattle.marks.proofs.WalkLists.{block_braces-out}
use Rattle.marks.proofs.by_edition.guard_behind.Goals as goal

pub returns-in-Some : goal.returns-in-Some
returns-in-Some c = rw (c.in-If.is, statement_form-If, c.in-Some.is) (adds_nothing _)

pub returns-in-None : goal.returns-in-None
returns-in-None c =
    rw (c.in-If.is, statement_form-If, c.in-None.is)
    (same_adds _ _ _ _ _
    (λ i. guard_marks (c.row_in.ensures i) (expression_syntax (c.deref.ensures i)) (sym (block_braces-out c.in-If.body) i))
    c.guard_marks.ensures)

pub returns-in_default : goal.returns-in_default
returns-in_default c =
    adds_same _ _ _ _
    (other_if _ c.args.next.now.kind c.args.next.now.span _ (λ init semicolon e b other is. c.in_default.not-If _ _ _ _ _ is))
    (adds_nothing _)
