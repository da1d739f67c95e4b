use Rattle.std.proofs.Common.{refl, ap, true}
use Rattle.tree.specs.declared.edition.Edition.TheVariants.{Second}
use Rattle.tree.specs.View.{expression_syntax}
use Rattle.meaning.specs.Mentions.{expression_marks}
use Rattle.marks.proofs.OuterMarks.{told_by, told_marks}
use Rattle.marks.proofs.file.expression_marks.Goals as goal

pub returns : goal.returns
returns c =
    told_marks _ _ (told_by Second true) _ _ refl c.new.ensures.items
    (ap (λ s. expression_marks s (expression_syntax c.args.value.now)) c.part_of.ensures) c.in_ok-expression.ensures
