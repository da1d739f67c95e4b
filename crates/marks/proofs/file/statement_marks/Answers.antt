use Rattle.std.proofs.Common.{refl, false}
use Rattle.tree.specs.declared.edition.Edition.TheVariants.{Second}
use Rattle.marks.proofs.OuterMarks.{told_by, told_marks}
use Rattle.marks.proofs.file.statement_marks.Goals as goal

pub returns : goal.returns
returns c = told_marks _ _ (told_by Second false) _ _ refl c.new.ensures.items refl c.in_ok-statements.ensures
