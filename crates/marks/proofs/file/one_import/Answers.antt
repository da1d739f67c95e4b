use Rattle.tree.specs.View.{import_spec_syntax}
use Rattle.marks.proofs.AddingBy.{adds_nothing, adds_same, same_adds}
use Rattle.marks.proofs.OuterMarks.{dot_marks, no_dot_marks}
use Rattle.marks.proofs.file.one_import.Goals as goal

pub returns-then-is_dot : goal.returns-then-is_dot
returns-then-is_dot c =
    same_adds _ _ _ _ _ (dot_marks (import_spec_syntax c.args.spec.now) c.if-is_dot.ensures) c.imports_all.ensures

pub returns-else-is_dot : goal.returns-else-is_dot
returns-else-is_dot c =
    adds_same _ _ _ _ (no_dot_marks (import_spec_syntax c.args.spec.now) c.if-is_dot.ensures) (adds_nothing _)
