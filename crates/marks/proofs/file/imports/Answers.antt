use Rattle.std.proofs.Common.{◌+◌, drop, map, ap, ◌∙◌}
use Rattle.tree.specs.View.{import_spec_syntax}
use Rattle.tree.proofs.Depths.{drop_item, drop_past}
use Rattle.meaning.specs.Mentions.{import_marks}
use Rattle.marks.proofs.AddingBy.{adds_next, adds_all}
use Rattle.marks.proofs.OuterMarks.{imports_more}
use Rattle.marks.proofs.file.imports.Goals as goal

pub loop-spec-preserved : goal.loop-spec-preserved
loop-spec-preserved c =
    let items = drop_item c.args.specs.now c.loop-spec.spec-index c.spec-item.result c.loop-spec-test.true c.spec-item.is in
    adds_next _ _ _ _ _ _ _ c.loop-spec.invariant
    (ap (λ l. import_marks (map import_spec_syntax l)) items ∙ imports_more (import_spec_syntax c.spec-item.result) (map import_spec_syntax (drop (c.loop-spec.spec-index + 1) c.args.specs.now)))
    c.in_ok-one_import.ensures

pub returns : goal.returns
returns c =
    adds_all c.args.walk.now _ _ (import_marks (map import_spec_syntax c.args.specs.now)) c.loop-spec.invariant
    (ap (λ l. import_marks (map import_spec_syntax l)) (drop_past c.args.specs.now c.loop-spec.spec-index c.loop-spec-test.false))
