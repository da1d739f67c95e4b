use Rattle.std.proofs.Common.{◌+◌, drop, map, ap, ◌∙◌}
use Rattle.tree.specs.View.{import_spec_syntax, import_syntax}
use Rattle.tree.proofs.Depths.{drop_item, drop_past}
use Rattle.meaning.specs.OuterBlocks.{specs_of}
use Rattle.meaning.specs.Mentions.{import_marks}
use Rattle.marks.proofs.AddingBy.{adds_same, adds_next, adds_all}
use Rattle.marks.proofs.OuterMarks.{imports_joined}
use Rattle.marks.proofs.file.all_imports.Goals as goal

pub loop-declaration-preserved : goal.loop-declaration-preserved
loop-declaration-preserved c =
    let items =
    drop_item c.args.declarations.now c.loop-declaration.declaration-index c.declaration-item.result
    c.loop-declaration-test.true c.declaration-item.is in
    adds_next _ _ _ _ _ _ _ c.loop-declaration.invariant
    (ap (λ l. import_marks (specs_of (map import_syntax l))) items
    ∙ imports_joined (import_syntax c.declaration-item.result).specs
    (specs_of (map import_syntax (drop (c.loop-declaration.declaration-index + 1) c.args.declarations.now))))
    (adds_same _ _ _ _ (ap (λ l. import_marks (map import_spec_syntax l)) c.deref.ensures.value) c.in_ok-imports.ensures)

pub returns : goal.returns
returns c =
    adds_all c.args.walk.now _ _ (import_marks (specs_of (map import_syntax c.args.declarations.now)))
    c.loop-declaration.invariant
    (ap (λ l. import_marks (specs_of (map import_syntax l)))
    (drop_past c.args.declarations.now c.loop-declaration.declaration-index c.loop-declaration-test.false))
