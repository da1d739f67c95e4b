use Rattle.std.proofs.Common.{◌++◌, map, refl, ap, ◌∙◌}
use Rattle.tree.specs.View.{import_syntax, top_level_syntax}
use Rattle.tree.proofs.Depths.{drop_item, drop_past}
use Rattle.meaning.specs.OuterBlocks.{specs_of}
use Rattle.meaning.specs.Mentions.{import_marks, top_levels_marks, marks_by}
use Rattle.marks.proofs.AddingBy.{adds_same}
use Rattle.marks.proofs.OuterMarks.{told_by, file_first, file_next, file_all}
use Rattle.marks.proofs.file.file_marks.Goals as goal

pub loop-declaration-init : goal.loop-declaration-init
loop-declaration-init c =
    file_first (told_by c.args.edition c.args.some_keep) _ c.all_imports.new.walk
    (import_marks (specs_of (map import_syntax c.args.file.now.imports.items)))
    (top_levels_marks (map top_level_syntax c.deref-declaration-items.result.now)) refl c.new.ensures.items
    (adds_same _ _ _ _ (ap (λ l. import_marks (specs_of (map import_syntax l))) c.deref.ensures.value)
    c.in_ok-all_imports.ensures)

pub loop-declaration-preserved : goal.loop-declaration-preserved
loop-declaration-preserved c =
    let items = drop_item _ _ c.declaration-item.result c.loop-declaration-test.true c.declaration-item.is in
    file_next (told_by c.args.edition c.args.some_keep) _ _ _ _ _ _ c.loop-declaration.invariant
    (ap (λ l. top_levels_marks (map top_level_syntax l)) items) c.in_ok-top_level.ensures

pub returns : goal.returns
returns c =
    let imports = import_marks (specs_of (map import_syntax c.args.file.now.imports.items)) in
    file_all (told_by c.args.edition c.args.some_keep) c.loop-declaration.walk _ _ c.loop-declaration.invariant
    (ap (λ l. top_levels_marks (map top_level_syntax l)) (drop_past _ _ c.loop-declaration-test.false))
    ∙ ap (λ l. marks_by c.args.edition c.args.some_keep (imports ++ top_levels_marks (map top_level_syntax l)))
    c.deref-declaration-items.ensures.value
