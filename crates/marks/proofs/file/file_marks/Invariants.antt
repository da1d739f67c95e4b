use Rattle.std.proofs.Common.{◌≡◌, ◌++◌, drop, map}
use Rattle.meaning.specs.OuterBlocks.{specs_of}
use Rattle.meaning.specs.Mentions.{import_marks, top_levels_marks, marks_by}
use Rattle.mentions.specs.MarkViews.{marks_view}
use Rattle.tree.specs.View.{import_syntax, top_level_syntax}
use Rattle.marks.proofs.OuterMarks.{told_by}
use Rattle.marks.proofs.file.file_marks.Given as goal

-- what was added with what the other declarations add is the whole
abbrev pub invariant-loop-declaration : goal.invariant-loop-declaration
invariant-loop-declaration l =
    (l.walk.told ≡ told_by l.fn.edition l.fn.some_keep)
    × (marks_view l.walk.marks.list.items
    ++ marks_by l.fn.edition l.fn.some_keep (top_levels_marks (map top_level_syntax (drop l.declaration-index l.declaration-items)))
    ≡ marks_by l.fn.edition l.fn.some_keep (import_marks (specs_of (map import_syntax l.file.imports.items))
    ++ top_levels_marks (map top_level_syntax l.declaration-items)))
