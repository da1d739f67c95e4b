use Rattle.std.proofs.Common.{drop, map}
use Rattle.meaning.specs.OuterBlocks.{specs_of}
use Rattle.meaning.specs.Mentions.{import_marks}
use Rattle.marks.proofs.AddingBy.{Continues}
use Rattle.tree.specs.View.{import_syntax}
use Rattle.marks.proofs.file.all_imports.Given as goal

-- what was added with what the rest adds is the whole
abbrev pub invariant-loop-declaration : goal.invariant-loop-declaration
invariant-loop-declaration l =
    Continues l.initial.walk l.walk
    (import_marks (specs_of (map import_syntax (drop l.declaration-index l.declarations))))
    (import_marks (specs_of (map import_syntax l.declarations)))
