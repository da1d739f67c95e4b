use Rattle.std.proofs.Common.{drop}
use Rattle.meaning.specs.Mentions.{outer_specs_marks}
use Rattle.marks.proofs.AddingBy.{Continues}
use Rattle.tree.specs.View.{specs_syntax}
use Rattle.marks.proofs.file.outer_specs.Given as goal

-- what was added with what the rest adds is the whole
abbrev pub invariant-loop-item : goal.invariant-loop-item
invariant-loop-item l =
    Continues l.initial.walk l.walk (outer_specs_marks (specs_syntax (drop l.item-index l.list)))
    (outer_specs_marks (specs_syntax l.list))
