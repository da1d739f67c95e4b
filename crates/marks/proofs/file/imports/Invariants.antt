use Rattle.std.proofs.Common.{drop, map}
use Rattle.meaning.specs.Mentions.{import_marks}
use Rattle.marks.proofs.AddingBy.{Continues}
use Rattle.tree.specs.View.{import_spec_syntax}
use Rattle.marks.proofs.file.imports.Given as goal

-- what was added with what the rest adds is the whole
abbrev pub invariant-loop-spec : goal.invariant-loop-spec
invariant-loop-spec l =
    Continues l.initial.walk l.walk (import_marks (map import_spec_syntax (drop l.spec-index l.specs)))
    (import_marks (map import_spec_syntax l.specs))
