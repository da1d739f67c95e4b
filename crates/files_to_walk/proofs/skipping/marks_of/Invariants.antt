use Rattle.std.proofs.Common.{map}
use Rattle.tree.specs.View.{file_syntax}
use Rattle.files_to_walk.specs.Signs.{may_give}
use Rattle.files_to_walk.proofs.SkippedFiles.{AreMade}
use Rattle.files_to_walk.proofs.skipping.marks_of.Given as goal

-- those so far that are marked with no are quiet
abbrev pub invariant-loop-number : goal.invariant-loop-number
invariant-loop-number l =
    AreMade (may_give l.known) (map file_syntax l.trees) l.sources l.number l.marks.items
