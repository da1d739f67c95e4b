use Rattle.std.proofs.Common.{drop}
use Rattle.folders.proofs.GoFiles.{AreSourcesSo}
use Rattle.folders.proofs.files.read_folder.Given as goal

-- the sources so far, and the names that are left
abbrev pub invariant-loop-name : goal.invariant-loop-name
invariant-loop-name g l = AreSourcesSo l.folder l.sources.items (drop l.name-index l.name-items)
