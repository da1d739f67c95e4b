use Rattle.std.proofs.Common.{drop}
use Rattle.folders.proofs.ListedFiles.{AreFilesSo}
use Rattle.folders.proofs.listed.read_files.Given as goal

-- the sources so far, and the names that are left
abbrev pub invariant-loop-name : goal.invariant-loop-name
invariant-loop-name g l = AreFilesSo l.fn.names.items l.sources.items (drop l.name-index l.name-items)
