use Rattle.folders.specs.GoFiles.{AreGoNames}
use Rattle.folders.proofs.files.list_names.Given as goal

abbrev pub invariant-loop-entry : goal.invariant-loop-entry
invariant-loop-entry g l = AreGoNames l.names.items
