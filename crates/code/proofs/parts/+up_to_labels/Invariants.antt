use Rattle.std.proofs.Common.{length}
use Rattle.code.proofs.parts.+up_to_labels.Given as goal

abbrev pub decreases-up_to_labels : goal.decreases-up_to_labels
decreases-up_to_labels g l = length l.labels.now
