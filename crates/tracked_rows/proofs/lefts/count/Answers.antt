use Rattle.tracked_rows.proofs.LeftSides.{lefts-length}
use Rattle.tracked_rows.proofs.lefts.count.Goals as goal

pub returns-in-Assigns : goal.returns-in-Assigns
returns-in-Assigns c = rw c.in-Assigns.is (lefts-length c.in-Assigns.left.now)
