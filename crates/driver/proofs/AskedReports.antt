-- What is said of the report for which the words ask, from its verdict.
use Rattle.std.proofs.Common.{◌≡◌, inr, Bool, true, false, ℕ, List, Option, sym, subst}
use Rattle.printed.specs.declared.status.Status.{Status}
use Rattle.printed.specs.Statuses.{status_of}
use Rattle.driver.specs.WrittenReport.{Does, IsWritten, OfDone}

-- the status tells the verdict of a report that was written
pub ends_so : (words : List (List ℕ)) (old new : Option (List ℕ)) (status : Status) (yes : Bool) → status ≡ status_of yes
    → OfDone words (IsWritten old new yes)
    → Does words status old new
ends_so words old new status true same asked = subst (λ s. Does words s old new) (sym same) (inr asked)
ends_so words old new status false same asked = subst (λ s. Does words s old new) (sym same) asked
