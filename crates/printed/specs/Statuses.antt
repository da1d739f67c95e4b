-- The statuses that the process ends with: 0 for a yes and for help, 1 for a no, 2 after a fault.
use Rattle.std.specs.Prelude.{ℕ, Bool, true, false}
use Rattle.printed.specs.declared.status.Status.{Status}
use Rattle.printed.specs.declared.status.Status.TheVariants.{Fine, Found, Faulty}

-- the number of a status
abbrev pub status_code : Status → ℕ
status_code Fine = 0
status_code Found = 1
status_code Faulty = 2

-- the status of a run whose report has this verdict
abbrev pub status_of : Bool → Status
status_of true = Fine
status_of false = Found
