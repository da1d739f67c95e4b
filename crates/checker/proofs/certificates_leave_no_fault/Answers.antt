use Rattle.checker.proofs.CheckedLists.{leaves_no_fault}
use Rattle.checker.proofs.certificates_leave_no_fault.Goals as goal

pub returns : goal.returns
returns c = leaves_no_fault
