use Rattle.ways.proofs.FaultLists.{faults_have_lists}
use Rattle.ways.proofs.faults_have_lists.Goals as goal

pub returns : goal.returns
returns c = faults_have_lists
