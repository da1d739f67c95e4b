use Rattle.certificates.proofs.LeastCertificates.{least_holds}
use Rattle.certificates.proofs.least_holds.Goals as goal

pub returns : goal.returns
returns c = least_holds
