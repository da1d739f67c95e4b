use Rattle.certificates.proofs.LeastCertificates.{least_settles}
use Rattle.certificates.proofs.least_settles.Goals as goal

pub returns : goal.returns
returns c = least_settles
