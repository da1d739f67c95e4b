use Rattle.certificates.proofs.LeastCertificates.{least_is_within}
use Rattle.certificates.proofs.least_is_within.Goals as goal

pub returns : goal.returns
returns c = least_is_within
