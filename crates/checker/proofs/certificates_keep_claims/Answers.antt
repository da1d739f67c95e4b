use Rattle.checker.proofs.CheckedLists.{keeps_claims}
use Rattle.checker.proofs.certificates_keep_claims.Goals as goal

pub returns : goal.returns
returns c = keeps_claims
