use Rattle.checker.proofs.CheckedLists.{keeps_claims}
use Rattle.verifier.proofs.CertifiedBodies.{claims_are_consistent as lemma}
use Rattle.verifier.proofs.claims_are_consistent.Goals as goal

pub returns : goal.returns
returns c = lemma keeps_claims
