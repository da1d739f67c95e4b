use Rattle.checker.proofs.CheckedLists.{leaves_no_fault}
use Rattle.verifier.proofs.CertifiedBodies.{nothing_is_found as lemma}
use Rattle.verifier.proofs.nothing_is_found.Goals as goal

pub returns : goal.returns
returns c = lemma leaves_no_fault
