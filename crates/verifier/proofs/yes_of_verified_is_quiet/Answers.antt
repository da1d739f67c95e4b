use Rattle.checker.proofs.CheckedLists.{leaves_no_fault, keeps_claims, settles_what_it_says}
use Rattle.verifier.proofs.VerifiedYes.{yes_of_verified_is_quiet as lemma}
use Rattle.verifier.proofs.yes_of_verified_is_quiet.Goals as goal

pub returns : goal.returns
returns c = lemma leaves_no_fault keeps_claims settles_what_it_says
