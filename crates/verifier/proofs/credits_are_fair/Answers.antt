use Rattle.checker.proofs.CheckedLists.{settles_what_it_says}
use Rattle.verifier.proofs.FairCredits.{credits_are_fair as lemma}
use Rattle.verifier.proofs.credits_are_fair.Goals as goal

pub returns : goal.returns
returns c = lemma settles_what_it_says
