use Rattle.judge.proofs.FullCredits.{yes_with_full_credits_is_yes as lemma}
use Rattle.judge.proofs.agreement.yes_with_full_credits_is_yes.Goals as goal

pub returns : goal.returns
returns c = lemma c.bodies_are_apart.ensures c.claims_are_consistent.ensures c.nothing_is_found.ensures
