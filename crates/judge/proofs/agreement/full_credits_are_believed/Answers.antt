use Rattle.judge.proofs.GivenReports.{full_credits_are_believed as lemma}
use Rattle.judge.proofs.agreement.full_credits_are_believed.Goals as goal

pub returns : goal.returns
returns c = lemma c.bodies_are_apart.ensures c.claims_are_consistent.ensures c.nothing_is_found.ensures
