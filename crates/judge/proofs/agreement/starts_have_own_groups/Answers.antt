use Rattle.judge.proofs.OwnGroups.{starts_have_own_groups as lemma}
use Rattle.judge.proofs.agreement.starts_have_own_groups.Goals as goal

pub returns : goal.returns
returns c = lemma
