use Rattle.verifier.proofs.OneVerified.{flags_are_determined as lemma}
use Rattle.verifier.proofs.flags_are_determined.Goals as goal

pub returns : goal.returns
returns c = lemma
