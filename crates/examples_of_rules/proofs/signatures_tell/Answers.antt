use Rattle.examples_of_rules.proofs.SignatureExamples.{signatures_tell}
use Rattle.examples_of_rules.proofs.signatures_tell.Goals as goal

pub returns : goal.returns
returns c = signatures_tell
