use Rattle.examples_of_rules.proofs.ScopeExamples.{names_mean_their_declarations}
use Rattle.examples_of_rules.proofs.names_mean_their_declarations.Goals as goal

pub returns : goal.returns
returns c = names_mean_their_declarations
