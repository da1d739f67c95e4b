use Rattle.gathering.proofs.Gathered.{results_have_tables}
use Rattle.gathering.proofs.results_have_tables.Goals as goal

pub returns : goal.returns
returns c = results_have_tables
