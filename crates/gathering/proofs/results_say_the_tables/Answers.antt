use Rattle.gathering.proofs.Gathered.{results_say_the_tables}
use Rattle.gathering.proofs.results_say_the_tables.Goals as goal

pub returns : goal.returns
returns c = results_say_the_tables
