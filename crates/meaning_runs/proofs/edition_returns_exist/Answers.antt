use Rattle.meaning_runs.proofs.EditionRuns.{edition_returns_exist}
use Rattle.meaning_runs.proofs.edition_returns_exist.Goals as goal

pub returns : goal.returns
returns c = edition_returns_exist
