use Rattle.meaning_runs.proofs.EventSources.{events_have_sources}
use Rattle.meaning_runs.proofs.events_have_sources.Goals as goal

pub returns : goal.returns
returns c = events_have_sources
