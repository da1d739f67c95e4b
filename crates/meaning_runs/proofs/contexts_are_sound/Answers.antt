use Rattle.meaning_runs.proofs.Contexts.{contexts_are_sound}
use Rattle.meaning_runs.proofs.contexts_are_sound.Goals as goal

pub returns : goal.returns
returns c = contexts_are_sound
