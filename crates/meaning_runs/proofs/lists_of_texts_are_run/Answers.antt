use Rattle.meaning_runs.proofs.RunLists.{lists_of_texts_are_run}
use Rattle.meaning_runs.proofs.lists_of_texts_are_run.Goals as goal

pub returns : goal.returns
returns c = lists_of_texts_are_run
