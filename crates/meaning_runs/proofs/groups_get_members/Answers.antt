use Rattle.meaning_runs.proofs.FreeGoroutines.{groups_get_members}
use Rattle.meaning_runs.proofs.groups_get_members.Goals as goal

pub returns : goal.returns
returns c = groups_get_members
