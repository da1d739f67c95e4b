use Rattle.meaning_runs.proofs.FreeGoroutines.{members_may_leave}
use Rattle.meaning_runs.proofs.members_may_leave.Goals as goal

pub returns : goal.returns
returns c = members_may_leave
