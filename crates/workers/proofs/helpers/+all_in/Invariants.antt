use Rattle.workers.proofs.helpers.+all_in.Given as goal

abbrev pub decreases-all_in : goal.decreases-all_in
decreases-all_in g l = l.helpers
