use Rattle.tree.proofs.Views.{low_bound-roll, high_bound-roll, most_bound-roll}
use Rattle.tree_make.proofs.expression.bounds.Goals as goal

pub returns-clause-low : goal.returns-clause-low
returns-clause-low c = low_bound-roll record { low = c.args.low; high = c.args.high; max = c.args.max }

pub returns-clause-high : goal.returns-clause-high
returns-clause-high c = high_bound-roll record { low = c.args.low; high = c.args.high; max = c.args.max }

pub returns-clause-most : goal.returns-clause-most
returns-clause-most c = most_bound-roll record { low = c.args.low; high = c.args.high; max = c.args.max }
