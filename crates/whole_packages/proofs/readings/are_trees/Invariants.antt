use Rattle.std.proofs.Common.{◌≡◌, drop}
use Rattle.std.specs.List.{list_all}
use Rattle.whole_packages.specs.CountedViews.{is_tree}
use Rattle.whole_packages.proofs.readings.are_trees.Given as goal

-- those that are left are trees if all are
abbrev pub invariant-loop-reading : goal.invariant-loop-reading
invariant-loop-reading l = list_all is_tree (drop l.reading-index l.readings) ≡ list_all is_tree l.readings
