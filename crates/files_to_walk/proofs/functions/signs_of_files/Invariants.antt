use Rattle.std.proofs.Common.{◌≡◌, ◌||◌, map, drop}
use Rattle.std.specs.List.{list_any}
use Rattle.facts.specs.FactViews.{facts_by_name}
use Rattle.tree.specs.View.{file_syntax}
use Rattle.files_to_walk.specs.Functions.{has_giver, has_told}
use Rattle.files_to_walk.proofs.functions.signs_of_files.Given as goal

-- the tests of those so far and of those that are left are those of all
abbrev pub invariant-loop-tree : goal.invariant-loop-tree
invariant-loop-tree l =
    let left = map file_syntax (drop l.tree-index l.trees) in
    let all = map file_syntax l.trees in
    (list_any (has_giver (facts_by_name l.table)) left ≡ list_any (has_giver (facts_by_name l.table)) all)
    × ((l.is_told || list_any (has_told (facts_by_name l.table)) left) ≡ list_any (has_told (facts_by_name l.table)) all)
