use Rattle.std.proofs.Common.{◌≡◌, ◌||◌, map, drop}
use Rattle.std.specs.List.{list_any}
use Rattle.facts.specs.FactViews.{facts_by_name}
use Rattle.tree.specs.View.{top_level_syntax}
use Rattle.files_to_walk.specs.Functions.{declares_giver, declares_told}
use Rattle.files_to_walk.proofs.functions.signs_of_declarations.Given as goal

-- the tests of those so far and of those that are left are those of all
abbrev pub invariant-loop-declaration : goal.invariant-loop-declaration
invariant-loop-declaration l =
    let left = map top_level_syntax (drop l.declaration-index l.declarations) in
    let all = map top_level_syntax l.declarations in
    (list_any (declares_giver (facts_by_name l.table)) left ≡ list_any (declares_giver (facts_by_name l.table)) all)
    × ((l.is_told || list_any (declares_told (facts_by_name l.table)) left) ≡ list_any (declares_told (facts_by_name l.table)) all)
