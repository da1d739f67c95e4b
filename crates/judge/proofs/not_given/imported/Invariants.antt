use Rattle.std.proofs.Common.{◌≡◌, ◌||◌, ℕ, List, drop, is_some}
use Rattle.first_values.specs.ValuesByName.{value_of}
use Rattle.imports.specs.Views.{packages_view}
use Rattle.judge.specs.NotGiven.{some_names}
use Rattle.judge.proofs.not_given.imported.Given as goal

-- the paths so far, with those of the lists that are left, are all
abbrev pub invariant-loop-list : goal.invariant-loop-list
invariant-loop-list l = (path : List ℕ)
    → (is_some (value_of l.paths path) || some_names (packages_view (drop l.list-index l.lists)) path)
    ≡ some_names (packages_view l.lists) path
