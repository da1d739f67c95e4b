use Rattle.std.proofs.Common.{◌≡◌, ◌++◌, drop, is_some, map, string_bytes}
use Rattle.first_values.specs.ValuesByName.{value_of}
use Rattle.judge.specs.NotGiven.{kept_not_given}
use Rattle.judge.proofs.not_given.paths_not_given.Given as goal

-- the paths so far, with those of the packages that are left, are all
abbrev pub invariant-loop-loaded : goal.invariant-loop-loaded
invariant-loop-loaded l =
    map string_bytes l.paths.items
    ++ kept_not_given (λ path. is_some (value_of l.imported path)) (drop l.loaded-index l.packages)
    ≡ kept_not_given (λ path. is_some (value_of l.imported path)) l.packages
