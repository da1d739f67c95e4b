use Rattle.std.proofs.Common.{◌≡◌, ◌||◌, ℕ, List, drop, is_some}
use Rattle.first_values.specs.ValuesByName.{value_of}
use Rattle.imports.specs.Views.{text_views}
use Rattle.judge.specs.NotGiven.{names_path}
use Rattle.judge.proofs.not_given.add_paths.Given as goal

-- the paths so far, with those that are left, are all
abbrev pub invariant-loop-import : goal.invariant-loop-import
invariant-loop-import l = (path : List ℕ)
    → (is_some (value_of l.paths path) || names_path (text_views (drop l.import-index l.imports)) path)
    ≡ (is_some (value_of l.initial.paths path) || names_path (text_views l.imports) path)
