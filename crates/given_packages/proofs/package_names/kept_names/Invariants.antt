use Rattle.std.proofs.Common.{◌≡◌, ℕ, List, drop}
use Rattle.meaning.specs.OuterBlocks.{or_else}
use Rattle.names.specs.Answers.{names_by_path}
use Rattle.given_packages.specs.Given.{names_from}
use Rattle.given_packages.proofs.package_names.kept_names.Given as goal

-- the names so far, with those of the packages that are left, are all
abbrev pub invariant-loop-loaded : goal.invariant-loop-loaded
invariant-loop-loaded l =
    (path : List ℕ) → or_else (names_by_path l.names path) (names_from (drop l.loaded-index l.packages) path)
    ≡ names_from l.packages path
