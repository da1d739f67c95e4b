use Rattle.std.proofs.Common.{◌≡◌, drop, map}
use Rattle.declared_json.specs.DeclaredPackages.{package_of}
use Rattle.load.specs.LoadedBeside.{first_place, kept_path}
use Rattle.load.proofs.loaded.first_given.Given as goal

-- the first among those that are left is the first of all
abbrev pub invariant-loop-place : goal.invariant-loop-place
invariant-loop-place l =
    first_place l.place (map kept_path l.packages) (map package_of (drop l.place l.outside))
    ≡ first_place 0 (map kept_path l.packages) (map package_of l.outside)
