use Rattle.std.proofs.Common.{◌≡◌, drop, map}
use Rattle.std.specs.List.{list_any}
use Rattle.std.specs.Str.{bytes_eq}
use Rattle.load.specs.LoadedBeside.{kept_path}
use Rattle.load.proofs.loaded.is_given.Given as goal

-- the test of those that are left is that of all
abbrev pub invariant-loop-one : goal.invariant-loop-one
invariant-loop-one l =
    list_any (bytes_eq l.path) (map kept_path (drop l.one-index l.packages))
    ≡ list_any (bytes_eq l.path) (map kept_path l.packages)
