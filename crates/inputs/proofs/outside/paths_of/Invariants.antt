use Rattle.std.proofs.Common.{◌≡◌, ◌++◌, drop, map}
use Rattle.load.specs.LoadedBeside.{given_path}
use Rattle.inputs.proofs.outside.paths_of.Given as goal

-- the paths that were found with those of the rest are all
abbrev pub invariant-loop-one : goal.invariant-loop-one
invariant-loop-one l =
    map (λ path. path.now) l.paths.items ++ map given_path (drop l.one-index l.given) ≡ map given_path l.given
