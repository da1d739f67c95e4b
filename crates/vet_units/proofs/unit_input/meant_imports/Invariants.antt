use Rattle.std.proofs.Common.{◌≡◌, ◌++◌, drop, map}
use Rattle.load.specs.MeantPaths.{meant_of}
use Rattle.unit_config.specs.UnitValues.{unit_of}
use Rattle.vet_units.specs.UnitsRead.{meant_path_of}
use Rattle.vet_units.proofs.unit_input.meant_imports.Given as goal

-- what is said so far, with what is said of the paths that are left, is all
abbrev pub invariant-loop-path : goal.invariant-loop-path
invariant-loop-path l =
    map meant_of l.imports.items ++ map (λ path. meant_path_of (unit_of l.unit) path.now) (drop l.path-index l.path-items)
    ≡ map (λ path. meant_path_of (unit_of l.unit) path.now) l.path-items
