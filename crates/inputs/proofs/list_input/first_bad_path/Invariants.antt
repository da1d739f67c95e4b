use Rattle.std.proofs.Common.{drop, map}
use Rattle.package_list.specs.ListedValues.{package_of}
use Rattle.inputs.specs.PackageLists.{HasBadPath}
use Rattle.inputs.specs.Packages.{HavePrintablePaths}
use Rattle.inputs.proofs.list_input.first_bad_path.Given as goal

-- what holds of those that are left holds of all
abbrev pub invariant-loop-listed : goal.invariant-loop-listed
invariant-loop-listed l =
    (HasBadPath (map package_of (drop l.listed-index l.packages)) → HasBadPath (map package_of l.packages))
    × (HavePrintablePaths (map package_of (drop l.listed-index l.packages)) → HavePrintablePaths (map package_of l.packages))
