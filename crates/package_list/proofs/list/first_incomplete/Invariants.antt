use Rattle.std.proofs.Common.{◌≡◌, drop, map}
use Rattle.package_list.specs.ListedValues.{package_of}
use Rattle.package_list.specs.ListTexts.{first_incomplete}
use Rattle.package_list.proofs.list.first_incomplete.Given as goal

-- the first of those that are left is the first of all
abbrev pub invariant-loop-listed : goal.invariant-loop-listed
invariant-loop-listed l =
    first_incomplete (map package_of (drop l.listed-index l.packages)) ≡ first_incomplete (map package_of l.packages)
