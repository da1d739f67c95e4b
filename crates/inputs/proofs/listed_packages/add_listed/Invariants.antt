use Rattle.std.proofs.Common.{drop, map, option_map}
use Rattle.test_packages.specs.ReadPackages.{entry_of}
use Rattle.inputs.proofs.ListedPackages.{AddsSo}
use Rattle.inputs.proofs.listed_packages.add_listed.Given as goal

-- what was added so far completes what is read of those that are left
abbrev pub invariant-loop-read : goal.invariant-loop-read
invariant-loop-read g l =
    AddsSo l.edition (option_map (λ h. h.now) l.here) (map entry_of l.packages) l.initial.given.items l.given.items
    (map entry_of (drop l.read-index l.packages))
