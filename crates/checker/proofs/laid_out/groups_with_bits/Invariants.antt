use Rattle.std.proofs.Common.{◌≡◌, ◌≤◌, ◌-◌, ◌++◌, length}
use Rattle.meaning.specs.declared.TheConstants.{MOST_GROUPS}
use Rattle.checker.specs.Certificates.{spare}
use Rattle.checker.proofs.laid_out.groups_with_bits.Given as goal

-- what was added, with what is left, is the whole
abbrev pub invariant-loop-spare : goal.invariant-loop-spare
invariant-loop-spare l =
    (l.spare ≤ 12) × (l.groups.items ++ spare l.spare ≡ l.own ++ spare (MOST_GROUPS - length l.own))

abbrev pub decreases-loop-spare : goal.decreases-loop-spare
decreases-loop-spare l = l.spare
