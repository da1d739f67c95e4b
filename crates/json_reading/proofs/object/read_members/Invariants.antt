use Rattle.std.proofs.Common.{◌≡◌, length}
use Rattle.serde_json.specs.Data.{no_members, Members}
use Rattle.json_reading.specs.Standing.{members_at}
use Rattle.json_reading.proofs.object.read_members.Given as goal

-- what held of no members holds of those that were found
abbrev pub invariant-members : goal.invariant-members
invariant-members g l =
    (found : Members) × (members_at l.depth no_members l.initial.reader ≡ members_at l.depth found l.reader)
    × (g.M.ReadMember.holds l.initial.members l.initial.members no_members
    → g.M.ReadMember.holds l.initial.members l.members found)

abbrev pub decreases-members : goal.decreases-members
decreases-members g l = length l.reader
