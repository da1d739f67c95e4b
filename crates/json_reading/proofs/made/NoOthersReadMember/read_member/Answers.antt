use Rattle.json_reading.proofs.ItemsMade.{one_put}
use Rattle.json_reading.proofs.made.NoOthersReadMember.read_member.Goals as goal

pub returns-clause-ok : goal.returns-clause-ok
returns-clause-ok c =
    let passed = c.in_ok-pass_value.ensures.ok in
    (passed.0, passed.1, λ begun ms h. one_put c.args.arg3.now passed.0 ms)
