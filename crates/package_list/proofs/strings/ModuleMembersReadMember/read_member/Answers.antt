use Rattle.std.proofs.Common.{codes, option_and_then}
use Rattle.serde_json.specs.Find.{as_str}
use Rattle.package_list.proofs.MembersRead.{here, far}
use Rattle.package_list.proofs.strings.ModuleMembersReadMember.read_member.Goals as goal
use Rattle.json_reading.proofs.ObjectKeys.{same_key}

pub returns-in_ok-self-clause-ok : goal.returns-in_ok-self-clause-ok
returns-in_ok-self-clause-ok c =
    let read = c.in_ok-self.ensures.ok in
    let key = c.args.key.now in (
      read.0,
      read.1,
      λ begun ms h. here (option_and_then as_str) key read.0 ms _ (codes "Path")
          (same_key key (codes "Path") c.if-eq.ensures) read.2,
    )

pub returns-in_ok-pass_value-clause-ok : goal.returns-in_ok-pass_value-clause-ok
returns-in_ok-pass_value-clause-ok c =
    let passed = c.in_ok-pass_value.ensures.ok in
    let key = c.args.key.now in (
      passed.0,
      passed.1,
      λ begun ms h. far (option_and_then as_str) key passed.0 ms _ (codes "Path") c.if-eq.ensures h,
    )
