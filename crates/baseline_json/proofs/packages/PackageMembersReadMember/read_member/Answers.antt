use Rattle.std.proofs.Common.{codes}
use Rattle.json_reading.proofs.ObjectKeys.{same_key}
use Rattle.baseline_json.specs.BaselineValues.{findings_under}
use Rattle.baseline_json.proofs.MembersRead.{here, far}
use Rattle.baseline_json.proofs.packages.PackageMembersReadMember.read_member.Goals as goal

pub returns-in_ok-self-clause-ok : goal.returns-in_ok-self-clause-ok
returns-in_ok-self-clause-ok c =
    let read = c.in_ok-self.ensures.ok in
    let key = c.args.key.now in (
      read.0,
      read.1,
      λ begun ms h. here findings_under key read.0 ms _ (codes "diagnostics")
          (same_key key (codes "diagnostics") c.if-eq.ensures) read.2,
    )

pub returns-in_ok-pass_value-clause-ok : goal.returns-in_ok-pass_value-clause-ok
returns-in_ok-pass_value-clause-ok c =
    let passed = c.in_ok-pass_value.ensures.ok in
    let key = c.args.key.now in (
      passed.0,
      passed.1,
      λ begun ms h. far findings_under key passed.0 ms _ (codes "diagnostics") c.if-eq.ensures h,
    )
