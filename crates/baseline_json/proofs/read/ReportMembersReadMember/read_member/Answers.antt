use Rattle.std.proofs.Common.{codes}
use Rattle.json_reading.proofs.ObjectKeys.{same_key}
use Rattle.baseline_json.proofs.MembersRead.{packages_put, version_put, another_put}
use Rattle.baseline_json.proofs.read.ReportMembersReadMember.read_member.Goals as goal

pub returns-in_ok-self-clause-ok : goal.returns-in_ok-self-clause-ok
returns-in_ok-self-clause-ok c =
    let read = c.in_ok-self.ensures.ok in
    let key = c.args.key.now in (
      read.0,
      read.1,
      λ begun ms h. packages_put key read.0 ms _ _ h _ (same_key key (codes "packages") c.if-eq.ensures) read.2,
    )

pub returns-in_ok-self-2-clause-ok : goal.returns-in_ok-self-2-clause-ok
returns-in_ok-self-2-clause-ok c =
    let read = c.in_ok-self-2.ensures.ok in
    let key = c.args.key.now in (
      read.0,
      read.1,
      λ begun ms h. version_put key read.0 ms _ _ h _ (same_key key (codes "version") c.if-eq-2.ensures) read.2,
    )

pub returns-in_ok-pass_value-clause-ok : goal.returns-in_ok-pass_value-clause-ok
returns-in_ok-pass_value-clause-ok c =
    let passed = c.in_ok-pass_value.ensures.ok in
    let key = c.args.key.now in (
      passed.0,
      passed.1,
      λ begun ms h. another_put key passed.0 ms _ _ h c.if-eq.ensures c.if-eq-2.ensures,
    )
