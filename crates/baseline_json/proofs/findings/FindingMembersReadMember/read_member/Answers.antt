use Rattle.std.proofs.Common.{codes}
use Rattle.json_reading.proofs.ObjectKeys.{same_key}
use Rattle.baseline_json.proofs.MembersRead.{file_put, code_put, name_put, accepted_put, other_put}
use Rattle.baseline_json.proofs.findings.FindingMembersReadMember.read_member.Goals as goal

pub returns-in_ok-self-clause-ok : goal.returns-in_ok-self-clause-ok
returns-in_ok-self-clause-ok c =
    let read = c.in_ok-self.ensures.ok in
    let key = c.args.key.now in (
      read.0,
      read.1,
      λ begun ms h. file_put key read.0 ms _ _ _ _ h _ (same_key key (codes "file") c.if-eq.ensures) read.2,
    )

pub returns-in_ok-self-2-clause-ok : goal.returns-in_ok-self-2-clause-ok
returns-in_ok-self-2-clause-ok c =
    let read = c.in_ok-self-2.ensures.ok in
    let key = c.args.key.now in (
      read.0,
      read.1,
      λ begun ms h. code_put key read.0 ms _ _ _ _ h _ (same_key key (codes "code") c.if-eq-2.ensures) read.2,
    )

pub returns-in_ok-self-3-clause-ok : goal.returns-in_ok-self-3-clause-ok
returns-in_ok-self-3-clause-ok c =
    let read = c.in_ok-self-3.ensures.ok in
    let key = c.args.key.now in (
      read.0,
      read.1,
      λ begun ms h. name_put key read.0 ms _ _ _ _ h _ (same_key key (codes "name") c.if-eq-3.ensures) read.2,
    )

pub returns-in_ok-self-4-clause-ok : goal.returns-in_ok-self-4-clause-ok
returns-in_ok-self-4-clause-ok c =
    let read = c.in_ok-self-4.ensures.ok in
    let key = c.args.key.now in (
      read.0,
      read.1,
      λ begun ms h. accepted_put key read.0 ms _ _ _ _ h _ (same_key key (codes "accepted") c.if-eq-4.ensures) read.2,
    )

pub returns-in_ok-pass_value-clause-ok : goal.returns-in_ok-pass_value-clause-ok
returns-in_ok-pass_value-clause-ok c =
    let passed = c.in_ok-pass_value.ensures.ok in
    let key = c.args.key.now in (
      passed.0,
      passed.1,
      λ begun ms h. other_put key passed.0 ms _ _ _ _ h c.if-eq.ensures c.if-eq-2.ensures c.if-eq-3.ensures
          c.if-eq-4.ensures,
    )
