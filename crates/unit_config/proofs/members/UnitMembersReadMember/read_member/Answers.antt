use Rattle.std.proofs.Common.{codes}
use Rattle.json_reading.proofs.ObjectKeys.{same_key}
use Rattle.unit_config.proofs.MembersRead.{id_put, folder_put, path_put, files_put, imports_put, told_put, silent_put, output_put, other_put}
use Rattle.unit_config.proofs.UnitsRead.{texts_judged}
use Rattle.unit_config.proofs.members.UnitMembersReadMember.read_member.Goals as goal

pub returns-in_ok-self-clause-ok : goal.returns-in_ok-self-clause-ok
returns-in_ok-self-clause-ok c =
    let read = c.in_ok-self.ensures.ok in
    let key = c.args.key.now in (
      read.0,
      read.1,
      λ begun ms h. id_put key read.0 ms _ _ _ _ _ _ _ _ h _ (same_key key (codes "ID") c.if-eq.ensures) read.2,
    )

pub returns-in_ok-self-2-clause-ok : goal.returns-in_ok-self-2-clause-ok
returns-in_ok-self-2-clause-ok c =
    let read = c.in_ok-self-2.ensures.ok in
    let key = c.args.key.now in (
      read.0,
      read.1,
      λ begun ms h. folder_put key read.0 ms _ _ _ _ _ _ _ _ h _ (same_key key (codes "Dir") c.if-eq-2.ensures) read.2,
    )

pub returns-in_ok-self-3-clause-ok : goal.returns-in_ok-self-3-clause-ok
returns-in_ok-self-3-clause-ok c =
    let read = c.in_ok-self-3.ensures.ok in
    let key = c.args.key.now in (
      read.0,
      read.1,
      λ begun ms h. path_put key read.0 ms _ _ _ _ _ _ _ _ h _ (same_key key (codes "ImportPath") c.if-eq-3.ensures) read.2,
    )

pub returns-in_ok-self-4-clause-ok : goal.returns-in_ok-self-4-clause-ok
returns-in_ok-self-4-clause-ok c =
    let read = c.in_ok-self-4.ensures.ok in
    let key = c.args.key.now in (
      read.0,
      read.1,
      λ begun ms h. files_put key read.0 ms _ _ _ _ _ _ _ _ h _ (same_key key (codes "GoFiles") c.if-eq-4.ensures) read.2,
    )

pub returns-in_ok-self-5-clause-ok : goal.returns-in_ok-self-5-clause-ok
returns-in_ok-self-5-clause-ok c =
    let read = c.in_ok-self-5.ensures.ok in
    let key = c.args.key.now in (
      read.value,
      read.stands,
      λ begun ms h. imports_put key read.value ms _ _ _ _ _ _ _ _ h _ (same_key key (codes "ImportMap") c.if-eq-5.ensures)
          (texts_judged read.value _ read.judged),
    )

pub returns-in_ok-self-6-clause-ok : goal.returns-in_ok-self-6-clause-ok
returns-in_ok-self-6-clause-ok c =
    let read = c.in_ok-self-6.ensures.ok in
    let key = c.args.key.now in (
      read.value,
      read.stands,
      λ begun ms h. told_put key read.value ms _ _ _ _ _ _ _ _ h _ (same_key key (codes "PackageVetx") c.if-eq-6.ensures)
          (texts_judged read.value _ read.judged),
    )

pub returns-in_ok-self-7-clause-ok : goal.returns-in_ok-self-7-clause-ok
returns-in_ok-self-7-clause-ok c =
    let read = c.in_ok-self-7.ensures.ok in
    let key = c.args.key.now in (
      read.0,
      read.1,
      λ begun ms h. silent_put key read.0 ms _ _ _ _ _ _ _ _ h _ (same_key key (codes "VetxOnly") c.if-eq-7.ensures) read.2,
    )

pub returns-in_ok-self-8-clause-ok : goal.returns-in_ok-self-8-clause-ok
returns-in_ok-self-8-clause-ok c =
    let read = c.in_ok-self-8.ensures.ok in
    let key = c.args.key.now in (
      read.0,
      read.1,
      λ begun ms h. output_put key read.0 ms _ _ _ _ _ _ _ _ h _ (same_key key (codes "VetxOutput") c.if-eq-8.ensures) read.2,
    )

pub returns-in_ok-pass_value-clause-ok : goal.returns-in_ok-pass_value-clause-ok
returns-in_ok-pass_value-clause-ok c =
    let passed = c.in_ok-pass_value.ensures.ok in
    let key = c.args.key.now in (
      passed.0,
      passed.1,
      λ begun ms h. other_put key passed.0 ms _ _ _ _ _ _ _ _ h c.if-eq.ensures c.if-eq-2.ensures c.if-eq-3.ensures c.if-eq-4.ensures c.if-eq-5.ensures c.if-eq-6.ensures c.if-eq-7.ensures c.if-eq-8.ensures,
    )
