use Rattle.std.proofs.Common.{codes}
use Rattle.json_reading.proofs.ObjectKeys.{same_key}
use Rattle.package_list.proofs.MembersRead.{path_put, folder_put, go_files_put, cgo_files_put, module_put, incomplete_put, dep_only_put, imports_put, other_put}
use Rattle.package_list.proofs.members.PackageMembersReadMember.read_member.Goals as goal

pub returns-in_ok-self-clause-ok : goal.returns-in_ok-self-clause-ok
returns-in_ok-self-clause-ok c =
    let read = c.in_ok-self.ensures.ok in
    let key = c.args.key.now in (
      read.0,
      read.1,
      λ begun ms h. path_put key read.0 ms _ _ _ _ _ _ _ _ h _ (same_key key (codes "ImportPath") c.if-eq.ensures) read.2,
    )

pub returns-in_ok-self-2-clause-ok : goal.returns-in_ok-self-2-clause-ok
returns-in_ok-self-2-clause-ok c =
    let read = c.in_ok-self-2.ensures.ok in
    let key = c.args.key.now in (
      read.0,
      read.1,
      λ begun ms h. folder_put key read.0 ms _ _ _ _ _ _ _ _ h _ (same_key key (codes "Dir") c.if-eq-2.ensures) read.2,
    )

pub returns-in_ok-self-3-clause-ok : goal.returns-in_ok-self-3-clause-ok
returns-in_ok-self-3-clause-ok c =
    let read = c.in_ok-self-3.ensures.ok in
    let key = c.args.key.now in (
      read.0,
      read.1,
      λ begun ms h. go_files_put key read.0 ms _ _ _ _ _ _ _ _ h _ (same_key key (codes "GoFiles") c.if-eq-3.ensures) read.2,
    )

pub returns-in_ok-self-4-clause-ok : goal.returns-in_ok-self-4-clause-ok
returns-in_ok-self-4-clause-ok c =
    let read = c.in_ok-self-4.ensures.ok in
    let key = c.args.key.now in (
      read.0,
      read.1,
      λ begun ms h. cgo_files_put key read.0 ms _ _ _ _ _ _ _ _ h _ (same_key key (codes "CgoFiles") c.if-eq-4.ensures) read.2,
    )

pub returns-in_ok-self-5-clause-ok : goal.returns-in_ok-self-5-clause-ok
returns-in_ok-self-5-clause-ok c =
    let read = c.in_ok-self-5.ensures.ok in
    let key = c.args.key.now in (
      read.0,
      read.1,
      λ begun ms h. module_put key read.0 ms _ _ _ _ _ _ _ _ h _ (same_key key (codes "Module") c.if-eq-5.ensures) read.2,
    )

pub returns-in_ok-self-6-clause-ok : goal.returns-in_ok-self-6-clause-ok
returns-in_ok-self-6-clause-ok c =
    let read = c.in_ok-self-6.ensures.ok in
    let key = c.args.key.now in (
      read.0,
      read.1,
      λ begun ms h. incomplete_put key read.0 ms _ _ _ _ _ _ _ _ h _ (same_key key (codes "Incomplete") c.if-eq-6.ensures) read.2,
    )

pub returns-in_ok-self-7-clause-ok : goal.returns-in_ok-self-7-clause-ok
returns-in_ok-self-7-clause-ok c =
    let read = c.in_ok-self-7.ensures.ok in
    let key = c.args.key.now in (
      read.0,
      read.1,
      λ begun ms h. dep_only_put key read.0 ms _ _ _ _ _ _ _ _ h _ (same_key key (codes "DepOnly") c.if-eq-7.ensures) read.2,
    )

pub returns-in_ok-self-8-clause-ok : goal.returns-in_ok-self-8-clause-ok
returns-in_ok-self-8-clause-ok c =
    let read = c.in_ok-self-8.ensures.ok in
    let key = c.args.key.now in (
      read.0,
      read.1,
      λ begun ms h. imports_put key read.0 ms _ _ _ _ _ _ _ _ h _ (same_key key (codes "ImportMap") c.if-eq-8.ensures) read.2,
    )

pub returns-in_ok-pass_value-clause-ok : goal.returns-in_ok-pass_value-clause-ok
returns-in_ok-pass_value-clause-ok c =
    let passed = c.in_ok-pass_value.ensures.ok in
    let key = c.args.key.now in (
      passed.0,
      passed.1,
      λ begun ms h. other_put key passed.0 ms _ _ _ _ _ _ _ _ h c.if-eq.ensures c.if-eq-2.ensures c.if-eq-3.ensures
          c.if-eq-4.ensures c.if-eq-5.ensures c.if-eq-6.ensures c.if-eq-7.ensures c.if-eq-8.ensures,
    )
