use Rattle.std.proofs.Common.{codes}
use Rattle.json_reading.proofs.ObjectKeys.{same_key, other_key}
use Rattle.table_json.proofs.FunctionsRead.{causes_put, gives_put, name_put, params_put, unknown_put}
use Rattle.table_json.proofs.functions.FunctionMembersReadMember.read_member.Goals as goal

pub returns-in_ok-self-clause-ok : goal.returns-in_ok-self-clause-ok
returns-in_ok-self-clause-ok c =
    let read = c.in_ok-self.ensures.ok in
    let key = c.args.key.now in (
      read.value,
      read.stands,
      λ begun ms h. (
        h.0,
        causes_put key read.value ms _ _ _ _ _ _ h.1 _ (same_key key (codes "causes") c.if-eq.ensures)
            read.judged,
      ),
    )

pub returns-in_ok-self-2-clause-ok : goal.returns-in_ok-self-2-clause-ok
returns-in_ok-self-2-clause-ok c =
    let read = c.in_ok-self-2.ensures.ok in
    let key = c.args.key.now in (
      read.value,
      read.stands,
      λ begun ms h. (
        h.0,
        gives_put key read.value ms _ _ _ _ _ _ h.1 _ (same_key key (codes "gives") c.if-eq-2.ensures)
            read.judged,
      ),
    )

pub returns-in_ok-self-3-clause-ok : goal.returns-in_ok-self-3-clause-ok
returns-in_ok-self-3-clause-ok c =
    let read = c.in_ok-self-3.ensures.ok in
    let key = c.args.key.now in (
      read.value,
      read.stands,
      λ begun ms h. (
        h.0,
        name_put key read.value ms _ _ _ _ _ _ h.1 _ (same_key key (codes "name") c.if-eq-3.ensures)
            read.judged,
      ),
    )

pub returns-in_ok-self-4-clause-ok : goal.returns-in_ok-self-4-clause-ok
returns-in_ok-self-4-clause-ok c =
    let read = c.in_ok-self-4.ensures.ok in
    let key = c.args.key.now in (
      read.value,
      read.stands,
      λ begun ms h. (
        h.0,
        params_put key read.value ms _ _ _ _ _ _ h.1 _ (same_key key (codes "params") c.if-eq-4.ensures)
            read.judged,
      ),
    )

pub returns-in_ok-pass_value-clause-ok : goal.returns-in_ok-pass_value-clause-ok
returns-in_ok-pass_value-clause-ok c =
    let passed = c.in_ok-pass_value.ensures.ok in
    let key = c.args.key.now in (
      passed.0,
      passed.1,
      λ begun ms h. (
        h.0,
        unknown_put key passed.0 ms _ _ _ _ _ _ h.1 (other_key key (codes "causes") c.if-eq.ensures)
            (other_key key (codes "gives") c.if-eq-2.ensures) (other_key key (codes "name") c.if-eq-3.ensures)
            (other_key key (codes "params") c.if-eq-4.ensures),
      ),
    )
