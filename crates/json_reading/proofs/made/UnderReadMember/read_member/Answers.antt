use Rattle.std.proofs.Common.{subst, sym, ◌∙◌}
use Rattle.json_reading.specs.Standing.{Judges}
use Rattle.json_reading.proofs.ItemsMade.{found_put, others_put}
use Rattle.json_reading.proofs.ObjectKeys.{same_key, other_key}
use Rattle.json_reading.proofs.made.UnderReadMember.read_member.Goals as goal

pub returns-in_ok-self-clause-ok : goal.returns-in_ok-self-clause-ok
returns-in_ok-self-clause-ok g c =
    let read = c.in_ok-self.ensures.ok in
    let k = c.args.key.now in
    let same = same_key k c.args.self.now.key.now c.if-eq.ensures in (
      read.value,
      read.stands,
      λ begun ms h. (
        h.0,
        h.1,
        found_put begun.key.now _ _ _ _ k read.value ms h.2 c.in_ok-self.field-0 (same ∙ h.0)
            (subst (λ r. Judges (g.R.ReadItem.is_item r) (g.R.ReadItem.is_none r) read.value c.in_ok-self.field-0) h.1
            read.judged),
      ),
    )

pub returns-in_ok-read_member-clause-ok : goal.returns-in_ok-read_member-clause-ok
returns-in_ok-read_member-clause-ok g c =
    let read = c.in_ok-read_member.ensures.ok in
    let k = c.args.key.now in
    let apart = other_key k c.args.self.now.key.now c.if-eq.ensures in (
      read.0,
      read.1,
      λ begun ms h. (
        h.0,
        h.1,
        others_put begun.key.now _ _ _ _ k read.0 ms h.2 _ (λ e. apart (e ∙ sym h.0)) (read.2 begun.others),
      ),
    )
