use Rattle.std.proofs.Common.{map, sym, subst}
use Rattle.serde_json.specs.Data.{put}
use Rattle.unit_config.specs.KeyedTexts.{keyed_of, HasTexts}
use Rattle.unit_config.proofs.KeyedRead.{texts_put}
use Rattle.unit_config.proofs.texts.TextMembersReadMember.read_member.Goals as goal

pub returns-clause-ok : goal.returns-clause-ok
returns-clause-ok c =
    let read = c.in_ok-text.ensures.ok in
    let key = c.args.key.now in (
      read.0,
      read.1,
      λ begun ms h. subst (λ entries. HasTexts entries (put key read.0 ms)) (sym c.in_ok-add_entry.ensures)
          (texts_put key read.0 ms (map keyed_of c.args.self.now.entries.items) _ c.in_ok-key.ensures.ok read.2 h),
    )
