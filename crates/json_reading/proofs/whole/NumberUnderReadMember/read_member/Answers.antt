use Rattle.std.proofs.Common.{option_and_then, sym, ap, ◌∙◌}
use Rattle.std.proofs.lemmas.Result.{on_ok_weaker}
use Rattle.serde_json.specs.Data.{put}
use Rattle.serde_json.specs.Find.{as_number, as_u64, get_member}
use Rattle.serde_json.proofs.Views.{get_member-put, get_member-put_other}
use Rattle.json_reading.proofs.ObjectKeys.{same_key, other_key}
use Rattle.json_reading.proofs.whole.NumberUnderReadMember.read_member.Goals as goal

pub returns-in_ok-self-clause-ok : goal.returns-in_ok-self-clause-ok
returns-in_ok-self-clause-ok c =
    let read = c.in_ok-self.ensures.ok in
    let k = c.args.key.now in
    let same = same_key k c.args.self.now.key.now c.if-eq.ensures in (
      read.0,
      read.1,
      λ begun found h. (
        h.0,
        read.2
            ∙ ap (λ o. option_and_then as_u64 (option_and_then as_number o))
            (sym (ap (λ q. get_member q (put k read.0 found)) (sym (same ∙ h.0)) ∙ get_member-put k read.0 found)),
      ),
    )

pub returns-else-eq-clause-ok : goal.returns-else-eq-clause-ok
returns-else-eq-clause-ok c =
    let k = c.args.key.now in
    let q = c.args.self.now.key.now in
    let apart = other_key k q c.if-eq.ensures in
    on_ok_weaker c.pass_value.result (λ passed. (
      passed.0,
      passed.1,
      λ begun found h. (
        h.0,
        h.1
            ∙ ap (λ o. option_and_then as_u64 (option_and_then as_number o))
            (sym (get_member-put_other begun.key.now k passed.0 found (λ e. apart (sym e ∙ sym h.0)))),
      ),
    )) c.pass_value.ensures.ok
