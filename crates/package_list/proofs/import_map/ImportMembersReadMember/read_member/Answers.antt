use Rattle.std.proofs.Common.{◌≡◌, string_cmp, map, sym, subst, rules}
use Rattle.std.specs.BTreeMap.{insert_entry}
use Rattle.serde_json.specs.Data.{put}
use Rattle.package_list.specs.ListRead.{kept_text, texts_there}
use Rattle.package_list.proofs.ImportsRead.{put_kept}
use Rattle.package_list.proofs.import_map.ImportMembersReadMember.read_member.Goals as goal

pub returns-clause-ok : goal.returns-clause-ok
returns-clause-ok c =
    let read = c.in_ok-text.ensures.ok in
    let before = c.args.self.now.texts.entries in
    let key = c.in_ok-key.key in
    let text = c.in_ok-text.text in
    let put_there : c.insert.new.self.entries ≡ insert_entry string_cmp before key text = search rules in (
      read.0,
      read.1,
      λ begun ms h.
          subst (λ es. map kept_text es ≡ texts_there (put c.args.key.now read.0 ms)) (sym put_there)
          (subst (λ k. map kept_text (insert_entry string_cmp before key text) ≡ texts_there (put k read.0 ms)) c.in_ok-key.ensures.ok
          (put_kept key text read.0 before ms read.2 h)),
    )
