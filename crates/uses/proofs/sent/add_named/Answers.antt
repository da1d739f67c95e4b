use Rattle.std.proofs.Common.{ℕ, List, Option, map, option_map, ap, sym, ◌∙◌, subst}
use Rattle.std.specs.Prelude.{OnOk}
use Rattle.mentions.specs.MarkViews.{body_view, call_view}
use Rattle.meaning.specs.Uses.{Sent, found}
use Rattle.tracked.specs.LocalViews.{entry_of, entry_view, seen_view}
use Rattle.uses.specs.SentViews.{AddsSent}
use Rattle.uses.proofs.SentParts.{sent_same}
use Rattle.uses.proofs.sent.add_named.Goals as goal

pub returns-in-Some : goal.returns-in-Some
returns-in-Some c =
    let seen = seen_view c.args.there.seen.now in
    subst (λ (xs : List Sent). OnOk c.add_local.result (AddsSent c.args.sent.now.items c.add_local.new.sent.items xs))
    (sent_same seen (map body_view c.args.there.bodies.now) (call_view c.args.there.call) c.args.position
    (entry_view c.in-Some.entry) _
    (sym (ap (option_map entry_view) c.in-Some.is)
    ∙ (c.entry.ensures ∙ ap (λ (n : Option ℕ). option_map (entry_of seen) (found seen n)) c.item_variable.ensures)))
    c.add_local.ensures
