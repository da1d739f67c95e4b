use Rattle.std.proofs.Common.{ℕ, List, Option, map, option_map, ap, sym, ◌∙◌, subst}
use Rattle.std.specs.Prelude.{OnOk}
use Rattle.facts.specs.FactViews.{cancel_result_view}
use Rattle.kept_events.specs.KeptEventViews.{AddsHanded}
use Rattle.meaning.specs.Uses.{Handed, found}
use Rattle.tracked.specs.LocalViews.{entry_of, entry_view, seen_view}
use Rattle.kept_events.proofs.HandedLocals.{handed_same}
use Rattle.kept_events.proofs.returned.add_item.Goals as goal

pub returns-in-Some : goal.returns-in-Some
returns-in-Some c =
    let seen = seen_view c.args.seen.now in
    subst (λ (hs : List Handed). OnOk c.add_local.result (AddsHanded c.args.handed.now.items c.add_local.new.handed.items hs))
    (handed_same seen c.args.position (map cancel_result_view c.args.gives.now) (entry_view c.in-Some.entry) _
    (sym (ap (option_map entry_view) c.in-Some.is)
    ∙ (c.entry.ensures ∙ ap (λ (n : Option ℕ). option_map (entry_of seen) (found seen n)) c.item_variable.ensures)))
    c.add_local.ensures
