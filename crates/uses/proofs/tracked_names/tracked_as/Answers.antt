use Rattle.std.proofs.Common.{option_map, sym, ap, ◌∙◌}
use Rattle.meaning.specs.Uses.{found}
use Rattle.tracked.specs.LocalViews.{entry_view, seen_view}
use Rattle.uses.proofs.OutcomesOfEntries.{tracked_same}
use Rattle.uses.proofs.tracked_names.tracked_as.Goals as goal

pub returns-in-Some : goal.returns-in-Some
returns-in-Some c =
    let seen = seen_view c.args.seen.now in
    c.tracked_kind.ensures
    ∙ tracked_same seen (entry_view c.in-Some.entry) (found seen c.args.number)
    (sym (ap (option_map entry_view) c.in-Some.is) ∙ c.entry.ensures)
