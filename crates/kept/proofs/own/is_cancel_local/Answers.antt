use Rattle.std.proofs.Common.{ap, ◌∙◌}
use Rattle.meaning.specs.Uses.{is_cancel}
use Rattle.tracked.specs.LocalViews.{entry_view, seen_view}
use Rattle.kept.proofs.Gatherings.{cancel_found, none_cancels}
use Rattle.kept.proofs.own.is_cancel_local.Goals as goal

pub returns-in-Some : goal.returns-in-Some
returns-in-Some c =
    cancel_found (seen_view c.args.seen.now) _ (entry_view c.in-Some.entry) (rw c.in-Some.is at c.entry.ensures) _
    (c.is_cancel.ensures ∙ ap is_cancel c.tracked_kind.ensures)

pub returns-in-None : goal.returns-in-None
returns-in-None c = none_cancels (seen_view c.args.seen.now) _ (rw c.in-None.is at c.entry.ensures)
