use Rattle.std.proofs.Common.{ap, ◌∙◌}
use Rattle.meaning.specs.Uses.{has_its_arguments}
use Rattle.mentions.specs.MarkViews.{call_view}
use Rattle.tracked.specs.LocalViews.{entry_view, seen_view}
use Rattle.kept_events.proofs.KeptParts.{has_found, has_none}
use Rattle.kept_events.proofs.called.has_arguments_of.Goals as goal

pub returns-in-Some : goal.returns-in-Some
returns-in-Some c =
    has_found (seen_view c.args.seen.now) (call_view c.args.call) _ (entry_view c.in-Some.entry)
    (rw c.in-Some.is at c.entry.ensures) _ (c.has_its_arguments.ensures ∙ ap (λ t. has_its_arguments t (call_view c.args.call)) c.cancel_type_of.ensures)

pub returns-in-None : goal.returns-in-None
returns-in-None c =
    has_none (seen_view c.args.seen.now) (call_view c.args.call) _ (rw c.in-None.is at c.entry.ensures)
