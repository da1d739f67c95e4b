use Rattle.std.proofs.Common.{is_some, ap, ◌∙◌}
use Rattle.mentions.specs.MarkViews.{mention_view}
use Rattle.tracked_rows.specs.RowViews.{known_view}
use Rattle.facts.proofs.FactParts.{on_ok}
use Rattle.tracked.specs.LocalViews.{bound_in}
use Rattle.tracked.proofs.BoundAgain.{one_bound, none_bound}
use Rattle.tracked.proofs.unbound.note_mention.Goals as goal

pub returns-in-Some : goal.returns-in-Some
returns-in-Some c =
    on_ok c.put.result
    (λ puts n. ap is_some (puts n)
    ∙ one_bound (known_view c.args.known) (mention_view c.args.mention) c.in-Some.number (rw c.in-Some.is at c.bound_by.ensures) n
    (bound_in c.args.bound.now n))
    c.put.ensures

pub returns-in-None : goal.returns-in-None
returns-in-None c = λ n.
    none_bound (known_view c.args.known) (mention_view c.args.mention) (rw c.in-None.is at c.bound_by.ensures) n
    (bound_in c.args.bound.now n)
