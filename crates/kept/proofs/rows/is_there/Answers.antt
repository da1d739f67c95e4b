use Rattle.std.proofs.Common.{ap, ◌∙◌, is_some}
use Rattle.tracked.specs.LocalViews.{object_kind_view}
use Rattle.kept.proofs.Gatherings.{some_seen}
use Rattle.kept.proofs.rows.is_there.Goals as goal

pub returns : goal.returns
returns c =
    c.is_some.ensures ∙ some_seen object_kind_view c.in_ok-kind.kind
    ∙ ap is_some (c.in_ok-kind.ensures c.requires.some_keep)
