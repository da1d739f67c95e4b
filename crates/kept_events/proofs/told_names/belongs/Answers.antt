use Rattle.std.proofs.Common.{◌∙◌}
use Rattle.kept.specs.KeptViews.{keep_view}
use Rattle.kept_events.proofs.told_names.belongs.Goals as goal

pub returns : goal.returns
returns c = c.belongs.ensures ∙ c.requires.knows.belongs (keep_view c.args.keep)
