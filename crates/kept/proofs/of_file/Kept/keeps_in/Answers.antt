use Rattle.std.proofs.Common.{map, ap, ◌∙◌}
use Rattle.std.specs.List.{list_any}
use Rattle.mentions.specs.MarkViews.{body_view}
use Rattle.tracked.specs.LocalViews.{seen_view}
use Rattle.kept.specs.KeptViews.{is_declared_in, keep_view}
use Rattle.kept.proofs.of_file.Kept.keeps_in.Goals as goal

pub returns : goal.returns
returns c = λ knows.
    c.some_declared.ensures
    ∙ ap (list_any (λ k. is_declared_in (seen_view c.args.seen.now) (map body_view c.args.bodies.now) k.object))
    (ap (map keep_view) c.deref.ensures.value ∙ knows.rows)
