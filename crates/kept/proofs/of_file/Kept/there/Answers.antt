use Rattle.std.proofs.Common.{map, sym, ap, ◌∙◌}
use Rattle.mentions.specs.MarkViews.{body_view}
use Rattle.tracked.specs.LocalViews.{seen_view}
use Rattle.meaning.specs.Kept.{kept_there}
use Rattle.kept.specs.KeptViews.{keep_view}
use Rattle.kept.proofs.RowsTogether.{there_if, there_not}
use Rattle.kept.proofs.of_file.Kept.there.Goals as goal

pub returns-then-is_declared_in : goal.returns-then-is_declared_in
returns-then-is_declared_in c = λ knows.
    let seen = seen_view c.args.seen.now in
    let bodies = map body_view c.args.bodies.now in
    ap (map keep_view) c.at.ensures
    ∙ (knows.together c.in-Some.object
    ∙ (there_if seen bodies c.in-Some.object (sym c.if-is_declared_in.true ∙ c.is_declared_in.ensures)
    ∙ ap (kept_there seen bodies) (sym c.in-Some.is)))

pub returns-else-is_declared_in : goal.returns-else-is_declared_in
returns-else-is_declared_in c = λ knows.
    let seen = seen_view c.args.seen.now in
    let bodies = map body_view c.args.bodies.now in
    there_not seen bodies c.in-Some.object (sym c.if-is_declared_in.false ∙ c.is_declared_in.ensures)
    ∙ ap (kept_there seen bodies) (sym c.in-Some.is)
