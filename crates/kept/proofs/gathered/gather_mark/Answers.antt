use Rattle.std.proofs.Common.{map, sym, ap, subst}
use Rattle.facts.proofs.FactParts.{on_ok}
use Rattle.mentions.specs.MarkViews.{body_view, mark_view, mention_view}
use Rattle.tracked.specs.LocalViews.{seen_view}
use Rattle.kept.specs.KeptViews.{GathersMark}
use Rattle.kept.proofs.Gatherings.{gathers_kept, no_mark}
use Rattle.kept.proofs.gathered.gather_mark.Goals as goal

pub returns-in-Mentions : goal.returns-in-Mentions
returns-in-Mentions c =
    on_ok c.add_declared.result
    (λ kept. gathers_kept (seen_view c.args.around.seen.now) (map body_view c.args.around.bodies.now) _
    (mention_view c.in-Mentions.mention) (sym (ap mark_view c.in-Mentions.is)) c.args.gathered.now _ kept)
    c.add_declared.ensures

pub returns-in-OfFields : goal.returns-in-OfFields
returns-in-OfFields c =
    on_ok c.gather_field.result
    (λ gathers. subst (λ m. GathersMark (seen_view c.args.around.seen.now) (map body_view c.args.around.bodies.now)
    (mark_view m) c.args.gathered.now c.gather_field.new.gathered) (sym c.in-OfFields.is) (gathers _))
    c.gather_field.ensures

pub returns-in_default : goal.returns-in_default
returns-in_default c =
    no_mark (seen_view c.args.around.seen.now) (map body_view c.args.around.bodies.now) c.args.mark c.args.gathered.now
    c.in_default.not-Mentions c.in_default.not-OfFields
