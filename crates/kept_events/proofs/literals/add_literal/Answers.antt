use Rattle.std.proofs.Common.{map, flat_map, sym, ap, ◌∙◌}
use Rattle.mentions.specs.MarkViews.{body_view}
use Rattle.tracked.specs.LocalViews.{seen_view}
use Rattle.meaning.specs.Kept.{first_mentions}
use Rattle.kept_forms.proofs.AddedParts.{ok_same, adds_none_of}
use Rattle.kept_events.specs.KeptEventViews.{gives_first}
use Rattle.literal_mentions.specs.LiteralViews.{mention_at_view}
use Rattle.kept_events.proofs.FirstGiven.{literal_gives_nothing}
use Rattle.kept_events.proofs.literals.add_literal.Goals as goal

pub returns-then-not-keeps_in : goal.returns-then-not-keeps_in
returns-then-not-keeps_in c =
    adds_none_of _ _
    (literal_gives_nothing (seen_view c.args.here.around.seen.now) (map body_view c.args.here.around.bodies.now)
    c.args.literal (sym c.if-not-keeps_in.true ∙ c.keeps_in.ensures c.requires.knows))

pub returns : goal.returns
returns c =
    ok_same c.add_mentioned.result _ _ _ _
    (ap (λ ms. flat_map (gives_first (seen_view c.args.here.around.seen.now) (map body_view c.args.here.around.bodies.now)) (first_mentions ms))
    (ap (map mention_at_view) c.deref.ensures.value ∙ c.in_ok-mentions.ensures))
    c.add_mentioned.ensures
