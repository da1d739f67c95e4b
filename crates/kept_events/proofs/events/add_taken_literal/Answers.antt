use Rattle.std.proofs.Common.{[], if◌then◌else◌, map, sym, ap, ◌∙◌}
use Rattle.facts.proofs.FactParts.{on_ok}
use Rattle.mentions.specs.MarkViews.{body_view}
use Rattle.tracked.specs.LocalViews.{seen_view}
use Rattle.meaning.specs.Kept.{literal_gifts}
use Rattle.kept_forms.proofs.AddedParts.{adds_same, adds_none_of}
use Rattle.kept_events.proofs.events.add_taken_literal.Goals as goal

pub returns-then-not-takes_it : goal.returns-then-not-takes_it
returns-then-not-takes_it c = λ site.
    let given = literal_gifts (seen_view c.args.here.around.seen.now) (map body_view c.args.here.around.bodies.now)
    c.args.literal in
    adds_none_of _ _ (ap (λ b. if b then given else []) (sym c.if-not-takes_it.true ∙ c.takes_it.ensures))

pub returns : goal.returns
returns c =
    let given = literal_gifts (seen_view c.args.here.around.seen.now) (map body_view c.args.here.around.bodies.now)
    c.args.literal in
    on_ok c.add_literal.result
    (λ added site. adds_same _ _ _ _ (ap (λ b. if b then given else []) (sym c.if-not-takes_it.false ∙ c.takes_it.ensures)) added)
    c.add_literal.ensures
