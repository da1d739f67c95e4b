use Rattle.std.proofs.Common.{[], if◌then◌else◌, map, flat_map, sym, ap, ◌∙◌}
use Rattle.facts.proofs.FactParts.{on_ok}
use Rattle.mentions.specs.MarkViews.{body_view}
use Rattle.tracked.specs.LocalViews.{seen_view}
use Rattle.tree.specs.Syntax.{missing_expression}
use Rattle.tree.specs.View.{expression_syntax}
use Rattle.meaning.specs.Kept.{gift_events, gifts}
use Rattle.kept_forms.proofs.AddedParts.{adds_same, adds_none_of}
use Rattle.kept_events.proofs.events.add_taken.Goals as goal

pub returns-then-not-takes_it : goal.returns-then-not-takes_it
returns-then-not-takes_it c = λ site.
    let given = flat_map (gift_events (seen_view c.args.here.around.seen.now) (map body_view c.args.here.around.bodies.now))
    (gifts missing_expression (expression_syntax c.args.value.now)) in
    adds_none_of _ _ (ap (λ b. if b then given else []) (sym c.if-not-takes_it.true ∙ c.takes_it.ensures))

pub returns : goal.returns
returns c =
    let given = flat_map (gift_events (seen_view c.args.here.around.seen.now) (map body_view c.args.here.around.bodies.now))
    (gifts missing_expression (expression_syntax c.args.value.now)) in
    on_ok c.add_given.result
    (λ added site. adds_same _ _ _ _ (ap (λ b. if b then given else []) (sym c.if-not-takes_it.false ∙ c.takes_it.ensures)) added)
    c.add_given.ensures
