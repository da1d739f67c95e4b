use Rattle.std.proofs.Common.{map, ◌||◌, sym, ap, ◌∙◌, refl}
use Rattle.std.specs.List.{list_any}
use Rattle.facts.specs.FactViews.{item_view}
use Rattle.tree.specs.View.{parameters_syntax}
use Rattle.meaning.specs.FunctionFacts.{items_of}
use Rattle.meaning.specs.Objects.{points, parameter_items}
use Rattle.meaning.specs.Tracked.{receiver_items}
use Rattle.mentions.specs.MarkViews.{body_view}
use Rattle.objects.proofs.PointedTypes.{either_points}
use Rattle.objects.proofs.pointers.points_in.Goals as goal

pub returns-then-is_receiver : goal.returns-then-is_receiver
returns-then-is_receiver c =
    let body = body_view c.args.body in
    let rest = list_any (points c.args.number) (parameter_items body.signature) in
    ap (λ t. t || rest) (sym c.if-is_receiver.true)
    ∙ either_points c.args.number (receiver_items body.receiver) (parameter_items body.signature) c.in_ok-is_receiver.is_receiver
    rest c.in_ok-is_receiver.ensures refl

pub returns : goal.returns
returns c =
    let body = body_view c.args.body in
    ap (λ t. t || c.some_points.result) (sym c.if-is_receiver.false)
    ∙ either_points c.args.number (receiver_items body.receiver) (parameter_items body.signature) c.in_ok-is_receiver.is_receiver
    c.some_points.result c.in_ok-is_receiver.ensures
    (c.some_points.ensures
    ∙ ap (list_any (points c.args.number))
    (ap (map item_view) c.deref-2.ensures.value ∙ c.in_ok-items.ensures
    ∙ ap (λ ps. items_of (parameters_syntax ps)) c.deref.ensures.value))
