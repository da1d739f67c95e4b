use Rattle.tree.specs.View.{expression_syntax}
use Rattle.mentions.specs.MarkViews.{place_view}
use Rattle.mentions.proofs.FieldForms.{named_place, other_place}
use Rattle.mentions.proofs.fields.arguments_place.Goals as goal

pub returns-in-Some : goal.returns-in-Some
returns-in-Some c =
    named_place (place_view c.args.place) (expression_syntax c.args.callee.now) _ _ c.in-Some.is c.as_bracketed.ensures

pub returns-in-None : goal.returns-in-None
returns-in-None c =
    other_place (place_view c.args.place) (expression_syntax c.args.callee.now) _ c.in-None.is c.as_bracketed.ensures
