use Rattle.std.proofs.Common.{ap}
use Rattle.tree.specs.View.{expression_syntax}
use Rattle.meaning.specs.Mentions.{argument_taker, given_to}
use Rattle.mentions.specs.MarkViews.{optional_call, place_view}
use Rattle.mentions.proofs.Adding.{same_adds}
use Rattle.marks.proofs.FieldsTold.{all_told, none_told, given}
use Rattle.marks.proofs.by_fields.argument_given.Goals as goal

pub returns-then-tells_fields : goal.returns-then-tells_fields
returns-then-tells_fields c =
    all_told _ _ c.given_to.new.marks _ c.if-tells_fields.ensures
    (same_adds _ _ _ _ _
    (ap (λ taker. given_to c.args.site taker (expression_syntax c.args.argument.now)) c.argument_taker.ensures)
    c.given_to.ensures)

pub returns-else-tells_fields : goal.returns-else-tells_fields
returns-else-tells_fields c =
    none_told _ _ c.if-tells_fields.ensures
    (given c.args.site (argument_taker (place_view c.args.place) (optional_call c.args.call)) (expression_syntax c.args.argument.now))
