use Rattle.mentions.specs.MarkViews.{taker_view}
use Rattle.marks.proofs.FieldsTold.{all_told, none_told, literal_given}
use Rattle.marks.proofs.by_fields.literal_given_to.Goals as goal

pub returns-then-tells_fields : goal.returns-then-tells_fields
returns-then-tells_fields c = all_told _ _ c.literal_given_to.new.marks _ c.if-tells_fields.ensures c.literal_given_to.ensures

pub returns-else-tells_fields : goal.returns-else-tells_fields
returns-else-tells_fields c =
    none_told _ _ c.if-tells_fields.ensures
    (literal_given c.args.site (taker_view c.args.taker) c.args.at)
