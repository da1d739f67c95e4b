use Rattle.std.proofs.Common.{ap, ◌∙◌}
use Rattle.meaning.specs.Kept.{in_order_of_place}
use Rattle.literal_mentions.proofs.mentioned.mentioned_in_order.Goals as goal

pub returns : goal.returns
returns c = c.in_ok-order_by_place.ensures ∙ ap in_order_of_place c.in_ok-found.ensures
