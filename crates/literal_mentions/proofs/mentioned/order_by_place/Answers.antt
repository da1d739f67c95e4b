use Rattle.std.proofs.Common.{rules}
use Rattle.std.proofs.lemmas.List.Sorted.{answers_always}
use Rattle.literal_mentions.proofs.LiteralMentions.{place_of, ordered_by_place}
use Rattle.literal_mentions.proofs.mentioned.order_by_place.Goals as goal

pub returns : goal.returns
returns c =
    let answers = answers_always _ _ _ λ f a r u h. search rules in
    ordered_by_place c.sort_by_key.result c.args.mentions.now.items c.sort_by_key.new.self.items
    c.sort_by_key.ensures.sorted (λ sorted. sorted place_of answers) (c.sort_by_key.ensures.stable place_of answers)
