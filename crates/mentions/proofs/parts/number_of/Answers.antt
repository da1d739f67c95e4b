use Rattle.std.proofs.Common.{ap, ◌∙◌}
use Rattle.meaning.specs.Mentions.{number_of}
use Rattle.mentions.specs.MarkViews.{identifier_at}
use Rattle.mentions.proofs.parts.number_of.Goals as goal

pub returns : goal.returns
returns c = c.number_at.ensures ∙ ap (λ text. number_of (identifier_at text c.args.name.now.span)) c.as_str.ensures
