use Rattle.std.proofs.Common.{[], ◌∷◌, ap}
use Rattle.meaning.specs.Mentions.{declaring, exposed}
use Rattle.mentions.specs.MarkViews.{identifier_at}
use Rattle.mentions.proofs.Adding.{same_adds}
use Rattle.mentions.proofs.parts.declare_text.Goals as goal

pub returns : goal.returns
returns c =
    same_adds _ _ _ _ _
    (ap (λ number. declaring c.args.site exposed (identifier_at c.args.text.now c.args.span) number ∷ []) c.number_at.ensures)
    c.push.ensures
