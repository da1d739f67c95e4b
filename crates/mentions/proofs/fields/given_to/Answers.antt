use Rattle.mentions.proofs.Adding.{same_adds}
use Rattle.mentions.proofs.FieldForms.{given_other}
use Rattle.mentions.proofs.fields.given_to.Goals as goal

pub returns-in_default : goal.returns-in_default
returns-in_default c =
    same_adds _ _ _ _ _ (given_other c.args.site c.args.taker _ c.in_default.not-Nobody) c.add.ensures
