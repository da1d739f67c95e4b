use Rattle.mentions.proofs.Adding.{same_adds}
use Rattle.mentions.proofs.FieldForms.{literal_given_other}
use Rattle.mentions.proofs.fields.literal_given_to.Goals as goal

pub returns-in_default : goal.returns-in_default
returns-in_default c =
    same_adds _ _ _ _ _ (literal_given_other c.args.site c.args.taker _ c.in_default.not-Nobody) c.add.ensures
