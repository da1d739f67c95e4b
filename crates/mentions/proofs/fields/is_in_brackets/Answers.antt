use Rattle.mentions.proofs.FieldForms.{bracketed_is, bracketed_other}
use Rattle.mentions.proofs.fields.is_in_brackets.Goals as goal

pub returns-in-Paren : goal.returns-in-Paren
returns-in-Paren c = bracketed_is _ _ _ c.in-Paren.is

pub returns-in_default : goal.returns-in_default
returns-in_default c = bracketed_other _ _ c.in_default.not-Paren
