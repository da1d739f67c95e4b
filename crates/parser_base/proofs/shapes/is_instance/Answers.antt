use Rattle.parser_base.proofs.ReadForms.{no_instance}
use Rattle.parser_base.proofs.shapes.is_instance.Goals as goal

pub returns-in_default : goal.returns-in_default
returns-in_default c = no_instance _ c.in_default.not-Index c.in_default.not-Instance
