use Rattle.std.proofs.Common.{refl}
use Rattle.parser_base.proofs.Faults.{is_stopped}
use Rattle.parser_clauses.proofs.SimpleParts.{no_name, name}
use Rattle.parser_clauses.proofs.simple.name_of.Goals as goal

pub returns-in-Name : goal.returns-in-Name
returns-in-Name c = name _ _ (record { text = c.in-Name.text; span = c.args.item.span }) c.in-Name.is refl

pub returns-in_default : goal.returns-in_default
returns-in_default c = is_stopped c.unexpected.result _ (no_name _ _ c.in_default.not-Name)
