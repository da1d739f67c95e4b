use Rattle.parser_base.proofs.Nodes.{no_package, no_type_name}
use Rattle.parser_base.proofs.shapes.names_type.Goals as goal

pub returns-in_default-matches : goal.returns-in_default-matches
returns-in_default-matches c = no_package _ c.in-Selector.qualifier _ _ c.in-Selector.is c.deref.ensures c.in_default-matches.not-Name

pub returns-in_default : goal.returns-in_default
returns-in_default c = no_type_name _ c.in_default.not-Name c.in_default.not-Selector
