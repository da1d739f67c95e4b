use Rattle.parser_clauses.proofs.TypeGuards.{primary-Binary, primary-Unary, primary-Star, primary-other}
use Rattle.parser_clauses.proofs.switches.is_primary.Goals as goal

pub returns-in-Binary : goal.returns-in-Binary
returns-in-Binary c = primary-Binary _ _ _ _ c.in-Binary.is

pub returns-in-Unary : goal.returns-in-Unary
returns-in-Unary c = primary-Unary _ _ _ c.in-Unary.is

pub returns-in-Star : goal.returns-in-Star
returns-in-Star c = primary-Star _ _ c.in-Star.is

pub returns-in_default : goal.returns-in_default
returns-in_default c = primary-other _ c.in_default.not-Star c.in_default.not-Unary c.in_default.not-Binary
