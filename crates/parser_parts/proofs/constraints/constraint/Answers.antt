use Rattle.parser_parts.proofs.constraints.constraint.Goals as goal

pub returns-in-Err : goal.returns-in-Err
returns-in-Err g c = c.fault_of_constraint.ensures _ c.in-Err.ensures
