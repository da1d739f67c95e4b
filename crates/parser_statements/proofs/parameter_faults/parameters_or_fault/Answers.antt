use Rattle.parser_statements.proofs.parameter_faults.parameters_or_fault.Goals as goal

pub returns-after-length_end : goal.returns-after-length_end
returns-after-length_end g c = c.instead.ensures _ c.in-Err.ensures
