use Rattle.parser_parts.proofs.indexes.index_of_types_or_length.Goals as goal

pub returns-in-Err : goal.returns-in-Err
returns-in-Err g c = c.fault_of_types_or_length.ensures _ c.in-Err.ensures
