use Rattle.std.proofs.Common.{◌≤◌}
use Rattle.parser_base.proofs.type_faults.end_of_part.Given as goal

-- there are no more brackets than tokens
abbrev pub invariant-loop : goal.invariant-loop
invariant-loop l = l.nesting ≤ l.counter
