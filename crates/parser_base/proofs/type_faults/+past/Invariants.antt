-- Types in the brackets of a type are one less deep.
use Rattle.std.proofs.Common.{◌+◌, ◌*◌}
use Rattle.parser_base.proofs.type_faults.+past.Given as goal

abbrev pub decreases-past_types : goal.decreases-past_types
decreases-past_types l = 2 * l.most + 1

abbrev pub decreases-past_type : goal.decreases-past_type
decreases-past_type l = 2 * l.most
