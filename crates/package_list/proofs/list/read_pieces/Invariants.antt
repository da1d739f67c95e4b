use Rattle.std.proofs.Common.{map, option_map, length}
use Rattle.package_list.specs.ListedValues.{package_of}
use Rattle.package_list.proofs.PiecesRead.{Continues}
use Rattle.package_list.proofs.list.read_pieces.Given as goal

-- what was read, with what is left, is the whole
abbrev pub invariant-pieces : goal.invariant-pieces
invariant-pieces l = Continues l.bytes l.rest (option_map (λ list. map package_of list.items) l.found)

abbrev pub decreases-pieces : goal.decreases-pieces
decreases-pieces l = length l.rest
