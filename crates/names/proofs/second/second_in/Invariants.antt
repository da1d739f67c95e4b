use Rattle.std.proofs.Common.{map, drop}
use Rattle.tree.specs.View.{top_level_syntax}
use Rattle.names.proofs.SecondFunctions.{has_name, IsWalked}
use Rattle.names.proofs.second.second_in.Given as goal

abbrev pub invariant-loop-declaration : goal.invariant-loop-declaration
invariant-loop-declaration l =
    let rest = map top_level_syntax (drop l.declaration-index l.declarations) in
    IsWalked (has_name l.initial.seen) (has_name l.seen) rest (map top_level_syntax l.declarations)
