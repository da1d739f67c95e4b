use Rattle.std.proofs.Common.{◌≡◌, drop, map}
use Rattle.explanations.specs.Pointers.{first_in}
use Rattle.tree.specs.View.{top_level_syntax}
use Rattle.explanations.proofs.pointers.first_in.Given as goal

-- the first of those that are left is the first of all
abbrev pub invariant-loop-declaration : goal.invariant-loop-declaration
invariant-loop-declaration l =
    first_in l.name (map top_level_syntax (drop l.declaration-index l.declarations))
    ≡ first_in l.name (map top_level_syntax l.declarations)
