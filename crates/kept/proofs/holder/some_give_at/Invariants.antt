use Rattle.std.proofs.Common.{◌≡◌, drop, map}
use Rattle.std.specs.List.{list_any}
use Rattle.tree.specs.View.{expression_syntax}
use Rattle.kept.specs.KeptViews.{gives_at}
use Rattle.kept.proofs.holder.some_give_at.Given as goal

-- what is told of those that are left is told of all
abbrev pub invariant-loop-value : goal.invariant-loop-value
invariant-loop-value l =
    list_any (gives_at l.at) (map expression_syntax (drop l.value-index l.values))
    ≡ list_any (gives_at l.at) (map expression_syntax l.values)
