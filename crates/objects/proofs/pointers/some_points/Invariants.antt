use Rattle.std.proofs.Common.{◌≡◌, map, drop}
use Rattle.std.specs.List.{list_any}
use Rattle.facts.specs.FactViews.{item_view}
use Rattle.meaning.specs.Objects.{points}
use Rattle.objects.proofs.pointers.some_points.Given as goal

-- what is told of those that are left is told of all
abbrev pub invariant-loop-item : goal.invariant-loop-item
invariant-loop-item l =
    list_any (points l.number) (map item_view (drop l.item-index l.items))
    ≡ list_any (points l.number) (map item_view l.items)
