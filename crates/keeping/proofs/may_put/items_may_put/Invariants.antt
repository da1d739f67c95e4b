use Rattle.std.proofs.Common.{◌≡◌, drop, map}
use Rattle.std.specs.List.{list_any}
use Rattle.tracked_rows.specs.RowViews.{known_view}
use Rattle.tree.specs.View.{expression_syntax}
use Rattle.keeping.specs.PlainFiles.{given_may_put}
use Rattle.keeping.proofs.may_put.items_may_put.Given as goal

-- the test of those that are left is that of all
abbrev pub invariant-loop-item : goal.invariant-loop-item
invariant-loop-item l =
    list_any (given_may_put (known_view l.known) l.numbers) (map expression_syntax (drop l.item-index l.items))
    ≡ list_any (given_may_put (known_view l.known) l.numbers) (map expression_syntax l.items)
