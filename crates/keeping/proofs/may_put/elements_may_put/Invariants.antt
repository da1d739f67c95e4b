use Rattle.std.proofs.Common.{◌≡◌, drop, map}
use Rattle.std.specs.List.{list_any}
use Rattle.kept_forms.specs.FormViews.{element_view}
use Rattle.tracked_rows.specs.RowViews.{known_view}
use Rattle.keeping.specs.PlainFiles.{element_may_put}
use Rattle.keeping.proofs.may_put.elements_may_put.Given as goal

-- the test of those that are left is that of all
abbrev pub invariant-loop-element : goal.invariant-loop-element
invariant-loop-element l =
    list_any (element_may_put (known_view l.known) l.numbers) (map element_view (drop l.element-index l.elements))
    ≡ list_any (element_may_put (known_view l.known) l.numbers) (map element_view l.elements)
