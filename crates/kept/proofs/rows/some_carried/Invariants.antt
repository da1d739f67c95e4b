use Rattle.std.proofs.Common.{◌≡◌, drop, map}
use Rattle.std.specs.List.{list_any}
use Rattle.mentions.specs.MarkViews.{body_view}
use Rattle.tracked.specs.LocalViews.{seen_view}
use Rattle.kept.specs.KeptViews.{is_carried}
use Rattle.kept_forms.specs.FormViews.{element_view}
use Rattle.kept.proofs.rows.some_carried.Given as goal

-- what is told of those that are left is told of all
abbrev pub invariant-loop-element : goal.invariant-loop-element
invariant-loop-element l =
    list_any (is_carried (seen_view l.around.seen.now) (map body_view l.around.bodies.now))
    (map element_view (drop l.element-index l.elements))
    ≡ list_any (is_carried (seen_view l.around.seen.now) (map body_view l.around.bodies.now)) (map element_view l.elements)
