use Rattle.std.proofs.Common.{◌≡◌, ◌++◌, drop, map}
use Rattle.mentions.specs.MarkViews.{body_view}
use Rattle.tracked.specs.LocalViews.{seen_view}
use Rattle.kept.specs.KeptViews.{element_keeps, keep_view}
use Rattle.kept_forms.specs.FormViews.{element_view}
use Rattle.kept.proofs.rows.add_elements.Given as goal

-- what was added, with what is left, is the whole
abbrev pub invariant-loop-element : goal.invariant-loop-element
invariant-loop-element l =
    map keep_view l.keeps.items
    ++ element_keeps (seen_view l.around.seen.now) (map body_view l.around.bodies.now) l.object
    (map element_view (drop l.element-index l.elements))
    ≡ map keep_view l.initial.keeps.items
    ++ element_keeps (seen_view l.around.seen.now) (map body_view l.around.bodies.now) l.object (map element_view l.elements)
