use Rattle.std.proofs.Common.{map, ap, ◌∙◌}
use Rattle.std.specs.List.{list_any}
use Rattle.kept_forms.specs.FormViews.{element_view}
use Rattle.tracked_rows.specs.RowViews.{known_view}
use Rattle.keeping.specs.PlainFiles.{element_may_put}
use Rattle.keeping.proofs.may_put.role_may_put.Goals as goal

pub returns : goal.returns
returns c =
    c.elements_may_put.ensures
    ∙ ap (list_any (element_may_put (known_view c.args.known) c.args.numbers.now))
    (ap (map element_view) c.deref.ensures.value ∙ c.in_ok-elements.ensures)
