use Rattle.std.proofs.Common.{map, ap, ◌∙◌}
use Rattle.std.specs.List.{list_any}
use Rattle.kept.specs.KeptViews.{is_name_at}
use Rattle.kept_forms.specs.FormViews.{gift_view}
use Rattle.kept.proofs.holder.gives_at.Goals as goal

pub returns : goal.returns
returns c =
    c.some_name_at.ensures
    ∙ ap (list_any (is_name_at c.args.at)) (ap (map gift_view) c.deref.ensures.value ∙ c.in_ok-given.ensures)
