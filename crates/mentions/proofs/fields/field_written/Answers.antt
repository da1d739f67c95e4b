use Rattle.std.proofs.Common.{ap, option_map, sym, ◌∙◌}
use Rattle.meaning.specs.Mentions.{written}
use Rattle.mentions.specs.MarkViews.{assigned_view, field_left_view}
use Rattle.mentions.proofs.Adding.{adds_nothing, adds_same, same_adds}
use Rattle.mentions.proofs.fields.field_written.Goals as goal

pub returns-in-Some : goal.returns-in-Some
returns-in-Some c =
    same_adds _ _ _ _ _
    (ap (written c.args.site (option_map assigned_view c.args.assigned))
    (sym (ap (option_map field_left_view) c.in-Some.is) ∙ c.field_left.ensures))
    c.add.ensures

pub returns-in-None : goal.returns-in-None
returns-in-None c =
    adds_same _ _ _ _
    (ap (written c.args.site (option_map assigned_view c.args.assigned))
    (sym (ap (option_map field_left_view) c.in-None.is) ∙ c.field_left.ensures))
    (adds_nothing _)
