use Rattle.std.proofs.Common.{sym, ap, ◌∙◌}
use Rattle.mentions.specs.MarkViews.{form_view}
use Rattle.kept.specs.KeptViews.{assigns_one}
use Rattle.kept.proofs.AssignedForms.{one_assigned}
use Rattle.kept.proofs.stored.assigns_one.Goals as goal

pub returns-in-Assigns : goal.returns-in-Assigns
returns-in-Assigns c = one_assigned c.in-Assigns.left.now ∙ ap (λ form. assigns_one (form_view form)) (sym c.in-Assigns.is)
