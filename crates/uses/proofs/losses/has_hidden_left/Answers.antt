use Rattle.std.proofs.Common.{◌∙◌, ap, sym}
use Rattle.std.specs.List.{list_any}
use Rattle.facts.proofs.ListedItems.{listed-map}
use Rattle.meaning.specs.Uses.{has_hidden_left, may_be_a_local}
use Rattle.mentions.specs.MarkViews.{form_view}
use Rattle.uses.proofs.losses.has_hidden_left.Goals as goal

pub returns-in-Assigns : goal.returns-in-Assigns
returns-in-Assigns c =
    c.some_may_be_a_local.ensures ∙ ap (list_any may_be_a_local) (sym (listed-map c.in-Assigns.lefts.now))
    ∙ ap (λ form. has_hidden_left (form_view form)) (sym c.in-Assigns.is)
