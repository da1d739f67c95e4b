use Rattle.std.proofs.Common.{sym, ap, ◌∙◌}
use Rattle.mentions.specs.MarkViews.{form_view}
use Rattle.kept_forms.specs.FormViews.{declares_one}
use Rattle.tree.specs.View.{identifier_syntax}
use Rattle.kept_forms.proofs.DeclaredForms.{one_defined}
use Rattle.kept_forms.proofs.elements.declares_one.Goals as goal

pub returns-in-Defines : goal.returns-in-Defines
returns-in-Defines c =
    one_defined identifier_syntax c.in-Defines.names.now ∙ ap (λ form. declares_one (form_view form)) (sym c.in-Defines.is)
