use Rattle.std.proofs.Common.{sym, ap, ◌∙◌}
use Rattle.mentions.specs.MarkViews.{field_mark_view, mark_view}
use Rattle.meaning.specs.Kept.{is_of_import}
use Rattle.kept.proofs.PlacesGiven.{names_brought, no_import}
use Rattle.kept.proofs.own.is_of_import.Goals as goal

pub returns-in-OfFields : goal.returns-in-OfFields
returns-in-OfFields c =
    c.brings_names.ensures ∙ names_brought 0 (field_mark_view c.in-OfFields.field.now)
    ∙ ap (λ m. is_of_import (mark_view m)) (sym c.in-OfFields.is)

pub returns-in_default : goal.returns-in_default
returns-in_default c = no_import c.args.mark c.in_default.not-OfFields
