use Rattle.std.proofs.Common.{[], refl, sym, ap, ◌∙◌}
use Rattle.std.specs.List.{list_any}
use Rattle.mentions.specs.MarkViews.{marks_view}
use Rattle.meaning.specs.Kept.{is_of_import}
use Rattle.kept.proofs.MarksAsked.{any_placed}
use Rattle.kept.proofs.own.imports_all.Goals as goal

pub returns : goal.returns
returns c =
    c.some_import.ensures ∙ ap (λ ms. list_any is_of_import (marks_view ms)) c.deref.ensures.value
    ∙ sym (any_placed is_of_import refl [] (marks_view c.args.seen.now.marks.items))
