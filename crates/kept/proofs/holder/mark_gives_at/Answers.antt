use Rattle.std.proofs.Common.{sym, ap, ◌∙◌}
use Rattle.std.specs.Prelude.{◌==◌}
use Rattle.std.specs.List.{list_any}
use Rattle.std.proofs.lemmas.Result.{IfOk-weaker}
use Rattle.mentions.specs.MarkViews.{field_mark_view, mark_view}
use Rattle.tracked_rows.specs.RowViews.{known_view}
use Rattle.meaning.specs.Kept.{places_given}
use Rattle.kept.proofs.PlacesGiven.{items_there, fields_give, none_given_there}
use Rattle.kept.proofs.holder.mark_gives_at.Goals as goal

pub returns-in-OfFields : goal.returns-in-OfFields
returns-in-OfFields c =
    IfOk-weaker c.field_gives_at.result _ _
    (λ is tells. tells
    ∙ ap (list_any (λ n. n == c.args.at)) (fields_give (known_view c.args.known) 0 (field_mark_view c.in-OfFields.field.now))
    ∙ ap (λ m. list_any (λ n. n == c.args.at) (places_given (known_view c.args.known) (mark_view m))) (sym c.in-OfFields.is))
    c.field_gives_at.ensures

pub returns-in-Returns : goal.returns-in-Returns
returns-in-Returns c =
    IfOk-weaker c.some_give_at.result _ _
    (λ is tells. tells ∙ items_there c.args.at c.in-Returns.items.now
    ∙ ap (λ m. list_any (λ n. n == c.args.at) (places_given (known_view c.args.known) (mark_view m))) (sym c.in-Returns.is))
    c.some_give_at.ensures

pub returns-in_default : goal.returns-in_default
returns-in_default c =
    ap (list_any (λ n. n == c.args.at))
    (none_given_there (known_view c.args.known) c.args.mark c.in_default.not-OfFields c.in_default.not-Returns)
