use Rattle.std.proofs.Common.{sym, ap, ◌∙◌}
use Rattle.std.specs.List.{list_any}
use Rattle.std.proofs.lemmas.Result.{IfOk-weaker}
use Rattle.facts.proofs.ListedItems.{listed-map}
use Rattle.mentions.specs.MarkViews.{mark_view}
use Rattle.tracked_rows.specs.RowViews.{known_view}
use Rattle.keeping.specs.PlainFiles.{given_may_put, mark_may_put}
use Rattle.keeping.proofs.may_put.mark_may_put.Goals as goal

pub returns-in-Returns : goal.returns-in-Returns
returns-in-Returns c =
    let known = known_view c.args.known in
    IfOk-weaker c.items_may_put.result _ _
    (λ may h. h
    ∙ ap (list_any (given_may_put known c.args.numbers.now)) (sym (listed-map c.in-Returns.items.now))
    ∙ ap (λ m. mark_may_put known c.args.numbers.now (mark_view m)) (sym c.in-Returns.is))
    c.items_may_put.ensures
