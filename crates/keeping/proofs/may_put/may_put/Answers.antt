use Rattle.std.proofs.Common.{◌||◌, sym, ap, ◌∙◌, arith}
use Rattle.std.specs.List.{list_any}
use Rattle.std.proofs.lemmas.Result.{IfOk-weaker}
use Rattle.mentions.specs.MarkViews.{marks_view}
use Rattle.tracked_rows.specs.RowViews.{known_view}
use Rattle.keeping.specs.PlainFiles.{cancels, mark_may_put}
use Rattle.keeping.proofs.PlainFiles.{none_never}
use Rattle.keeping.proofs.TextNames.{no_item}
use Rattle.keeping.proofs.may_put.may_put.Goals as goal

pub returns-then-some_gives : goal.returns-then-some_gives
returns-then-some_gives c =
    let known = known_view c.args.known in
    let marks = marks_view c.args.marks.now in
    ap (λ b. b || list_any (mark_may_put known (cancels known marks)) marks) c.if-some_gives.ensures

pub returns-then-is_empty : goal.returns-then-is_empty
returns-then-is_empty c =
    let size = c.in_ok-numbers.numbers.ok in
    none_never (known_view c.args.known) (marks_view c.args.marks.now) _ c.if-some_gives.ensures
    (sym c.in_ok-numbers.ensures
    ∙ no_item c.in_ok-numbers.numbers.items _ (omega (arith, size.0, size.1)) c.if-is_empty.ensures)

pub returns : goal.returns
returns c =
    let known = known_view c.args.known in
    let marks = marks_view c.args.marks.now in
    IfOk-weaker c.some_may_put.result _ _
    (λ may h. h
    ∙ ap (λ ns. list_any (mark_may_put known ns) marks) (c.deref.ensures.value ∙ c.in_ok-numbers.ensures)
    ∙ ap (λ b. b || list_any (mark_may_put known (cancels known marks)) marks) c.if-some_gives.ensures)
    c.some_may_put.ensures
