use Rattle.std.proofs.Common.{[], if◌then◌else◌, sym, ap, ◌∙◌}
use Rattle.std.specs.Prelude.{◌==◌}
use Rattle.std.specs.List.{list_any}
use Rattle.std.proofs.lemmas.Result.{IfOk-weaker}
use Rattle.mentions.specs.MarkViews.{field_mark_view}
use Rattle.tracked_rows.specs.RowViews.{known_view}
use Rattle.tree.specs.Syntax.{missing_expression}
use Rattle.tree.specs.View.{expression_syntax}
use Rattle.meaning.specs.Kept.{gifts, gift_places}
use Rattle.kept.specs.KeptViews.{field_places}
use Rattle.kept.proofs.PlacesGiven.{name_there, no_field_given}
use Rattle.kept.proofs.holder.field_gives_at.Goals as goal

pub returns-then-takes_it : goal.returns-then-takes_it
returns-then-takes_it c =
    let given = gifts missing_expression (expression_syntax c.in-HandsOver.value.now) in
    IfOk-weaker c.gives_at.result _ _
    (λ is tells. tells ∙ name_there c.args.at given
    ∙ ap (λ b. list_any (λ n. n == c.args.at) (if b then gift_places given else [])) (sym c.if-takes_it.true ∙ c.takes_it.ensures)
    ∙ ap (λ m. list_any (λ n. n == c.args.at) (field_places (known_view c.args.known) (field_mark_view m))) (sym c.in-HandsOver.is))
    c.gives_at.ensures

pub returns-else-takes_it : goal.returns-else-takes_it
returns-else-takes_it c =
    let given = gifts missing_expression (expression_syntax c.in-HandsOver.value.now) in
    ap (λ b. list_any (λ n. n == c.args.at) (if b then gift_places given else [])) (sym c.if-takes_it.false ∙ c.takes_it.ensures)
    ∙ ap (λ m. list_any (λ n. n == c.args.at) (field_places (known_view c.args.known) (field_mark_view m))) (sym c.in-HandsOver.is)

pub returns-in_default : goal.returns-in_default
returns-in_default c =
    ap (list_any (λ n. n == c.args.at)) (no_field_given (known_view c.args.known) c.args.field c.in_default.not-HandsOver)
