use Rattle.std.proofs.Common.{ap, ◌∙◌}
use Rattle.std.proofs.lemmas.Result.{IfOk-weaker}
use Rattle.tree.specs.View.{statements_syntax}
use Rattle.meaning.specs.FunctionFacts.{own_returns}
use Rattle.meaning.specs.Mentions.{statements_marks}
use Rattle.mentions.specs.MarkViews.{marks_view}
use Rattle.marks.proofs.ReturnMarks.{without_fields}
use Rattle.marks.proofs.returns.own_returns.Goals as goal

pub returns : goal.returns
returns c =
    IfOk-weaker c.returns_among.result _ _
    (λ found is.
    is ∙ (ap (λ ms. own_returns 0 (marks_view ms)) c.deref.ensures.value
    ∙ (ap (own_returns 0) c.in_ok-marks.ensures
    ∙ without_fields 0 (statements_marks (statements_syntax c.args.list.now)))))
    c.returns_among.ensures
