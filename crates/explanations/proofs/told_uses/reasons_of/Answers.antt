use Rattle.std.proofs.Common.{◌∙◌}
use Rattle.std.proofs.lemmas.Result.{IfOk-weaker}
use Rattle.explanations.proofs.UsesOfFiles.{of_views}
use Rattle.explanations.specs.Uses.{reason_in}
use Rattle.tracked_rows.specs.RowViews.{known_view}
use Rattle.tree.specs.View.{file_syntax}
use Rattle.explanations.proofs.told_uses.reasons_of.Goals as goal

pub returns : goal.returns
returns c =
    IfOk-weaker c.use_reasons.result _ _
    (λ reasons so.
    so ∙ of_views (reason_in (known_view c.args.known) (file_syntax c.args.tree.now)) c.args.asked.now)
    c.use_reasons.ensures
