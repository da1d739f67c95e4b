use Rattle.std.proofs.Common.{◌∙◌, subst}
use Rattle.std.proofs.lemmas.Result.{IfOk-weaker}
use Rattle.told_reports.specs.Reports.{AreTold}
use Rattle.told_reports.proofs.reports.told.Goals as goal

pub returns : goal.returns
returns c =
    IfOk-weaker c.report_from.result _ _
    (λ report told. subst (λ reports. AreTold c.args.telling reports report) (c.deref.ensures.value ∙ c.in_ok-reports.ensures) told)
    c.report_from.ensures
