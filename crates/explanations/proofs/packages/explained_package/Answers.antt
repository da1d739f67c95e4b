use Rattle.std.proofs.Common.{subst}
use Rattle.std.proofs.lemmas.Result.{IfOk-weaker}
use Rattle.explanations.specs.PackageReasons.{ArePackageReasons}
use Rattle.explanations.proofs.packages.explained_package.Goals as goal

pub returns-clause-notes : goal.returns-clause-notes
returns-clause-notes c =
    IfOk-weaker c.explained_report.result _ _
    (λ explained so declared ps tables p given distinct right is_p found.
    so declared ps tables c.args.place p found
    (λ none. subst (λ ds. ArePackageReasons ps tables c.args.place p ds c.in_ok-reasons.reasons) c.deref.ensures.value
    (c.in_ok-reasons.ensures declared ps tables p given distinct right is_p none)))
    c.explained_report.ensures.notes
