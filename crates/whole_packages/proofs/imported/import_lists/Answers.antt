use Rattle.std.proofs.Common.{◌∙◌, sym}
use Rattle.std.proofs.lemmas.Result.{IfOk-weaker}
use Rattle.whole_packages.proofs.KeptPackages.{listed}
use Rattle.whole_packages.proofs.imported.import_lists.Goals as goal

pub returns : goal.returns
returns c =
    IfOk-weaker c.kept_lists.result _ _ (λ lists same ps tell. same ∙ sym (listed ps c.args.packages.now tell))
    c.kept_lists.ensures
