use Rattle.std.proofs.Common.{◌∙◌}
use Rattle.std.proofs.lemmas.Result.{IfOk-weaker}
use Rattle.given_packages.proofs.PackageNames.{names_are}
use Rattle.given_packages.proofs.package_names.names_of_packages.Goals as goal

pub returns : goal.returns
returns c =
    IfOk-weaker c.kept_names.result _ _
    (λ names are ps tell distinct path. are path ∙ names_are ps c.args.packages.now tell distinct path) c.kept_names.ensures
