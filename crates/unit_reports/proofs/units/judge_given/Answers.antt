use Rattle.std.proofs.Common.{◌∙◌, ap}
use Rattle.std.proofs.lemmas.Result.{IfOk-weaker}
use Rattle.imports.specs.Views.{packages_view}
use Rattle.unit_reports.proofs.UnitTold.{is_told_unit}
use Rattle.unit_reports.specs.UnitParts.{first_imports}
use Rattle.unit_reports.proofs.units.judge_given.Goals as goal

pub returns : goal.returns
returns c =
    let given = c.args.given.now in
    let imports = c.in_ok-imports.imports in
    IfOk-weaker c.judge_by_read.result _ _
    (λ unit says outside alone.
    is_told_unit outside c.args.told.now c.args.loaded.now given imports alone
    (c.in_ok-imports.ensures.paths ∙ ap (λ ls. first_imports (packages_view ls)) c.deref.ensures.value)
    c.in_ok-imports.ensures.read c.args.form unit says)
    c.judge_by_read.ensures
