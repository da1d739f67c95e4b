use Rattle.std.proofs.Common.{◌≡◌, ◌∙◌, ap}
use Rattle.std.proofs.lemmas.Result.{IfOk-weaker}
use Rattle.cause_mentions.specs.CauseMentions.{first_kept}
use Rattle.cause_mentions.proofs.SamePackages.{first_same}
use Rattle.judge.proofs.first.first_with_causes.Goals as goal
use Rattle.meaning.specs.OuterBlocks.{PackageNames}
use Rattle.meaning_reports.specs.Loaded.{package_names}
use Rattle.names.specs.Answers.{names_by_path}

pub returns : goal.returns
returns c =
    IfOk-weaker c.first_kept.result _ _
    (λ found is ps tell distinct.
    let same : names_by_path c.in_ok-names.names ≡ package_names ps = λ i path. c.in_ok-names.ensures ps tell distinct path i in
    is
    ∙ (ap (λ (names : PackageNames). first_kept names c.args.packages.now) same
    ∙ first_same (package_names ps) ps c.args.packages.now tell.are_as_many tell.each))
    c.first_kept.ensures
