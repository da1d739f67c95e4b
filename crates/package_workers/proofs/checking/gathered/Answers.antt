use Rattle.std.proofs.Common.{◌∙◌}
use Rattle.all_packages.specs.Progress.{slots_in}
use Rattle.declared_tables.specs.DeclaredTables.{declared_tables}
use Rattle.declared_json.specs.DeclaredPackages.{packages_of}
use Rattle.package_workers.proofs.RightSlots.{named_right}
use Rattle.package_workers.proofs.checking.gathered.Goals as goal

pub returns-clause-reports : goal.returns-clause-reports
returns-clause-reports g c =
    λ ps tell distinct.
    let named = c.requires.named in
    let tells = named.are_given ps tell distinct in
    c.in_ok-found.ensures.reports (declared_tables (packages_of c.args.judging.now.outside.now)) ps tells distinct
    (named_right _ _ _ _ _ _ _ named (slots_in c.in_ok-progress.progress)
    (c.in_ok-progress.ensures.as_many ∙ c.into_outcomes.ensures.as_many) c.in_ok-progress.ensures.kept ps tells distinct)

pub returns-clause-certified : goal.returns-clause-certified
returns-clause-certified g c =
    λ ps tell distinct.
    let named = c.requires.named in
    let tells = named.are_given ps tell distinct in
    c.in_ok-found.ensures.certified (declared_tables (packages_of c.args.judging.now.outside.now)) ps tells distinct
    (named_right _ _ _ _ _ _ _ named (slots_in c.in_ok-progress.progress)
    (c.in_ok-progress.ensures.as_many ∙ c.into_outcomes.ensures.as_many) c.in_ok-progress.ensures.kept ps tells distinct)
