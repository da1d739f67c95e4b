use Rattle.std.proofs.Common.{subst}
use Rattle.declared_tables.specs.DeclaredTables.{declared_tables}
use Rattle.declared_json.specs.DeclaredPackages.{packages_of}
use Rattle.judge.specs.Verified.{TellsVerified}
use Rattle.judge.specs.declared.verified.Verified.TheVariants.{Told}
use Rattle.judge.proofs.NotGivenPaths.{not_given_of}
use Rattle.judge.proofs.VerifiedReports.{told_beside, is_verified, are_too_old}
use Rattle.judge.proofs.verified.verified_report_of.Goals as goal

pub returns-in-Ok-Told-clause-report : goal.returns-in-Ok-Told-clause-report
returns-in-Ok-Told-clause-report g c =
    let outside = packages_of c.args.outside in
    let given = c.args.given.items in
    let loaded = c.in-Ok.loaded in
    let certificates = c.args.certificates.now in
    is_verified c.args.telling outside given loaded certificates c.in-Ok-Told.report c.in-Ok.ensures.loaded
    (subst (TellsVerified c.args.telling (declared_tables outside) loaded.packages.items certificates) c.in-Ok-Told.field-0-is
    (told_beside c.args.telling outside given loaded certificates _ c.in-Ok.ensures.loaded c.in-Ok-Told.ensures))

pub returns-in-Ok-Told-clause-not_given : goal.returns-in-Ok-Told-clause-not_given
returns-in-Ok-Told-clause-not_given g c =
    let loaded = c.in-Ok.loaded in
    let declared = declared_tables (packages_of loaded.outside) in
    let told : TellsVerified c.args.telling declared loaded.packages.items c.args.certificates.now (Told c.in-Ok-Told.report) =
    subst (TellsVerified c.args.telling declared loaded.packages.items c.args.certificates.now) c.in-Ok-Told.field-0-is
    c.in-Ok-Told.ensures in
    not_given_of (packages_of c.args.outside) c.args.given.items loaded c.in-Ok-Told.report.not_given.items
    c.in-Ok.ensures.loaded told.2

pub returns-in-Ok-IsTooOld-clause-fault : goal.returns-in-Ok-IsTooOld-clause-fault
returns-in-Ok-IsTooOld-clause-fault g c =
    let outside = packages_of c.args.outside in
    let given = c.args.given.items in
    let loaded = c.in-Ok.loaded in
    let certificates = c.args.certificates.now in
    are_too_old c.args.telling outside given loaded certificates c.in-Ok-IsTooOld.path c.in-Ok.ensures.loaded
    (subst (TellsVerified c.args.telling (declared_tables outside) loaded.packages.items certificates) c.in-Ok-IsTooOld.field-0-is
    (told_beside c.args.telling outside given loaded certificates _ c.in-Ok.ensures.loaded c.in-Ok-IsTooOld.ensures))
