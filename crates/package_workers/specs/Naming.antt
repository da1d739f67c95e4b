-- What a type names, by what workers judge by.
use Rattle.std.specs.Prelude.{ℕ, List, Option}
use Rattle.imports.specs.Ranks.{Package}
use Rattle.declared_tables.specs.DeclaredTables.{declared_tables}
use Rattle.declared_json.specs.DeclaredPackages.{packages_of}
use Rattle.meaning_reports.specs.Loaded.{Tables}
use Rattle.meaning_reports.specs.PackageReports.{Rules}
use Rattle.one_package.specs.Certified.{CertificateRule}
use Rattle.one_package.specs.declared.judged.Judged.{Judged}
use Rattle.package_workers.specs.declared.judging.Judging.{Judging}
use Rattle.package_workers.specs.Results.{IsNamed}

-- A type names the packages that are judged, their ranks, and what is right of each by these rules, where this is
-- declared of packages that were not given.
abbrev pub Names :
    {R : Type 0} → (R → Tables → Rules) → (R → CertificateRule) → Judging R → List Package → (ℕ → Option ℕ)
    → (ℕ → Judged → Type 0) → Type 0
Names rules certificates judging packages rank told =
    let declared = declared_tables (packages_of judging.outside.now) in
    IsNamed declared (rules judging.rules.now declared) (certificates judging.rules.now) judging.given.now packages rank
    told
