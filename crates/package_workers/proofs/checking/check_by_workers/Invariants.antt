use Rattle.declared_tables.specs.DeclaredTables.{declared_tables}
use Rattle.imports.specs.Views.{packages_view, rank_of}
use Rattle.declared_json.specs.DeclaredPackages.{packages_of}
use Rattle.package_workers.specs.Results.{IsRight}
use Rattle.package_workers.proofs.checking.check_by_workers.Given as goal

abbrev pub ghosts-check_named : goal.ghosts-check_named
ghosts-check_named g a = record {
  packages = packages_view a.judging.now.given.now.lists.items;
  rank = rank_of a.judging.now.given.now.order;
  told = IsRight
      (g.R.FileRules.rules a.judging.now.rules.now (declared_tables (packages_of a.judging.now.outside.now)))
      (g.R.FileRules.certificates a.judging.now.rules.now) a.judging.now.given.now.packages.now;
}
