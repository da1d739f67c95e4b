-- What a worker is to do.
use Rattle.std.specs.Prelude.{◌≡◌, List, Some, map, slice_get}
use Rattle.imports.specs.Ranks.{Package}
use Rattle.imports.specs.declared.import_list.ImportList.{ImportList}
use Rattle.whole_packages.specs.declared.loaded_package.LoadedPackage.{LoadedPackage as KeptPackage}
use Rattle.package_workers.specs.declared.jobs.Job.{Job}
use Rattle.package_workers.specs.Results.{place_of, imports_at}

-- it has the package of its place, what this imports, and results of all its imports in their order
pub record IsJob
    {B : Type 0} (packages : List Package) (kept : List KeptPackage) (lists : List ImportList) (job : Job B)
    : Type 0 where
  pub is_package : slice_get kept job.place ≡ Some job.loaded.now
  pub is_list : slice_get lists job.place ≡ Some job.list.now
  pub are_imports : map place_of job.imported.items ≡ imports_at packages job.place
