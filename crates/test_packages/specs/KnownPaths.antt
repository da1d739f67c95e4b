-- What serves the code: paths that are kept, and packages by their paths.
use Rattle.std.specs.Prelude.{ℕ, Bool, List, Option, is_some, option_map}
use Rattle.std.specs.Borrow.{Bor}
use Rattle.first_values.specs.ValuesByName.{value_of}
use Rattle.first_values.specs.declared.FirstValues.{FirstValues}
use Rattle.package_list.specs.ListedValues.{PackageEntry, package_of}
use Rattle.package_list.specs.declared.package.ListedPackage.{ListedPackage}
use Rattle.test_packages.specs.ReadPackages.{Firsts}
use Rattle.test_packages.specs.declared.known_paths.KnownPaths.{KnownPaths}

-- the path is one of them
abbrev pub knows : KnownPaths → List ℕ → Bool
knows kept path = is_some (value_of kept.paths path)

-- the packages that are kept by their paths
abbrev pub firsts_of : FirstValues (Bor ListedPackage) → Firsts
firsts_of kept path = option_map (λ listed. package_of listed.now) (value_of kept path)
