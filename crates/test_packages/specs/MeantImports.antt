-- What serves the code: import paths that mean others, one after another.
use Rattle.std.specs.Prelude.{Bool, false, List, [], ◌∷◌, Option, Some, None, map}
use Rattle.std.specs.Borrow.{Bor}
use Rattle.package_list.specs.ListedValues.{ImportEntry, import_of}
use Rattle.package_list.specs.declared.package.ListedImport.{ListedImport}
use Rattle.test_packages.specs.ReadPackages.{own_import, own_imports, same_imports}

-- the first of a list, and those that come after it
abbrev pub cut : List ImportEntry → Option (ImportEntry × List ImportEntry)
cut [] = None
cut (i ∷ is) = Some (i, is)

-- one of these that means another path, and those that come after it
abbrev pub read_cut : Bor ListedImport × Bor (List ListedImport) → ImportEntry × List ImportEntry
read_cut found = (own_import (import_of found.0.now), own_imports (map import_of found.1.now))

-- these are the same as those that are left, if some list is
abbrev pub same_behind : List ImportEntry → Option (List ImportEntry) → Bool
same_behind more None = false
same_behind more (Some left) = same_imports more left
