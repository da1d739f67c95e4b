-- What the go command says of a package, and which value says it. Of an object eight keys count, and others are passed
-- over. An object of `serde_json` has each key once: of equal keys of a text the last one counts. What the keys mean
-- says `go help list`.
use Rattle.std.specs.Prelude.{ℕ, Bool, false, List, [], ◌∷◌, ◌++◌, Option, Some, None, map, option_and_then, option_map, codes, string_bytes}
use Rattle.serde_json.specs.Data.{Data, Items, no_items, item, Members, no_members, member}
use Rattle.serde_json.specs.Find.{as_array, as_bool, as_object, as_str, get}
use Rattle.package_list.specs.declared.package.ListedImport.{ListedImport}
use Rattle.package_list.specs.declared.package.ListedPackage.{ListedPackage}

-- a path that the files of a package import, and what it means
pub record ImportEntry : Type 0 where
  pub written : List ℕ
  pub meant : List ℕ

abbrev pub import_of : ListedImport → ImportEntry
import_of i = record { written = string_bytes i.written; meant = string_bytes i.meant }

-- one package of a list
pub record PackageEntry : Type 0 where
  pub path : List ℕ
  pub folder : List ℕ
  pub files : List (List ℕ)
  pub module_path : Option (List ℕ)
  pub incomplete : Bool
  pub dep_only : Bool
  pub imports : List ImportEntry

abbrev pub package_of : ListedPackage → PackageEntry
package_of p = record {
  path = string_bytes p.path;
  folder = string_bytes p.folder;
  files = map string_bytes p.files.items;
  module_path = option_map string_bytes p.«module»;
  incomplete = p.incomplete;
  dep_only = p.dep_only;
  imports = map import_of p.imports.items;
}

-- What stands under a key that counts, or is missing

-- a string that is not empty
abbrev pub filled : List ℕ → Option (List ℕ)
filled [] = None
filled (b ∷ bytes) = Some (b ∷ bytes)

abbrev pub filled_under : Option Data → Option (List ℕ)
filled_under under = option_and_then filled (option_and_then as_str under)

-- a list of strings; a missing one is empty
abbrev pub strings_of : Items → Option (List (List ℕ))
strings_of no_items = Some []
strings_of (item d ds) = option_and_then (λ s. option_map (λ rest. s ∷ rest) (strings_of ds)) (as_str d)

abbrev pub strings_in : Data → Option (List (List ℕ))
strings_in value = option_and_then strings_of (as_array value)

abbrev pub strings_under : Option Data → Option (List (List ℕ))
strings_under None = Some []
strings_under (Some value) = strings_in value

-- an object with a path, or nothing
abbrev pub path_in : Data → Option (List ℕ)
path_in value = option_and_then as_str (get (codes "Path") value)

abbrev pub module_under : Option Data → Option (Option (List ℕ))
module_under None = Some None
module_under (Some value) = option_map Some (path_in value)

-- a truth value; a missing one is false
abbrev pub bool_under : Option Data → Option Bool
bool_under None = Some false
bool_under (Some value) = as_bool value

-- an object of strings, whose keys stand in the order of their bytes, each once; a missing one is empty
abbrev pub imports_of : Members → Option (List ImportEntry)
imports_of no_members = Some []
imports_of (member key value ms) =
    option_and_then (λ s. option_map (λ is. record { written = key; meant = s } ∷ is) (imports_of ms)) (as_str value)

abbrev pub imports_in : Data → Option (List ImportEntry)
imports_in value = option_and_then imports_of (as_object value)

abbrev pub imports_under : Option Data → Option (List ImportEntry)
imports_under None = Some []
imports_under (Some value) = imports_in value

-- a step of what follows
infixl 10 ◌>>=◌
abbrev pub ◌>>=◌ : {X Y : Type 0} → Option X → (X → Option Y) → Option Y
o >>= f = option_and_then f o

-- the package that a value says; none where something is missing or unfit
unfoldable pub package_in : Data → Option PackageEntry
package_in value = do
  path ← filled_under (get (codes "ImportPath") value)
  folder ← filled_under (get (codes "Dir") value)
  go_files ← strings_under (get (codes "GoFiles") value)
  cgo_files ← strings_under (get (codes "CgoFiles") value)
  module_path ← module_under (get (codes "Module") value)
  incomplete ← bool_under (get (codes "Incomplete") value)
  dep_only ← bool_under (get (codes "DepOnly") value)
  imports ← imports_under (get (codes "ImportMap") value)
  Some (record {
    path = path;
    folder = folder;
    files = go_files ++ cgo_files;
    module_path = module_path;
    incomplete = incomplete;
    dep_only = dep_only;
    imports = imports;
  })
