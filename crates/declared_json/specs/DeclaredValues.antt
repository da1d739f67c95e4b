-- Which values are those of declared facts. As an object has each key once and in order, the order of keys is free in a
-- text, and of equal keys the last one counts. What is declared has version 2.
use Rattle.std.specs.Prelude.{ℕ, ◌≡◌, true, List, codes}
use Rattle.std.specs.List.{AllZip}
use Rattle.serde_json.specs.Data.{Data, string, object, Members, member, no_members, put}
use Rattle.table_json.specs.Tables.{by_bytes}
use Rattle.table_json.specs.TableValues.{whole, list, AreArrangedOf, Fits, IsFunctionValue}
use Rattle.declared_json.specs.DeclaredPackages.{FunctionEntry, PackageEntry, are_below, name_of, AreApart}

-- The value of a function is that of its facts in a table of version 2, with the number of its results under one key
-- more: `{"causes":[n,..],"gives":[n,..],"name":s,"params":[P,..],"results":n}`. What it gives is among its results.
pub record IsDeclaredValue (value : Data) (f : FunctionEntry) : Type 0 where
  pub facts : Members
  pub are_facts : IsFunctionValue (object facts) f.facts
  pub is_value : value ≡ object (put (codes "results") (whole f.results) facts)
  pub results_fit : Fits f.results
  pub gives_below : are_below f.results f.facts.gives ≡ true
  pub causes_below : are_below f.results f.facts.causes ≡ true

-- these are the values of the functions, in any order: no name comes twice
abbrev pub AreDeclaredOf : List Data → List FunctionEntry → Type 0
AreDeclaredOf = AreArrangedOf IsDeclaredValue by_bytes name_of

-- `{"functions":[G,..],"path":s}`
abbrev pub package_with : List ℕ → List Data → Data
package_with path functions = object (
    member (codes "functions") (list functions) (
    member (codes "path") (string path) no_members))

-- this is the value of the package
pub record IsPackageValue (value : Data) (p : PackageEntry) : Type 0 where
  pub functions : List Data
  pub is_value : value ≡ package_with p.path functions
  pub are_functions : AreDeclaredOf functions p.functions

-- `{"packages":[..],"version":2}`
abbrev pub outside_with : List Data → Data
outside_with packages = object (
    member (codes "packages") (list packages) (
    member (codes "version") (whole 2) no_members))

-- this is the value of the packages, in this order: no path comes twice
pub record IsOutsideValue (value : Data) (packages : List PackageEntry) : Type 0 where
  pub values : List Data
  pub is_value : value ≡ outside_with values
  pub each : AllZip IsPackageValue values packages
  pub apart : AreApart packages
