-- What is declared of packages outside those that are judged, wherever its text is kept, and when it is in order.
use Rattle.std.specs.Prelude.{ℕ, ◌≡◌, Bool, true, List, [], ◌∷◌, Option, Some, None, if◌then◌else◌, nat_lt, map, codes, string_bytes}
use Rattle.std.specs.List.{AllByRecursion, IsDistinct, list_all}
use Rattle.std.specs.Ordering.{eq_by_cmp}
use Rattle.std.specs.Str.{bytes_eq}
use Rattle.table_json.specs.Parts.{first_found}
use Rattle.table_json.specs.Tables.{Entry, by_bytes, entry_of, HasOrder as HasFactsOrder, Rise}
use Rattle.declared_json.specs.declared.outside.DeclaredPackages.{DeclaredPackages}
use Rattle.declared_json.specs.declared.outside.DeclaredFunction.{DeclaredFunction}
use Rattle.declared_json.specs.declared.outside.DeclaredPackage.{DeclaredPackage}
use Rattle.declared_json.specs.declared.reserved.ReservedPath.{ReservedPath}
use Rattle.declared_json.specs.declared.reserved.ReservedPath.TheVariants.{Context, Errgroup}

-- what is declared of one function: its facts, as a table has them, and how many results it has
pub record FunctionEntry : Type 0 where
  pub facts : Entry
  pub results : ℕ

abbrev pub function_of : DeclaredFunction → FunctionEntry
function_of f = record { facts = entry_of f.facts; results = f.results }

-- what is declared of one package
pub record PackageEntry : Type 0 where
  pub path : List ℕ
  pub functions : List FunctionEntry

abbrev pub package_of : DeclaredPackage → PackageEntry
package_of p = record { path = string_bytes p.path; functions = map function_of p.functions.items }

abbrev pub packages_of : DeclaredPackages → List PackageEntry
packages_of outside = map package_of outside.packages.items

abbrev pub name_of : FunctionEntry → List ℕ
name_of f = f.facts.name

abbrev pub path_of : PackageEntry → List ℕ
path_of p = p.path

-- What is found by a path

-- the functions of the first package of that path
abbrev pub table_at : List ℕ → List PackageEntry → Option (List FunctionEntry)
table_at path [] = None
table_at path (p ∷ packages) = if bytes_eq p.path path then Some p.functions else table_at path packages

-- Paths of which nothing may be declared, since what their packages do is known

abbrev pub reserved_text : ReservedPath → List ℕ
reserved_text Context = codes "context"
reserved_text Errgroup = codes "golang.org/x/sync/errgroup"

abbrev pub reserved_of : List ℕ → Option ReservedPath
reserved_of path =
    if bytes_eq path (reserved_text Context) then Some Context
    else if bytes_eq path (reserved_text Errgroup) then Some Errgroup
    else None

-- the first of the paths of packages that is reserved
abbrev pub first_reserved : List PackageEntry → Option ReservedPath
first_reserved [] = None
first_reserved (p ∷ packages) = first_found (reserved_of p.path) (first_reserved packages)

-- When it is in order

-- each position is that of one of so many results
abbrev pub are_below : ℕ → List ℕ → Bool
are_below results positions = list_all (λ n. nat_lt n results) positions

-- the facts are in order, and what is given is among the results
pub record HasOrder (f : FunctionEntry) : Type 0 where
  pub facts_in_order : HasFactsOrder f.facts
  pub gives_below : are_below f.results f.facts.gives ≡ true
  pub causes_below : are_below f.results f.facts.causes ≡ true

-- the names of a package's functions rise, and each function is in order
pub record IsPackageInOrder (p : PackageEntry) : Type 0 where
  pub names_rise : Rise by_bytes name_of p.functions
  pub each_in_order : AllByRecursion HasOrder p.functions

-- no two packages have one path
abbrev pub AreApart : List PackageEntry → Type 0
AreApart packages = IsDistinct (eq_by_cmp by_bytes) (map path_of packages)

-- no path comes twice, none is reserved, and each package is in order; packages may stand in any order
pub record AreInOrder (packages : List PackageEntry) : Type 0 where
  pub apart : AreApart packages
  pub none_reserved : first_reserved packages ≡ None
  pub each_in_order : AllByRecursion IsPackageInOrder packages
