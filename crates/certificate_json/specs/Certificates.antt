-- What certificates say, wherever their text is kept, and when they are in order.
use Rattle.std.specs.Prelude.{ℕ, List, [], ◌∷◌, drop, map, string_bytes, take}
use Rattle.std.specs.List.{AllByRecursion, IsDistinct}
use Rattle.std.specs.declared.cmp.Ordering.{Ordering}
use Rattle.std.specs.Ordering.{nat_cmp, eq_by_cmp, ordering_then}
use Rattle.table_json.specs.Tables.{Entry, by_bytes, entries_of, IsInOrder, Rise}
use Rattle.certificate_json.specs.declared.certificates.Body.{Body}
use Rattle.certificate_json.specs.declared.certificates.Package.{Package}
use Rattle.certificate_json.specs.declared.certificates.Certificates.{Certificates}
use Rattle.certificate_json.specs.declared.rows.Rows.{Rows}

-- what is said of one body: the number of its file, the offset of its `func`, and for each node one mask for each
-- variable
pub record BodyEntry : Type 0 where
  pub file : ℕ
  pub at : ℕ
  pub states : List (List ℕ)

-- the rows of masks that stand one after the other, so many in each
abbrev pub rows_in : List ℕ → List ℕ → List (List ℕ)
rows_in [] masks = []
rows_in (width ∷ widths) masks = take width masks ∷ rows_in widths (drop width masks)

abbrev pub rows_of : Rows → List (List ℕ)
rows_of rows = rows_in rows.widths.items rows.masks.items

abbrev pub body_of : Body → BodyEntry
body_of b = record { file = b.file; at = b.at; states = rows_of b.states }

-- what is said of one package: `facts` is what a table says of its functions
pub record PackageEntry : Type 0 where
  pub path : List ℕ
  pub bodies : List BodyEntry
  pub facts : List Entry

abbrev pub package_of : Package → PackageEntry
package_of p = record {
  path = string_bytes p.path;
  bodies = map body_of p.bodies.items;
  facts = entries_of p.facts;
}

abbrev pub packages_of : Certificates → List PackageEntry
packages_of certificates = map package_of certificates.packages.items

abbrev pub path_of : PackageEntry → List ℕ
path_of p = p.path

-- where a body stands: its file, and the offset there
abbrev pub place_of : BodyEntry → ℕ × ℕ
place_of b = (b.file, b.at)

-- the order of places is that of files, and in one file that of offsets
abbrev pub by_place : ℕ × ℕ → ℕ × ℕ → Ordering
by_place p q = ordering_then (nat_cmp p.0 q.0) (nat_cmp p.1 q.1)

-- no two packages have one path
abbrev pub AreApart : List PackageEntry → Type 0
AreApart packages = IsDistinct (eq_by_cmp by_bytes) (map path_of packages)

-- the bodies of a package rise by file and offset, and its facts are in order
pub record HasOrder (p : PackageEntry) : Type 0 where
  pub bodies_rise : Rise by_place place_of p.bodies
  pub facts_in_order : IsInOrder p.facts

-- certificates are in order: no path comes twice, and each package is in order; packages may stand in any order
pub record AreInOrder (packages : List PackageEntry) : Type 0 where
  pub apart : AreApart packages
  pub each_in_order : AllByRecursion HasOrder packages
