-- What is told of the functions that a package declares is what its table says.
use Rattle.std.proofs.Common.{◌≡◌, ℕ, true, List, map, Contains, is_some, true≢false, sym, ap, ◌∙◌, subst}
use Rattle.whole_packages.specs.declared.loaded_package.LoadedPackage.{LoadedPackage as KeptPackage}
use Rattle.whole_packages.specs.LoadedViews.{TellsPackage}
use Rattle.table_json.specs.Tables.{Entry}
use Rattle.tree.specs.View.{file_syntax}
use Rattle.meaning_reports.specs.Loaded.{LoadedPackage, PackageTable, Tables, means_in, trees_of}
use Rattle.meaning_reports.specs.PackageTables.{IsTable, empty, full}
use Rattle.plain_tables.specs.Tables.{declared_names, IsPlain, TellsNames}
use Rattle.plain_tables.proofs.PlainNames.{known_is_declared}

-- what its table says is known of what its trees declare
pub known_names : (ps : List LoadedPackage) (tables : Tables) (i : ℕ) (p : LoadedPackage) (table : PackageTable)
    → IsTable ps tables i p table
    → (name : List ℕ)
    → is_some (table.signatures name) ≡ true
    → Contains (declared_names (trees_of p)) name
known_names ps tables i p table (empty x whole none) name known =
    absurd (true≢false (sym known ∙ ap is_some (none.no_signature name)))
known_names ps tables i p table (full flags none its same calls told) name known =
    known_is_declared name p.edition (means_in ps p) (trees_of p) (subst (λ o. is_some o ≡ true) (same name) known)

-- what is told of the functions whose names a package declares is its table
pub is_plain : (ps : List LoadedPackage) (tables : Tables) (i : ℕ) (p : LoadedPackage) (k : KeptPackage)
    (table : PackageTable) (entries : List Entry) → TellsPackage p k
    → IsTable ps tables i p table
    → TellsNames (declared_names (map file_syntax k.trees.items)) table entries
    → IsPlain table entries
is_plain ps tables i p k table entries tells is_table told = record {
  names = told.names;
  rise = told.in_order.rise;
  are_all = λ name known.
      told.in_order.are_there name
      (subst (λ trees. Contains (declared_names trees) name) tells.are_trees
      (known_names ps tables i p table is_table name known));
  are_told = told.are_told;
}
