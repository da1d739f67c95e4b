-- Packages as they were read: each has a path, the edition by which it is judged, and files. Of each file there is a
-- tree, or else why there is none and where. What is known in a tree comes from all trees of its package, the names of
-- all packages that count as given, and the tables of those that the package imports.
use Rattle.std.specs.Prelude.{ℕ, ◌+◌, ◌≡◌, ◌&&◌, Bool, true, false, not, if◌then◌else◌, is_some, List, [], ◌∷◌, map, flat_map, Option, Some, None, slice_get}
use Rattle.std.specs.List.{list_all, list_any}
use Rattle.std.specs.Str.{bytes_eq}
use Rattle.tree.specs.declared.edition.Edition.{Edition}
use Rattle.tree.specs.declared.edition.Edition.TheVariants.{First, Second}
use Rattle.tree.specs.Syntax.{ImportSpec, SourceFile}
use Rattle.meaning.specs.OuterBlocks.{PackageNames, specs_of}
use Rattle.meaning.specs.Declarations.{declaration_of_use}
use Rattle.meaning.specs.TwoFunctions.{second_function}
use Rattle.meaning.specs.FunctionFacts.{Meanings, FunctionFacts, package_facts}
use Rattle.meaning.specs.Tracked.{Fields, each_field, these_fields, Known}
use Rattle.meaning.specs.Uses.{Seen}
use Rattle.meaning.specs.BodyEvents.{seen_file}
use Rattle.meaning.specs.KeepingFields.{fields_in_files}
use Rattle.meaning_packages.specs.CallsFlags.{Flags}
use Rattle.meaning_reports.specs.MethodNames.{methods_in, but_methods}
use Rattle.report.specs.declared.codes.TextFault.{TextFault}
use Rattle.report.specs.declared.codes.TreeFault.{TreeFault}
use Rattle.imports.specs.Ranks.{Package}

pub data Reading : Type 0 where
  has_tree : SourceFile → Reading
  -- the offset of the fault for which it has no tokens, and which
  has_text_fault : ℕ → TextFault → Reading
  -- that of the fault for which it has tokens and no tree
  has_tree_fault : ℕ → TreeFault → Reading

pub record LoadedPackage : Type 0 where
  pub path : List ℕ
  pub edition : Edition
  pub files : List Reading

-- no two packages have one path
pub record HaveDistinctPaths (ps : List LoadedPackage) : Type 0 where
  pub same : (i j : ℕ) (p q : LoadedPackage)
      → slice_get ps i ≡ Some p
      → slice_get ps j ≡ Some q
      → p.path ≡ q.path
      → i ≡ j

-- a tree, and the number of its file
pub record NumberedTree : Type 0 where
  pub file : ℕ
  pub tree : SourceFile

abbrev pub trees_from : ℕ → List Reading → List NumberedTree
trees_from n [] = []
trees_from n (has_tree tree ∷ rs) = record { file = n; tree = tree } ∷ trees_from (n + 1) rs
trees_from n (has_text_fault at why ∷ rs) = trees_from (n + 1) rs
trees_from n (has_tree_fault at why ∷ rs) = trees_from (n + 1) rs

-- the trees of a package, with the numbers of their files
abbrev pub numbered_trees : LoadedPackage → List NumberedTree
numbered_trees p = trees_from 0 p.files

abbrev pub trees_of : LoadedPackage → List SourceFile
trees_of p = map (λ t. t.tree) (numbered_trees p)

-- Which packages count as given

abbrev pub is_read : Reading → Bool
is_read (has_tree tree) = true
is_read (has_text_fault at why) = false
is_read (has_tree_fault at why) = false

-- each of its files has a tree, and no two of its functions have one name
abbrev pub is_whole : LoadedPackage → Bool
is_whole p = list_all is_read p.files && not (is_some (second_function (trees_of p)))

abbrev pub counts_by : Edition → Bool → Bool
counts_by First whole = true
counts_by Second whole = whole

-- In the second edition a package that isn't so counts as not given for all that import it. (One without a rank need
-- not be among these: nothing is said of those that import it but that they have none.)
abbrev pub counts_as_given : LoadedPackage → Bool
counts_as_given p = counts_by p.edition (is_whole p)

abbrev pub counts : Option LoadedPackage → Bool
counts None = false
counts (Some p) = counts_as_given p

-- Imports

abbrev pub imports_of : SourceFile → List ImportSpec
imports_of tree = specs_of tree.imports

-- the paths that a package imports
abbrev pub imported_paths : LoadedPackage → List (List ℕ)
imported_paths p = flat_map (λ tree. map (λ s. s.path) (imports_of tree)) (trees_of p)

abbrev pub import_list : List LoadedPackage → List Package
import_list = map (λ p. record { path = p.path; imports = imported_paths p })

-- the first package of that path
abbrev pub package_at : List ℕ → List LoadedPackage → Option LoadedPackage
package_at path [] = None
package_at path (p ∷ ps) = if bytes_eq p.path path then Some p else package_at path ps

-- the name in the package clause of the first of these trees
abbrev pub name_in : List SourceFile → Option (List ℕ)
name_in [] = None
name_in (tree ∷ trees) = Some tree.package_name.text

-- one that counts as not given has none
abbrev pub name_of : Option LoadedPackage → Option (List ℕ)
name_of None = None
name_of (Some p) = if counts_as_given p then name_in (trees_of p) else None

abbrev pub package_names : List LoadedPackage → PackageNames
package_names ps path = name_of (package_at path ps)

-- What is known in a tree

-- what the uses mean in the tree of that number of the package
abbrev pub means_in : List LoadedPackage → LoadedPackage → ℕ → Meanings
means_in ps p number = declaration_of_use (trees_of p) (package_names ps) number

-- what the signatures of its functions say
abbrev pub signatures_of : List LoadedPackage → LoadedPackage → List ℕ → Option FunctionFacts
signatures_of ps p = package_facts p.edition (means_in ps p) (trees_of p)

-- what is known of the functions of a package: what their signatures say, and which parameters they are known to call
pub record PackageTable : Type 0 where
  pub signatures : List ℕ → Option FunctionFacts
  pub calls : Flags
  -- some function has a parameter or a result that is tracked; or the package has an entry among declared facts, be it
  -- without a function
  pub is_told : Bool

-- nothing is known of any function
abbrev pub no_table : PackageTable
no_table = record { signatures = λ name. None; calls = λ name k. false; is_told = false }

-- for each path the table of that package
abbrev pub Tables : Type 0
Tables = List ℕ → PackageTable

-- nothing is known of any package
abbrev pub no_tables : Tables
no_tables path = no_table

abbrev pub is_imported : LoadedPackage → List ℕ → Bool
is_imported p path = list_any (λ q. bytes_eq q path) (imported_paths p)

-- those of the packages that the package imports
abbrev pub imported_tables : LoadedPackage → Tables → Tables
imported_tables p tables path = if is_imported p path then tables path else no_table

abbrev pub imported_signatures : LoadedPackage → Tables → List ℕ → List ℕ → Option FunctionFacts
imported_signatures p tables path = (imported_tables p tables path).signatures

abbrev pub imported_flags : LoadedPackage → Tables → List ℕ → Flags
imported_flags p tables path = (imported_tables p tables path).calls

-- where these fields keep
abbrev pub known_with : Fields → List LoadedPackage → Tables → LoadedPackage → ℕ → Known
known_with fields ps tables p number = record {
  edition = p.edition;
  means = means_in ps p number;
  fields = fields;
  object_lefts = λ at. None;
  functions = signatures_of ps p;
  imported = imported_signatures p tables;
}

-- these trees, each looked at with what is known in the tree of its number, where the first has the number n
abbrev pub seen_from : (ℕ → Known) → ℕ → List SourceFile → List Seen
seen_from known n [] = []
seen_from known n (tree ∷ trees) = seen_file (known n) tree ∷ seen_from known (n + 1) trees

-- in the first edition no field keeps
abbrev pub fields_by : Edition → List Seen → Fields
fields_by First files = these_fields [] []
fields_by Second files = but_methods (flat_map methods_in files) (fields_in_files files)

-- the fields of a package that keep
abbrev pub keeping_in : List LoadedPackage → Tables → LoadedPackage → Fields
keeping_in ps tables p = fields_by p.edition (seen_from (known_with each_field ps tables p) 0 (trees_of p))

abbrev pub known_in : List LoadedPackage → Tables → LoadedPackage → ℕ → Known
known_in ps tables p = known_with (keeping_in ps tables p) ps tables p

abbrev pub seen_files : List LoadedPackage → Tables → LoadedPackage → List Seen
seen_files ps tables p = seen_from (known_in ps tables p) 0 (trees_of p)
