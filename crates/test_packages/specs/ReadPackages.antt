-- Which packages of a list are read, under which path, and whether they were asked for. The go command lists a package
-- that has tests as it is, and once more as it is built with its tests; a package of tests for itself; and the program
-- that runs them, whose file is generated and no Go file by its name.
use Rattle.std.specs.Prelude.{ℕ, ◌++◌, ◌&&◌, ◌||◌, Bool, true, false, not, List, [], ◌∷◌, Option, Some, None, filter, if◌then◌else◌, nat_eq, codes, map}
use Rattle.std.specs.List.{ends_with, list_any}
use Rattle.std.specs.Option.{option_or}
use Rattle.std.specs.Str.{bytes_eq}
use Rattle.first_values.specs.ValuesByName.{only_at}
use Rattle.package_list.specs.ListedValues.{ImportEntry, PackageEntry, package_of}
use Rattle.test_packages.specs.TestPaths.{is_of_own_tests, without_suffix}
use Rattle.test_packages.specs.declared.read_packages.ReadPackage.{ReadPackage}

abbrev pub own_path : PackageEntry → List ℕ
own_path entry = without_suffix entry.path

-- an import path, and the import path of the package that it means
abbrev pub own_import : ImportEntry → ImportEntry
own_import i = record { written = i.written; meant = without_suffix i.meant }

abbrev pub means_another : ImportEntry → Bool
means_another i = not (bytes_eq i.written (without_suffix i.meant))

-- those that mean others: one may mean itself, as it is built for a test
abbrev pub own_imports : List ImportEntry → List ImportEntry
own_imports imports = map own_import (filter means_another imports)

-- What is passed over

abbrev pub is_go_file : List ℕ → Bool
is_go_file name = ends_with nat_eq name (codes ".go")

-- the program that runs the tests of a package
abbrev pub is_test_program : PackageEntry → Bool
is_test_program entry = ends_with nat_eq entry.path (codes ".test") && not (list_any is_go_file entry.files)

-- the list has the package of this import path as it is built with its own tests
abbrev pub has_own_tests : List PackageEntry → List ℕ → Bool
has_own_tests [] path = false
has_own_tests (entry ∷ entries) path =
    (is_of_own_tests entry.path && bytes_eq (own_path entry) path) || has_own_tests entries path

-- A package counts as it is built with its own tests, where the list has it so: of these import paths it does.
abbrev pub counts : (has_tests : List ℕ → Bool) → PackageEntry → Bool
counts has_tests entry =
    not (is_test_program entry) && (is_of_own_tests entry.path || not (has_tests (own_path entry)))

-- Packages that are listed more than once

-- the same names one after the other
abbrev pub same_names : List (List ℕ) → List (List ℕ) → Bool
same_names [] [] = true
same_names [] (b ∷ bs) = false
same_names (a ∷ more) [] = false
same_names (a ∷ more) (b ∷ bs) = bytes_eq a b && same_names more bs

abbrev pub same_path : Option (List ℕ) → Option (List ℕ) → Bool
same_path None None = true
same_path None (Some b) = false
same_path (Some a) None = false
same_path (Some a) (Some b) = bytes_eq a b

abbrev pub same_import : ImportEntry → ImportEntry → Bool
same_import a b = bytes_eq a.written b.written && bytes_eq a.meant b.meant

-- the same import paths one after the other, that mean the same
abbrev pub same_imports : List ImportEntry → List ImportEntry → Bool
same_imports [] [] = true
same_imports [] (b ∷ bs) = false
same_imports (a ∷ more) [] = false
same_imports (a ∷ more) (b ∷ bs) = same_import a b && same_imports more bs

-- the same files, the same module, and import paths that mean the same
abbrev pub is_same : PackageEntry → PackageEntry → Bool
is_same one other =
    (bytes_eq one.folder other.folder && same_names one.files other.files)
    && (same_path one.module_path other.module_path
    && same_imports (own_imports one.imports) (own_imports other.imports))

-- for each import path the first package of the list with it that counts
abbrev pub Firsts : Type 0
Firsts = List ℕ → Option PackageEntry

abbrev pub none_yet : Firsts
none_yet path = None

-- the first package of its import path is the same
abbrev pub stands_before : Option PackageEntry → PackageEntry → Bool
stands_before None entry = false
stands_before (Some first) entry = is_same first entry

-- What is read

-- some package of the list that has this import path was asked for
abbrev pub asks_for : List PackageEntry → List ℕ → Bool
asks_for [] path = false
asks_for (entry ∷ entries) path = (not entry.dep_only && bytes_eq (own_path entry) path) || asks_for entries path

-- a package with its import path, and those that its files import; these import paths were asked for
abbrev pub as_read : (asked : List ℕ → Bool) → PackageEntry → PackageEntry
as_read asked entry = record entry {
  path = own_path entry;
  dep_only = not (asked (own_path entry));
  imports = own_imports entry.imports;
}

-- what there is, as a list
abbrev pub option_list : Option PackageEntry → List PackageEntry
option_list None = []
option_list (Some entry) = entry ∷ []

-- it does not count, or it is the same as the first one of its import path
abbrev pub is_passed_over : Firsts → (is_counted : Bool) → PackageEntry → Bool
is_passed_over firsts is_counted entry = not is_counted || stands_before (firsts (own_path entry)) entry

-- one package, that counts or not, behind others with these first ones
abbrev pub read_one : (asked : List ℕ → Bool) → Firsts → (is_counted : Bool) → PackageEntry → Option PackageEntry
read_one asked firsts is_counted entry =
    if is_passed_over firsts is_counted entry then None else Some (as_read asked entry)

abbrev pub kept_first : (is_counted : Bool) → Firsts → PackageEntry → Firsts
kept_first is_counted firsts entry path =
    if is_counted then option_or (firsts path) (only_at (own_path entry) entry path) else firsts path

abbrev pub read_from : (has_tests asked : List ℕ → Bool) → Firsts → List PackageEntry → List PackageEntry
read_from has_tests asked firsts [] = []
read_from has_tests asked firsts (entry ∷ entries) =
    option_list (read_one asked firsts (counts has_tests entry) entry)
    ++ read_from has_tests asked (kept_first (counts has_tests entry) firsts entry) entries

-- the packages of a list that are read, in its order
abbrev pub packages_to_read : List PackageEntry → List PackageEntry
packages_to_read entries = read_from (has_own_tests entries) (asks_for entries) none_yet entries

-- what the program keeps of one
abbrev pub entry_of : ReadPackage → PackageEntry
entry_of read = record (package_of read.listed.now) {
  path = read.path.now;
  dep_only = not read.is_asked;
  imports = own_imports (package_of read.listed.now).imports;
}
