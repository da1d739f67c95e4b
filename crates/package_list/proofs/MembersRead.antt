-- What is read of the members of a package.
use Rattle.std.proofs.Common.{◌≡◌, ℕ, ◌++◌, [], Bool, false, List, Option, Some, None, bytes_eq, codes, refl, sym, ap, ◌∙◌}
use Rattle.serde_json.specs.Data.{Data, object, Members, no_members, put}
use Rattle.serde_json.specs.Find.{as_object, get, get_member}
use Rattle.json_reading.proofs.ObjectKeys.{set, kept, other_key}
use Rattle.package_list.specs.ListedValues.{◌>>=◌, ImportEntry, PackageEntry, bool_under, filled_under, imports_under, module_under, package_in, strings_under}
use Rattle.package_list.specs.ListRead.{both_lists, package_with, HasPackageMembers}
use Rattle.package_list.proofs.StringsRead.{nothing_under}

-- Putting one more member

module _ {X : Type 0} (of : Option Data → X) (key : List ℕ) (value : Data) (ms : Members) (found : X) where
  pub here : (k : List ℕ) → key ≡ k → found ≡ of (Some value) → found ≡ of (get_member k (put key value ms))
  here k same e = set (λ o. found ≡ of o) k key value ms same e

  beside : (k other : List ℕ) → key ≡ k → false ≡ bytes_eq k other → found ≡ of (get_member other ms)
      → found ≡ of (get_member other (put key value ms))
  beside k other same apart e =
      kept (λ o. found ≡ of o) other key value ms (λ f. other_key k other apart (sym same ∙ f)) e

  pub far : (other : List ℕ) → false ≡ bytes_eq key other → found ≡ of (get_member other ms)
      → found ≡ of (get_member other (put key value ms))
  far other apart e = kept (λ o. found ≡ of o) other key value ms (other_key key other apart) e

module _ (key : List ℕ) (value : Data) (ms : Members) (path folder : Option (List ℕ)) (go_files cgo_files : Option (List (List ℕ)))
    (module_path : Option (Option (List ℕ))) (incomplete dep_only : Option Bool)
    (imports : Option (List ImportEntry))
    (h : HasPackageMembers path folder go_files cgo_files module_path incomplete dep_only imports ms) where
  pub path_put : (found : Option (List ℕ)) → key ≡ codes "ImportPath" → found ≡ filled_under (Some value)
      → HasPackageMembers found folder go_files cgo_files module_path incomplete dep_only imports (put key value ms)
  path_put found same e = record {
    path_under = here filled_under key value ms found (codes "ImportPath") same e;
    folder_under =
        beside filled_under key value ms folder (codes "ImportPath") (codes "Dir") same refl h.folder_under;
    go_files_under =
        beside strings_under key value ms go_files (codes "ImportPath") (codes "GoFiles") same refl h.go_files_under;
    cgo_files_under =
        beside strings_under key value ms cgo_files (codes "ImportPath") (codes "CgoFiles") same refl h.cgo_files_under;
    module_under =
        beside module_under key value ms module_path (codes "ImportPath") (codes "Module") same refl h.module_under;
    incomplete_under =
        beside bool_under key value ms incomplete (codes "ImportPath") (codes "Incomplete") same refl h.incomplete_under;
    dep_only_under =
        beside bool_under key value ms dep_only (codes "ImportPath") (codes "DepOnly") same refl h.dep_only_under;
    imports_under =
        beside imports_under key value ms imports (codes "ImportPath") (codes "ImportMap") same refl h.imports_under;
  }

  pub folder_put : (found : Option (List ℕ)) → key ≡ codes "Dir" → found ≡ filled_under (Some value)
      → HasPackageMembers path found go_files cgo_files module_path incomplete dep_only imports (put key value ms)
  folder_put found same e = record {
    path_under =
        beside filled_under key value ms path (codes "Dir") (codes "ImportPath") same refl h.path_under;
    folder_under = here filled_under key value ms found (codes "Dir") same e;
    go_files_under =
        beside strings_under key value ms go_files (codes "Dir") (codes "GoFiles") same refl h.go_files_under;
    cgo_files_under =
        beside strings_under key value ms cgo_files (codes "Dir") (codes "CgoFiles") same refl h.cgo_files_under;
    module_under =
        beside module_under key value ms module_path (codes "Dir") (codes "Module") same refl h.module_under;
    incomplete_under =
        beside bool_under key value ms incomplete (codes "Dir") (codes "Incomplete") same refl h.incomplete_under;
    dep_only_under =
        beside bool_under key value ms dep_only (codes "Dir") (codes "DepOnly") same refl h.dep_only_under;
    imports_under =
        beside imports_under key value ms imports (codes "Dir") (codes "ImportMap") same refl h.imports_under;
  }

  pub go_files_put : (found : Option (List (List ℕ))) → key ≡ codes "GoFiles" → found ≡ strings_under (Some value)
      → HasPackageMembers path folder found cgo_files module_path incomplete dep_only imports (put key value ms)
  go_files_put found same e = record {
    path_under =
        beside filled_under key value ms path (codes "GoFiles") (codes "ImportPath") same refl h.path_under;
    folder_under =
        beside filled_under key value ms folder (codes "GoFiles") (codes "Dir") same refl h.folder_under;
    go_files_under = here strings_under key value ms found (codes "GoFiles") same e;
    cgo_files_under =
        beside strings_under key value ms cgo_files (codes "GoFiles") (codes "CgoFiles") same refl h.cgo_files_under;
    module_under =
        beside module_under key value ms module_path (codes "GoFiles") (codes "Module") same refl h.module_under;
    incomplete_under =
        beside bool_under key value ms incomplete (codes "GoFiles") (codes "Incomplete") same refl h.incomplete_under;
    dep_only_under =
        beside bool_under key value ms dep_only (codes "GoFiles") (codes "DepOnly") same refl h.dep_only_under;
    imports_under =
        beside imports_under key value ms imports (codes "GoFiles") (codes "ImportMap") same refl h.imports_under;
  }

  pub cgo_files_put : (found : Option (List (List ℕ))) → key ≡ codes "CgoFiles" → found ≡ strings_under (Some value)
      → HasPackageMembers path folder go_files found module_path incomplete dep_only imports (put key value ms)
  cgo_files_put found same e = record {
    path_under =
        beside filled_under key value ms path (codes "CgoFiles") (codes "ImportPath") same refl h.path_under;
    folder_under =
        beside filled_under key value ms folder (codes "CgoFiles") (codes "Dir") same refl h.folder_under;
    go_files_under =
        beside strings_under key value ms go_files (codes "CgoFiles") (codes "GoFiles") same refl h.go_files_under;
    cgo_files_under = here strings_under key value ms found (codes "CgoFiles") same e;
    module_under =
        beside module_under key value ms module_path (codes "CgoFiles") (codes "Module") same refl h.module_under;
    incomplete_under =
        beside bool_under key value ms incomplete (codes "CgoFiles") (codes "Incomplete") same refl h.incomplete_under;
    dep_only_under =
        beside bool_under key value ms dep_only (codes "CgoFiles") (codes "DepOnly") same refl h.dep_only_under;
    imports_under =
        beside imports_under key value ms imports (codes "CgoFiles") (codes "ImportMap") same refl h.imports_under;
  }

  pub module_put : (found : Option (Option (List ℕ))) → key ≡ codes "Module" → found ≡ module_under (Some value)
      → HasPackageMembers path folder go_files cgo_files found incomplete dep_only imports (put key value ms)
  module_put found same e = record {
    path_under =
        beside filled_under key value ms path (codes "Module") (codes "ImportPath") same refl h.path_under;
    folder_under =
        beside filled_under key value ms folder (codes "Module") (codes "Dir") same refl h.folder_under;
    go_files_under =
        beside strings_under key value ms go_files (codes "Module") (codes "GoFiles") same refl h.go_files_under;
    cgo_files_under =
        beside strings_under key value ms cgo_files (codes "Module") (codes "CgoFiles") same refl h.cgo_files_under;
    module_under = here module_under key value ms found (codes "Module") same e;
    incomplete_under =
        beside bool_under key value ms incomplete (codes "Module") (codes "Incomplete") same refl h.incomplete_under;
    dep_only_under =
        beside bool_under key value ms dep_only (codes "Module") (codes "DepOnly") same refl h.dep_only_under;
    imports_under =
        beside imports_under key value ms imports (codes "Module") (codes "ImportMap") same refl h.imports_under;
  }

  pub incomplete_put : (found : Option Bool) → key ≡ codes "Incomplete" → found ≡ bool_under (Some value)
      → HasPackageMembers path folder go_files cgo_files module_path found dep_only imports (put key value ms)
  incomplete_put found same e = record {
    path_under =
        beside filled_under key value ms path (codes "Incomplete") (codes "ImportPath") same refl h.path_under;
    folder_under =
        beside filled_under key value ms folder (codes "Incomplete") (codes "Dir") same refl h.folder_under;
    go_files_under =
        beside strings_under key value ms go_files (codes "Incomplete") (codes "GoFiles") same refl h.go_files_under;
    cgo_files_under =
        beside strings_under key value ms cgo_files (codes "Incomplete") (codes "CgoFiles") same refl h.cgo_files_under;
    module_under =
        beside module_under key value ms module_path (codes "Incomplete") (codes "Module") same refl h.module_under;
    incomplete_under = here bool_under key value ms found (codes "Incomplete") same e;
    dep_only_under =
        beside bool_under key value ms dep_only (codes "Incomplete") (codes "DepOnly") same refl h.dep_only_under;
    imports_under =
        beside imports_under key value ms imports (codes "Incomplete") (codes "ImportMap") same refl h.imports_under;
  }

  pub dep_only_put : (found : Option Bool) → key ≡ codes "DepOnly" → found ≡ bool_under (Some value)
      → HasPackageMembers path folder go_files cgo_files module_path incomplete found imports (put key value ms)
  dep_only_put found same e = record {
    path_under =
        beside filled_under key value ms path (codes "DepOnly") (codes "ImportPath") same refl h.path_under;
    folder_under =
        beside filled_under key value ms folder (codes "DepOnly") (codes "Dir") same refl h.folder_under;
    go_files_under =
        beside strings_under key value ms go_files (codes "DepOnly") (codes "GoFiles") same refl h.go_files_under;
    cgo_files_under =
        beside strings_under key value ms cgo_files (codes "DepOnly") (codes "CgoFiles") same refl h.cgo_files_under;
    module_under =
        beside module_under key value ms module_path (codes "DepOnly") (codes "Module") same refl h.module_under;
    incomplete_under =
        beside bool_under key value ms incomplete (codes "DepOnly") (codes "Incomplete") same refl h.incomplete_under;
    dep_only_under = here bool_under key value ms found (codes "DepOnly") same e;
    imports_under =
        beside imports_under key value ms imports (codes "DepOnly") (codes "ImportMap") same refl h.imports_under;
  }

  pub imports_put : (found : Option (List ImportEntry)) → key ≡ codes "ImportMap" → found ≡ imports_under (Some value)
      → HasPackageMembers path folder go_files cgo_files module_path incomplete dep_only found (put key value ms)
  imports_put found same e = record {
    path_under =
        beside filled_under key value ms path (codes "ImportMap") (codes "ImportPath") same refl h.path_under;
    folder_under =
        beside filled_under key value ms folder (codes "ImportMap") (codes "Dir") same refl h.folder_under;
    go_files_under =
        beside strings_under key value ms go_files (codes "ImportMap") (codes "GoFiles") same refl h.go_files_under;
    cgo_files_under =
        beside strings_under key value ms cgo_files (codes "ImportMap") (codes "CgoFiles") same refl h.cgo_files_under;
    module_under =
        beside module_under key value ms module_path (codes "ImportMap") (codes "Module") same refl h.module_under;
    incomplete_under =
        beside bool_under key value ms incomplete (codes "ImportMap") (codes "Incomplete") same refl h.incomplete_under;
    dep_only_under =
        beside bool_under key value ms dep_only (codes "ImportMap") (codes "DepOnly") same refl h.dep_only_under;
    imports_under = here imports_under key value ms found (codes "ImportMap") same e;
  }

  pub other_put : false ≡ bytes_eq key (codes "ImportPath")
      → false ≡ bytes_eq key (codes "Dir")
      → false ≡ bytes_eq key (codes "GoFiles")
      → false ≡ bytes_eq key (codes "CgoFiles")
      → false ≡ bytes_eq key (codes "Module")
      → false ≡ bytes_eq key (codes "Incomplete")
      → false ≡ bytes_eq key (codes "DepOnly")
      → false ≡ bytes_eq key (codes "ImportMap")
      → HasPackageMembers path folder go_files cgo_files module_path incomplete dep_only imports (put key value ms)
  other_put no_path no_folder no_go_files no_cgo_files no_module no_incomplete no_dep_only no_imports = record {
    path_under = far filled_under key value ms path (codes "ImportPath") no_path h.path_under;
    folder_under = far filled_under key value ms folder (codes "Dir") no_folder h.folder_under;
    go_files_under = far strings_under key value ms go_files (codes "GoFiles") no_go_files h.go_files_under;
    cgo_files_under = far strings_under key value ms cgo_files (codes "CgoFiles") no_cgo_files h.cgo_files_under;
    module_under = far module_under key value ms module_path (codes "Module") no_module h.module_under;
    incomplete_under = far bool_under key value ms incomplete (codes "Incomplete") no_incomplete h.incomplete_under;
    dep_only_under = far bool_under key value ms dep_only (codes "DepOnly") no_dep_only h.dep_only_under;
    imports_under = far imports_under key value ms imports (codes "ImportMap") no_imports h.imports_under;
  }

pub no_package_members : HasPackageMembers None None (Some []) (Some []) (Some None) (Some false) (Some false) (Some []) no_members
no_package_members = record {
  path_under = refl;
  folder_under = refl;
  go_files_under = refl;
  cgo_files_under = refl;
  module_under = refl;
  incomplete_under = refl;
  dep_only_under = refl;
  imports_under = refl;
}

-- The package of an object with such members

abbrev of_parts : Option (List ℕ) → Option (List ℕ) → Option (List (List ℕ)) → Option (List (List ℕ))
    → Option (Option (List ℕ))
    → (incomplete dep_only : Option Bool)
    → Option (List ImportEntry)
    → Option PackageEntry
of_parts path folder go_files cgo_files module_path incomplete dep_only imports = do
  p ← path
  f ← folder
  g ← go_files
  c ← cgo_files
  m ← module_path
  i ← incomplete
  d ← dep_only
  is ← imports
  Some (record { path = p; folder = f; files = g ++ c; module_path = m; incomplete = i; dep_only = d; imports = is })

same_package : (path folder : Option (List ℕ)) (go_files cgo_files : Option (List (List ℕ))) (module_path : Option (Option (List ℕ))) (incomplete dep_only : Option Bool) (imports : Option (List ImportEntry))
    → package_with path folder (both_lists go_files cgo_files) module_path incomplete dep_only imports
    ≡ of_parts path folder go_files cgo_files module_path incomplete dep_only imports
unfolding package_with
same_package None folder go_files cgo_files module_path incomplete dep_only imports = refl
same_package (Some p) None go_files cgo_files module_path incomplete dep_only imports = refl
same_package (Some p) (Some f) None cgo_files module_path incomplete dep_only imports = refl
same_package (Some p) (Some f) (Some g) None module_path incomplete dep_only imports = refl
same_package (Some p) (Some f) (Some g) (Some c) None incomplete dep_only imports = refl
same_package (Some p) (Some f) (Some g) (Some c) (Some m) None dep_only imports = refl
same_package (Some p) (Some f) (Some g) (Some c) (Some m) (Some i) None imports = refl
same_package (Some p) (Some f) (Some g) (Some c) (Some m) (Some i) (Some d) None = refl
same_package (Some p) (Some f) (Some g) (Some c) (Some m) (Some i) (Some d) (Some is) = refl

in_parts : (value : Data)
    → package_in value
    ≡ of_parts (filled_under (get (codes "ImportPath") value)) (filled_under (get (codes "Dir") value))
    (strings_under (get (codes "GoFiles") value)) (strings_under (get (codes "CgoFiles") value))
    (module_under (get (codes "Module") value)) (bool_under (get (codes "Incomplete") value))
    (bool_under (get (codes "DepOnly") value)) (imports_under (get (codes "ImportMap") value))
unfolding package_in
in_parts value = refl

pub package_found : (ms : Members) (path folder : Option (List ℕ)) (files go_files cgo_files : Option (List (List ℕ))) (module_path : Option (Option (List ℕ))) (incomplete dep_only : Option Bool) (imports : Option (List ImportEntry))
    → files ≡ both_lists go_files cgo_files
    → HasPackageMembers path folder go_files cgo_files module_path incomplete dep_only imports ms
    → package_with path folder files module_path incomplete dep_only imports ≡ package_in (object ms)
package_found ms path folder files go_files cgo_files module_path incomplete dep_only imports both h =
    ap (λ names. package_with path folder names module_path incomplete dep_only imports) both
    ∙ same_package path folder go_files cgo_files module_path incomplete dep_only imports
    ∙ (λ i. of_parts (h.path_under i) (h.folder_under i) (h.go_files_under i) (h.cgo_files_under i) (h.module_under i)
    (h.incomplete_under i) (h.dep_only_under i) (h.imports_under i))
    ∙ sym (in_parts (object ms))

pub no_package : (value : Data) → as_object value ≡ None → package_in value ≡ None
no_package value e =
    in_parts value
    ∙ (λ i. of_parts (filled_under (nothing_under (codes "ImportPath") value e i))
    (filled_under (get (codes "Dir") value)) (strings_under (get (codes "GoFiles") value))
    (strings_under (get (codes "CgoFiles") value)) (module_under (get (codes "Module") value))
    (bool_under (get (codes "Incomplete") value)) (bool_under (get (codes "DepOnly") value))
    (imports_under (get (codes "ImportMap") value)))
