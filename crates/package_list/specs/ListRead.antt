-- What serves the proofs: what is read of values, of the members of objects, and of a text so far.
use Rattle.std.specs.Prelude.{ℕ, ◌≡◌, Bool, List, [], ◌∷◌, ◌++◌, Option, Some, String, option_and_then, option_map, map, codes, string_bytes, ⊤}
use Rattle.std.specs.declared.alloc.Global.{Global}
use Rattle.json.specs.Token.{Token}
use Rattle.serde_json.specs.Data.{Data, Members, no_members, member}
use Rattle.serde_json.specs.Find.{as_str, get_member}
use Rattle.json_reading.specs.Standing.{SomeIs}
use Rattle.json_reading.specs.declared.stop.Stop.{Stop}
use Rattle.json_reading.specs.declared.stop.Stop.TheVariants as stop
use Rattle.package_list.specs.declared.fault.ListFault.{ListFault}
use Rattle.package_list.specs.declared.fault.ListFault.TheVariants.{NotJson, OutOfMemory}
use Rattle.package_list.specs.declared.members.PackageMembers.{PackageMembers}
use Rattle.package_list.specs.ListedValues.{◌>>=◌, ImportEntry, PackageEntry, bool_under, filled_under, import_of, imports_under, module_under, package_in, strings_under}
use Rattle.package_list.specs.ListTexts.{AreValuesIn, IsNoJson}
use Rattle.package_list.specs.Pieces.{pieces}

-- Values

-- the value that stands there was passed, and this was found in it
abbrev pub ReadsIn : {X : Type 0} → (Data → X) → Option (Data × List Token) → List Token → X → Type 0
ReadsIn {X} find standing new found = (value : Data) × (standing ≡ Some (value, new)) × (found ≡ find value)

-- one list after the other, where both are there
abbrev pub both_lists : {X : Type 0} → Option (List X) → Option (List X) → Option (List X)
both_lists {X} first second = option_and_then (λ xs. option_map (λ ys. xs ++ ys) second) first

-- the members of an object from which these were read
module _ (path folder : Option (List ℕ)) (go_files cgo_files : Option (List (List ℕ))) where
  pub record HasPackageMembers
      (module_path : Option (Option (List ℕ))) (incomplete dep_only : Option Bool)
      (imports : Option (List ImportEntry)) (ms : Members)
      : Type 0 where
    pub path_under : path ≡ filled_under (get_member (codes "ImportPath") ms)
    pub folder_under : folder ≡ filled_under (get_member (codes "Dir") ms)
    pub go_files_under : go_files ≡ strings_under (get_member (codes "GoFiles") ms)
    pub cgo_files_under : cgo_files ≡ strings_under (get_member (codes "CgoFiles") ms)
    pub module_under : module_path ≡ module_under (get_member (codes "Module") ms)
    pub incomplete_under : incomplete ≡ bool_under (get_member (codes "Incomplete") ms)
    pub dep_only_under : dep_only ≡ bool_under (get_member (codes "DepOnly") ms)
    pub imports_under : imports ≡ imports_under (get_member (codes "ImportMap") ms)

abbrev pub HasMembers : PackageMembers → Members → Type 0
HasMembers read = HasPackageMembers
    (option_map string_bytes read.path) (option_map string_bytes read.folder)
    (option_map (λ list. map string_bytes list.items) read.go_files)
    (option_map (λ list. map string_bytes list.items) read.cgo_files)
    (option_map (option_map string_bytes) read.module_path) read.incomplete read.dep_only
    (option_map (λ list. map import_of list.items) read.imports)

-- the package of such an object
unfoldable pub package_with : Option (List ℕ) → Option (List ℕ) → Option (List (List ℕ)) → Option (Option (List ℕ))
    → (incomplete dep_only : Option Bool)
    → Option (List ImportEntry)
    → Option PackageEntry
package_with path folder files module_path incomplete dep_only imports = do
  p ← path
  f ← folder
  names ← files
  m ← module_path
  i ← incomplete
  d ← dep_only
  is ← imports
  Some (record { path = p; folder = f; files = names; module_path = m; incomplete = i; dep_only = d; imports = is })

-- Import paths

-- what stands under a key: a string, or another value
abbrev pub KeyedText : Type 0
KeyedText = List ℕ × Option (List ℕ)

abbrev pub texts_there : Members → List KeyedText
texts_there no_members = []
texts_there (member key value ms) = (key, as_str value) ∷ texts_there ms

-- the same, as it is kept
abbrev pub kept_text : String Global × Option (String Global) → KeyedText
kept_text e = (string_bytes e.0, option_map string_bytes e.1)

-- what these say of import paths, if all are strings
abbrev pub all_told : List KeyedText → Option (List ImportEntry)
all_told [] = Some []
all_told (e ∷ es) =
    option_and_then (λ s. option_map (λ rest. record { written = e.0; meant = s } ∷ rest) (all_told es)) e.1

-- Pieces

abbrev pub RefusesPiece : List ℕ → Stop → Type 0
RefusesPiece piece stop.NotJson = IsNoJson piece
RefusesPiece piece stop.OutOfMemory = ⊤

abbrev pub RefusesPieces : List ℕ → Stop → Type 0
RefusesPieces text stop.NotJson = SomeIs IsNoJson (pieces text)
RefusesPieces text stop.OutOfMemory = ⊤

abbrev pub fault_of_stop : Stop → ListFault
fault_of_stop stop.NotJson = NotJson
fault_of_stop stop.OutOfMemory = OutOfMemory

-- the packages that all values are
abbrev pub packages_in : List Data → Option (List PackageEntry)
packages_in [] = Some []
packages_in (value ∷ values) =
    option_and_then (λ entry. option_map (λ entries. entry ∷ entries) (packages_in values)) (package_in value)

abbrev pub one_more : Option (List PackageEntry) → Option PackageEntry → Option (List PackageEntry)
one_more entries entry = option_and_then (λ es. option_map (λ e. es ++ e ∷ []) entry) entries

-- all pieces are JSON, and these are the packages of their values
abbrev pub AreJudged : List ℕ → Option (List PackageEntry) → Type 0
AreJudged text found = (values : List Data) × AreValuesIn text values × (found ≡ packages_in values)
