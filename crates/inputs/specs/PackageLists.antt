-- Why nothing is read of a list of packages. Which bytes its file has, or the standard input, no contract can say.
use Rattle.std.specs.Prelude.{◌≡◌, ◌⊎◌, ⊤, ℕ, List, [], ◌∷◌, None, String, string_bytes}
use Rattle.std.specs.declared.alloc.Global.{Global}
use Rattle.package_list.specs.ListedValues.{PackageEntry}
use Rattle.package_list.specs.ListTexts.{first_incomplete, AreListedIn, IsListFault}
use Rattle.package_list.specs.declared.fault.ListFault.TheVariants as list_fault
use Rattle.folders.specs.Names.{IsNameIn, IsPrintable}
use Rattle.folders.specs.ReadFiles.{input_name}
use Rattle.folders.specs.declared.fault.Fault.{Fault}
use Rattle.folders.specs.declared.fault.Fault.TheVariants.{BadPackage, CannotRead, ListIsEmpty, ListNotJson, ListWrongShape, ListIncomplete, OutOfMemory}
use Rattle.inputs.specs.NamedFiles.{HaveFaultIn, OfOnly}

-- no line could name the path of one of them
abbrev pub HasBadPath : List PackageEntry → Type 0
HasBadPath [] = ⊥
HasBadPath (entry ∷ entries) = (IsPrintable entry.path → ⊥) ⊎ HasBadPath entries

-- the bytes list packages, all of which could be loaded, and one has such a path
pub record HaveBadPath (bytes : List ℕ) : Type 0 where
  pub entries : List PackageEntry
  pub are_listed : AreListedIn bytes entries
  pub are_complete : first_incomplete entries ≡ None
  pub is_bad : HasBadPath entries

-- they list a package that could not be loaded, the first such one; and the text is its path, where a line can hold it
pub record AreIncomplete (bytes : List ℕ) (text : List ℕ) : Type 0 where
  pub path : String Global
  pub is_first : IsListFault bytes (list_fault.Incomplete path)
  pub is_path : IsPrintable (string_bytes path) → text ≡ string_bytes path

-- why these bytes list no packages
abbrev pub IsListBytesFault : List ℕ → Fault → Type 0
IsListBytesFault bytes ListNotJson = IsListFault bytes list_fault.NotJson
IsListBytesFault bytes ListWrongShape = IsListFault bytes list_fault.WrongShape
IsListBytesFault bytes (ListIncomplete text) = AreIncomplete bytes (string_bytes text)
IsListBytesFault bytes ListIsEmpty = IsListFault bytes list_fault.Empty
IsListBytesFault bytes (BadPackage text) = HaveBadPath bytes
IsListBytesFault bytes OutOfMemory = ⊤
IsListBytesFault bytes _ = ⊥

-- words name one list of packages, which was read, and its bytes have this fault
abbrev pub HaveListFault : List (List ℕ) → Fault → Type 0
HaveListFault = HaveFaultIn IsListBytesFault

-- the fault of what is read of the list that words name
abbrev pub IsReadListFault : List (List ℕ) → Fault → Type 0
IsReadListFault lists (CannotRead text) = OfOnly lists (λ name. IsNameIn (input_name name) (string_bytes text))
IsReadListFault lists OutOfMemory = ⊤
IsReadListFault lists fault = HaveListFault lists fault
