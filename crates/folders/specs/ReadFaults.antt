-- What goes wrong where folders and files are read: one of them can't be, and the line of the fault names it; memory is
-- refused; or a file was read, and its bytes are not what they should be.
use Rattle.std.specs.Prelude.{◌≡◌, ⊤, ℕ, List, string_bytes}
use Rattle.folders.specs.Names.{IsNameIn}
use Rattle.folders.specs.ReadFiles.{bytes_read, name_read}
use Rattle.folders.specs.declared.fault.Fault.{Fault}
use Rattle.folders.specs.declared.fault.Fault.TheVariants.{CannotRead, OutOfMemory}
use Rattle.folders.specs.declared.whole_files.ReadFile.{ReadFile}

-- the line names one of these
pub record NamesOneOf (names : List ℕ → Type 0) (text : List ℕ) : Type 0 where
  pub name : List ℕ
  pub is_one : names name
  pub is_told : IsNameIn name text

-- one of these can't be read
abbrev pub IsReadFaultOf : (List ℕ → Type 0) → Fault → Type 0
IsReadFaultOf names (CannotRead text) = NamesOneOf names (string_bytes text)
IsReadFaultOf names OutOfMemory = ⊤
IsReadFaultOf names _ = ⊥

-- the file of this name was read, and its bytes have the fault
pub record IsFaultIn (name : List ℕ) (of_bytes : List ℕ → Fault → Type 0) (fault : Fault) : Type 0 where
  pub file : ReadFile
  pub is_named : name_read file ≡ name
  pub is_fault : of_bytes (bytes_read file) fault
