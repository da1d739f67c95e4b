-- The declared facts that are read from a file, and why none are. Which bytes a file has, no contract can say.
use Rattle.std.specs.Prelude.{◌≡◌, ◌⊎◌, ⊤, ℕ, List, [], ◌∷◌, Option, Some, None}
use Rattle.std.specs.Str.{IsUtf8}
use Rattle.declared_json.specs.DeclaredPackages.{packages_of, reserved_text}
use Rattle.declared_json.specs.DeclaredTexts.{IsDeclaredFault, IsDeclaredText}
use Rattle.declared_json.specs.declared.fault.DeclaredFault.TheVariants as outside_fault
use Rattle.declared_json.specs.declared.outside.DeclaredPackages.{DeclaredPackages}
use Rattle.declared_json.specs.declared.reserved.ReservedPath.{ReservedPath}
use Rattle.folders.specs.ReadFiles.{bytes_read, name_read}
use Rattle.folders.specs.declared.fault.Fault.{Fault}
use Rattle.folders.specs.declared.fault.Fault.TheVariants.{FactsNotJson, FactsWrongShape, FactsWrongVersion, FactsReserved, OutOfMemory}
use Rattle.folders.specs.declared.whole_files.ReadFile.{ReadFile}
use Rattle.inputs.specs.NamedFiles.{HaveFaultIn, IsNamedFault}

-- Where words name a file of declared facts, it was read, and what is declared is what its bytes say. Where they name
-- none, nothing is declared.
abbrev pub AreDeclaredBy : List (List ℕ) → Option ReadFile → DeclaredPackages → Type 0
AreDeclaredBy [] None outside = packages_of outside ≡ []
AreDeclaredBy [] (Some file) outside = ⊥
AreDeclaredBy (name ∷ []) None outside = ⊥
AreDeclaredBy (name ∷ []) (Some file) outside =
    (name_read file ≡ name) × IsDeclaredText (bytes_read file) (packages_of outside)
AreDeclaredBy (name ∷ another ∷ more) file outside = ⊥

-- why these bytes are the text of none; what is not UTF-8 is no JSON
abbrev pub IsFactsFault : List ℕ → Fault → Type 0
IsFactsFault bytes FactsNotJson = (IsUtf8 bytes → ⊥) ⊎ IsDeclaredFault bytes outside_fault.NotJson
IsFactsFault bytes FactsWrongShape = IsDeclaredFault bytes outside_fault.WrongShape
IsFactsFault bytes FactsWrongVersion = IsDeclaredFault bytes outside_fault.WrongVersion
IsFactsFault bytes (FactsReserved text) =
    (path : ReservedPath) × (text.now ≡ reserved_text path) × IsDeclaredFault bytes (outside_fault.Reserved path)
IsFactsFault bytes OutOfMemory = ⊤
IsFactsFault bytes _ = ⊥

-- words name one file of declared facts, which was read, and its bytes have this fault
abbrev pub HaveFactsFault : List (List ℕ) → Fault → Type 0
HaveFactsFault = HaveFaultIn IsFactsFault

-- the fault of what is read of the file of declared facts that words name
abbrev pub IsReadFactsFault : List (List ℕ) → Fault → Type 0
IsReadFactsFault = IsNamedFault IsFactsFault
