-- The findings of an earlier run that are read from a file, and why none are. Which bytes a file has, no contract can
-- say.
use Rattle.std.specs.Prelude.{◌≡◌, ◌⊎◌, ⊤, ℕ, List, [], ◌∷◌, Option, Some, None, map}
use Rattle.std.specs.Str.{IsUtf8}
use Rattle.baseline_json.specs.BaselineTexts.{IsBaselineFault, IsBaselineText}
use Rattle.baseline_json.specs.BaselineValues.{BaselineEntry, entry_of}
use Rattle.baseline_json.specs.declared.baseline.BaselineFinding.{BaselineFinding}
use Rattle.baseline_json.specs.declared.fault.BaselineFault.TheVariants as baseline_fault
use Rattle.folders.specs.ListedFiles.{given_name}
use Rattle.folders.specs.ReadFiles.{bytes_read, name_read}
use Rattle.folders.specs.UnitFiles.{IsFolderOf}
use Rattle.folders.specs.declared.fault.Fault.{Fault}
use Rattle.folders.specs.declared.fault.Fault.TheVariants.{BaselineNotJson, BaselineWrongShape, OutOfMemory}
use Rattle.folders.specs.declared.whole_files.ReadFile.{ReadFile}
use Rattle.inputs.specs.NamedFiles.{HaveFaultIn, IsNamedFault}
use Rattle.inputs.specs.declared.baseline_input.BaselineRead.{BaselineRead}

-- Where words name a report of an earlier run, it was read, and the findings are those of its bytes. Where they name
-- none, there are none.
abbrev pub AreKnownIn : List (List ℕ) → Option ReadFile → List BaselineFinding → Type 0
AreKnownIn [] None known = known ≡ []
AreKnownIn [] (Some file) known = ⊥
AreKnownIn (name ∷ []) None known = ⊥
AreKnownIn (name ∷ []) (Some file) known =
    (name_read file ≡ name) × IsBaselineText (bytes_read file) (map entry_of known)
AreKnownIn (name ∷ another ∷ more) file known = ⊥

abbrev pub AreKnownBy : List (List ℕ) → BaselineRead → Type 0
AreKnownBy names read = AreKnownIn names read.file read.findings.items

-- For a unit, whose files have absolute names, the files of an earlier report are named from its own folder on.

abbrev pub located : List ℕ → BaselineFinding → BaselineEntry
located folder finding = record (entry_of finding) { file = given_name folder (entry_of finding).file }

abbrev pub AreLocatedIn : List (List ℕ) → Option ReadFile → List BaselineFinding → Type 0
AreLocatedIn [] None known = known ≡ []
AreLocatedIn [] (Some file) known = ⊥
AreLocatedIn (name ∷ []) None known = ⊥
AreLocatedIn (name ∷ []) (Some file) known =
    (name_read file ≡ name)
    × ((found : List BaselineFinding)
    × (folder : List ℕ)
    × IsBaselineText (bytes_read file) (map entry_of found)
    × IsFolderOf name folder
    × (map entry_of known ≡ map (located folder) found))
AreLocatedIn (name ∷ another ∷ more) file known = ⊥

abbrev pub AreLocatedBy : List (List ℕ) → BaselineRead → Type 0
AreLocatedBy names read = AreLocatedIn names read.file read.findings.items

-- why these bytes are the text of none; what is not UTF-8 is no JSON
abbrev pub IsBaselineBytesFault : List ℕ → Fault → Type 0
IsBaselineBytesFault bytes BaselineNotJson = (IsUtf8 bytes → ⊥) ⊎ IsBaselineFault bytes baseline_fault.NotJson
IsBaselineBytesFault bytes BaselineWrongShape = IsBaselineFault bytes baseline_fault.WrongShape
IsBaselineBytesFault bytes OutOfMemory = ⊤
IsBaselineBytesFault bytes _ = ⊥

-- words name one report of an earlier run, which was read, and its bytes have this fault
abbrev pub HaveBaselineFault : List (List ℕ) → Fault → Type 0
HaveBaselineFault = HaveFaultIn IsBaselineBytesFault

-- the fault of what is read of the report that words name
abbrev pub IsReadBaselineFault : List (List ℕ) → Fault → Type 0
IsReadBaselineFault = IsNamedFault IsBaselineBytesFault
