-- What a call of the go command has written when it ends, and with which fault: a list of flags; a line that tells
-- which program this is; or the diagnostics of a unit, after what is kept of it was written to the file that it names.
use Rattle.std.specs.Prelude.{◌≡◌, ◌⊎◌, ⊤, ℕ, Bool, true, false, if◌then◌else◌, List, [], ◌∷◌, ◌++◌, Option, codes, is_some, string_bytes}
use Rattle.std.specs.Io.KnownBytes.{Appends}
use Rattle.command_line.specs.VetViews.{flags_of}
use Rattle.command_line.specs.VetWords.{Flags, VetCall, asks_flags, asks_version, asks_unit, has_wrong, run_folder}
use Rattle.command_line.specs.declared.vet_told.UnitFlags.{UnitFlags}
use Rattle.declared_json.specs.DeclaredPackages.{packages_of}
use Rattle.folders.specs.Names.{IsNameIn}
use Rattle.folders.specs.ReadFiles.{bytes_read}
use Rattle.folders.specs.WrittenFiles.{name_of, text_of}
use Rattle.folders.specs.declared.fault.Fault.{Fault}
use Rattle.folders.specs.declared.fault.Fault.TheVariants.{CannotRead, CannotWrite, CannotWriteFile, FunctionTooLarge, OutOfMemory}
use Rattle.folders.specs.declared.whole_files.ReadFile.{ReadFile}
use Rattle.folders.specs.declared.whole_files.WrittenFile.{WrittenFile}
use Rattle.unit_reports.specs.OneUnit.{IsUnitReportFault}
use Rattle.unit_reports.specs.declared.one_unit.UnitReportFault.{UnitReportFault}
use Rattle.unit_reports.specs.declared.one_unit.UnitReportFault.TheVariants as unit_fault
use Rattle.unit_reports.specs.declared.units.ImportedUnit.{ImportedUnit}
use Rattle.unit_config.specs.UnitValues.{unit_of, UnitEntry}
use Rattle.unit_reading.specs.UnitsTold.{without_suffix, IsUnitFileFault, IsUnitRead}
use Rattle.unit_reading.specs.declared.unit_file.UnitRead.{UnitRead}
use Rattle.vetx_json.specs.KeptUnits.{vetx_of}
use Rattle.vetx_json.specs.VetxTexts.{IsWrittenText}
use Rattle.vetx_json.specs.declared.vetx.Vetx.{Vetx}
use Rattle.vet_units.specs.Digests.{digest_text}
use Rattle.inputs.specs.LoadFaults.{fault_of_load}
use Rattle.printed.specs.Printing.{is_of_writing, AppendsFront}
use Rattle.printed.specs.Statuses.{status_of}
use Rattle.vet_units.specs.UnitsRead.{IsFlagFileFault, IsInputFaultOf, IsInputOf}
use Rattle.printed.specs.declared.status.Status.{Status}
use Rattle.printed.specs.declared.status.Status.TheVariants.{Fine, Found, Faulty}
use Rattle.vet_units.specs.declared.unit_input.UnitInput.{UnitInput}
use Rattle.vet_units.specs.declared.unit_report.JudgedUnit.{JudgedUnit}
use Rattle.vet_units.specs.JudgedUnits.{AreCounted, IsJudgedSo}
use Rattle.vet_units.specs.QuietUnits.{ran_unit, IsQuietAmong, SilenceIsYes}

-- why what is kept is not written: the file that the unit names for it can't be
abbrev pub IsKeepingFault : UnitEntry → Fault → Type 0
IsKeepingFault unit (CannotWriteFile text) = IsNameIn unit.output (string_bytes text)
IsKeepingFault unit OutOfMemory = ⊤
IsKeepingFault unit _ = ⊥

-- the file that the unit names for it was given the text of what is kept
pub record HoldsKept (unit : UnitEntry) (kept : Vetx) (file : WrittenFile) : Type 0 where
  pub is_file : name_of file ≡ unit.output
  pub is_text : IsWrittenText (vetx_of kept) (text_of file)

-- what is printed of a unit, and the status
abbrev pub said_of : UnitEntry → JudgedUnit → List ℕ
said_of unit judged = if unit.is_silent then [] else judged.text.items

-- nothing was found that is told
abbrev pub is_empty : List ℕ → Bool
is_empty [] = true
is_empty (b ∷ bs) = false

abbrev pub unit_status : UnitFlags → UnitEntry → JudgedUnit → Status
unit_status flags unit judged =
    if unit.is_silent then Fine else if flags.is_json then Fine else status_of (is_empty judged.text.items)

-- This holds of the unit, by these flags: of what was read for it, and how it was judged. Whenever it ran among others
-- in order, it is quiet if it is yes.
pub record ForUnit (flags : UnitFlags) (unit : UnitEntry) (holds : JudgedUnit → Type 0) : Type 0 where
  pub input : UnitInput
  pub is_input : IsInputOf flags unit input
  pub judged : JudgedUnit
  pub is_judged : IsJudgedSo flags unit input judged
  pub is_quiet : (time : ℕ) → IsQuietAmong (ran_unit flags unit input is_input judged is_judged time)
  pub silence_is_yes : (time : ℕ) → SilenceIsYes (ran_unit flags unit input is_input judged is_judged time)
  pub so : holds judged

-- the same of the unit in the file of this name
pub record OfUnit (flags : UnitFlags) (file : List ℕ) (holds : UnitEntry → JudgedUnit → Type 0) : Type 0 where
  pub read : UnitRead
  pub is_read : IsUnitRead file read
  pub so : ForUnit flags (unit_of read.unit) (holds (unit_of read.unit))

-- what is kept of the unit was written to this file, and its report, with this status
pub record IsDoneWith
    (flags : UnitFlags) (file : WrittenFile) (status : Status) (old new : Option (List ℕ)) (unit : UnitEntry)
    (judged : JudgedUnit)
    : Type 0 where
  pub is_kept : HoldsKept unit judged.kept file
  pub is_status : status ≡ unit_status flags unit judged
  pub is_printed : Appends old new (said_of unit judged)

abbrev pub IsDone : UnitFlags → Status → Option (List ℕ) → Option (List ℕ) → UnitEntry → JudgedUnit → Type 0
IsDone flags status old new unit judged = (file : WrittenFile) × IsDoneWith flags file status old new unit judged

abbrev pub IsPrintBegun : Option (List ℕ) → Option (List ℕ) → UnitEntry → JudgedUnit → Type 0
IsPrintBegun old new unit judged = AppendsFront old new (said_of unit judged)

-- Faults of a unit

-- why the package of this path has no report, as the program tells it
abbrev pub IsToldAs : List ℕ → UnitReportFault → Fault → Type 0
IsToldAs path (unit_fault.NotLoaded why) fault = fault ≡ fault_of_load why
IsToldAs path unit_fault.TooLarge fault =
    (fault ≡ OutOfMemory) ⊎ ((text : _) × (fault ≡ FunctionTooLarge text) × IsNameIn path (string_bytes text))
IsToldAs path unit_fault.OutOfMemory fault = fault ≡ OutOfMemory

-- the fault of the package of this unit, for which this was read
pub record HasNoReport (unit : UnitEntry) (input : UnitInput) (fault : Fault) : Type 0 where
  pub imports : List ImportedUnit
  pub are_imports : AreCounted (string_bytes input.module_path) input.told.items imports
  pub why : UnitReportFault
  pub is_why : IsUnitReportFault (packages_of input.outside) imports input.given why
  pub is_told : IsToldAs (without_suffix unit.path) why fault

abbrev pub IsJudgingFault : UnitEntry → UnitInput → Fault → Type 0
IsJudgingFault unit input OutOfMemory = ⊤
IsJudgingFault unit input fault = HasNoReport unit input fault

-- all was read for the unit, and it is the fault of its package
abbrev pub IsFaultOfPackage : UnitFlags → UnitEntry → Fault → Type 0
IsFaultOfPackage flags unit fault = (input : UnitInput) × IsInputOf flags unit input × IsJudgingFault unit input fault

-- the fault of the unit, once its file was read: of its inputs, of its package, of what is kept, or of what is printed
abbrev pub IsFaultFor : UnitFlags → UnitEntry → Fault → Type 0
IsFaultFor flags unit fault =
    IsInputFaultOf flags unit fault
    ⊎ IsFaultOfPackage flags unit fault
    ⊎ IsKeepingFault unit fault
    ⊎ (fault ≡ CannotWrite)

-- the unit was read, and it is its fault
pub record IsFaultOfRead (flags : UnitFlags) (file : List ℕ) (fault : Fault) : Type 0 where
  pub read : UnitRead
  pub is_read : IsUnitRead file read
  pub is_fault : IsFaultFor flags (unit_of read.unit) fault

-- the fault of the unit in the file of this name, by these flags
abbrev pub IsUnitRunFault : UnitFlags → List ℕ → Fault → Type 0
IsUnitRunFault flags file fault = IsUnitFileFault file fault ⊎ IsFaultOfRead flags file fault

-- Calls

-- a flag as the go command reads it: its name, whether it tells if something is so, and what it is for
abbrev pub flag_value : (name is_bool usage : List ℕ) → List ℕ
flag_value name is_bool usage =
    codes "{\"Name\":\"" ++ (name ++ (codes "\",\"Bool\":"
    ++ (is_bool ++ (codes ",\"Usage\":\"" ++ (usage ++ codes "\"}")))))

abbrev pub flag_list : List ℕ
flag_list =
    codes "[" ++ (flag_value (codes "edition") (codes "false") (codes "judge by this edition of the rules, 1 or 2")
    ++ (codes ",\n" ++ (flag_value (codes "facts") (codes "false")
    (codes "take this file of declared facts, by its absolute name")
    ++ (codes ",\n" ++ (flag_value (codes "json") (codes "true") (codes "print JSON")
    ++ (codes ",\n" ++ (flag_value (codes "c") (codes "false") (codes "show this many lines around each place")
    ++ (codes ",\n" ++ (flag_value (codes "tests") (codes "true") (codes "read test files too")
    ++ (codes ",\n" ++ (flag_value (codes "why") (codes "true") (codes "tell below each finding why it stands there")
    ++ (codes ",\n"
    ++ (flag_value (codes "accepted") (codes "true") (codes "tell accepted findings too, with their reasons")
    ++ (codes ",\n" ++ (flag_value (codes "baseline") (codes "false")
    (codes "accept the findings of this report in JSON, by its absolute name")
    ++ (codes ",\n" ++ (flag_value (codes "quiet") (codes "true")
    (codes "leave out the lines of packages without findings")
    ++ (codes ",\n" ++ (flag_value (codes "keeping") (codes "true")
    (codes "tell the fields in which a yes keeps cancel functions")
    ++ (codes ",\n" ++ (flag_value (codes "no-std-facts") (codes "true")
    (codes "take Go's own library as unknown")
    ++ codes "]\n")))))))))))))))))))))

-- which program this is, by its own file: the go command takes the whole line for it
abbrev pub version_line : ReadFile → List ℕ
version_line file = codes "ctxvet version 0.4.0 " ++ (digest_text (bytes_read file) ++ codes "\n")

-- the program's own file can't be read
abbrev pub IsOwnFileFault : Fault → Type 0
IsOwnFileFault (CannotRead name) = ⊤
IsOwnFileFault OutOfMemory = ⊤
IsOwnFileFault _ = ⊥

abbrev pub IsVersionFault : Fault → Type 0
IsVersionFault (CannotRead name) = ⊤
IsVersionFault CannotWrite = ⊤
IsVersionFault OutOfMemory = ⊤
IsVersionFault _ = ⊥

-- the flags of a call are kept so, and this holds of them
pub record OfFlags (flags : Flags) (holds : UnitFlags → Type 0) : Type 0 where
  pub kept : UnitFlags
  pub are_kept : flags_of kept ≡ flags
  pub so : holds kept

-- the fault of a call
abbrev pub IsCallFault : VetCall → Fault → Type 0
IsCallFault asks_flags fault = (fault ≡ CannotWrite) ⊎ (fault ≡ OutOfMemory)
IsCallFault asks_version fault = IsVersionFault fault
IsCallFault (asks_unit flags file) fault = OfFlags flags (λ kept. IsUnitRunFault kept file fault)
IsCallFault (has_wrong flag value file) fault = fault ≡ OutOfMemory

-- a beginning of what a call writes
abbrev pub IsBegunByCall : VetCall → Option (List ℕ) → Option (List ℕ) → Type 0
IsBegunByCall asks_flags old new = AppendsFront old new flag_list
IsBegunByCall asks_version old new = (file : ReadFile) × AppendsFront old new (version_line file)
IsBegunByCall (asks_unit flags file) old new = OfFlags flags (λ kept. OfUnit kept file (IsPrintBegun old new))
IsBegunByCall (has_wrong flag value file) old new = ⊥

-- The call ends with this fault. Only where standard output fails is anything written there; what is kept of a unit is
-- written before its report, so where it can't be, nothing is.
pub record FailsByCall (call : VetCall) (old new : Option (List ℕ)) (fault : Fault) : Type 0 where
  pub is_fault : IsCallFault call fault
  pub unwritten : is_of_writing fault ≡ false → new ≡ old
  pub begun : fault ≡ CannotWrite → IsBegunByCall call old new

-- A wrong value is a fault of the call. Of the units of one run of the go command one tells it and fails, and so does
-- that run; the others may end well.
abbrev pub IsToldOnce : (file : List ℕ) → Status → Type 0
IsToldOnce file Fine = is_some (run_folder file) ≡ true
IsToldOnce file Found = ⊥
IsToldOnce file Faulty = ⊤

-- memory was refused, which is no fault that all units have
abbrev pub is_of_memory : Fault → Bool
is_of_memory OutOfMemory = true
is_of_memory _ = false

-- The unit was read, and a file that the flags name has a fault, which all units of one run of the go command have. One
-- of them tells it and fails, and so does that run; this one ends well, and prints nothing.
pub record IsLeftToAnother
    (flags : UnitFlags) (file : List ℕ) (status : Status) (old new : Option (List ℕ))
    : Type 0 where
  pub read : UnitRead
  pub is_read : IsUnitRead file read
  pub fault : Fault
  pub is_fault : IsFlagFileFault flags fault
  pub is_of_all : is_of_memory fault ≡ false
  pub is_in_run : is_some (run_folder file) ≡ true
  pub is_status : status ≡ Fine
  pub is_unwritten : new ≡ old

-- a unit is judged and told; or a fault that all have is left to another one
abbrev pub DoesUnit : UnitFlags → List ℕ → Status → Option (List ℕ) → Option (List ℕ) → Type 0
DoesUnit flags file status old new =
    OfUnit flags file (IsDone flags status old new) ⊎ IsLeftToAnother flags file status old new

-- the call ends with this status, and no fault
abbrev pub DoesCall : VetCall → Status → Option (List ℕ) → Option (List ℕ) → Type 0
DoesCall asks_flags status old new = (status ≡ Fine) × Appends old new flag_list
DoesCall asks_version status old new = (status ≡ Fine) × ((file : ReadFile) × Appends old new (version_line file))
DoesCall (asks_unit flags file) status old new = OfFlags flags (λ kept. DoesUnit kept file status old new)
DoesCall (has_wrong flag value file) status old new = IsToldOnce file status × (new ≡ old)
