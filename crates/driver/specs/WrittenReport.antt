-- What a run of the program has written on standard output when it ends, by its status: the whole text of the report
-- for which its words ask, and nothing besides; or, where a word asks for help, what the library of the command line
-- writes; or what a call of the go command asks for. Certificates stand in the files that the words name. After a fault
-- that is nothing, or, where the fault is that of writing, a beginning of that text and nothing besides. The file for
-- certificates is written after the report, so where it can't be, all of the report is written.
use Rattle.std.specs.Prelude.{◌≡◌, ◌⊎◌, ℕ, Bool, true, false, List, Option, Some, None}
use Rattle.std.specs.Io.KnownBytes.{Appends}
use Rattle.accepting.specs.declared.telling.Telling.{Telling}
use Rattle.certificate_json.specs.declared.certificates.Certificates.{Certificates}
use Rattle.load.specs.declared.packages.GivenPackage.{GivenPackage}
use Rattle.declared_json.specs.DeclaredPackages.{packages_of}
use Rattle.declared_json.specs.declared.outside.DeclaredPackages.{DeclaredPackages}
use Rattle.command_line.specs.VetWords.{vet_call, VetCall}
use Rattle.command_line.specs.Words.{AsksForCertificates, AsksForCheck, AsksForExplanation, AsksForHelp, AsksForVerification}
use Rattle.command_line.specs.declared.words.CertifyWords.{CertifyWords}
use Rattle.command_line.specs.declared.words.CheckWords.{CheckWords}
use Rattle.command_line.specs.declared.words.ReportWords.{ReportWords}
use Rattle.command_line.specs.declared.words.Sources.{Sources}
use Rattle.command_line.specs.declared.words.VerifyWords.{VerifyWords}
use Rattle.folders.specs.declared.fault.Fault.{Fault}
use Rattle.folders.specs.declared.fault.Fault.TheVariants.{CannotWrite, CannotWriteFile}
use Rattle.folders.specs.declared.whole_files.Reach.TheVariants.{Disk}
use Rattle.folders.specs.declared.whole_files.WrittenFile.{WrittenFile}
use Rattle.folders.specs.WrittenFiles.{name_of, reach_of, text_of}
use Rattle.judge.specs.Certified.{IsCertifiedReport}
use Rattle.judge.specs.Explained.{IsExplainedReport}
use Rattle.judge.specs.declared.explained.ExplainedReport.{ExplainedReport}
use Rattle.judge.specs.Verified.{IsVerifiedReport}
use Rattle.judge.specs.Reports.{IsReport, Report}
use Rattle.inputs.specs.Certificates.{StandIn}
use Rattle.inputs.specs.Packages.{AreReadFor}
use Rattle.inputs.specs.declared.input.FilesRead.{FilesRead}
use Rattle.driver.specs.Faults.{IsRunFault, LeavesUnwritten}
use Rattle.printed.specs.Printing.{AppendsFront}
use Rattle.inputs.specs.Tellings.{IsToldSo}
use Rattle.vet_units.specs.UnitRuns.{DoesCall, FailsByCall}
use Rattle.printed.specs.declared.status.Status.{Status}
use Rattle.printed.specs.declared.status.Status.TheVariants.{Fine, Found, Faulty}

-- This report was written to a writer that held `old` and holds `new`. The verdict tells whether each package is told
-- as yes or as accepted.
abbrev pub IsWritten : Option (List ℕ) → Option (List ℕ) → Bool → Report → Type 0
IsWritten old new verdict report = (report.passes ≡ verdict) × Appends old new report.text.items

-- a beginning of this report was written, and nothing besides
abbrev pub IsBegun : Option (List ℕ) → Option (List ℕ) → Report → Type 0
IsBegun old new report = AppendsFront old new report.text.items

-- what is printed of a report with notes: the text that has these, in place of the report's own
abbrev pub printed : ExplainedReport → Report
printed told = record told.report { text = told.text }

module _ (sources : Sources) (words : ReportWords) (files : FilesRead) where
  -- this holds of the report, told so, on the packages of these sources, where these files were read for it
  pub record OfReport (holds : Report → Type 0) : Type 0 where
    pub given : List GivenPackage
    pub outside : DeclaredPackages
    pub are_read : AreReadFor sources files outside given
    pub report : Report
    pub telling : Telling
    pub is_telling : IsToldSo sources words files true telling
    pub is_report : IsReport telling (packages_of outside) given report
    pub so : holds report

  -- the same where its text is printed with the notes of each finding
  pub record OfExplainedReport (holds : Report → Type 0) : Type 0 where
    pub given : List GivenPackage
    pub outside : DeclaredPackages
    pub are_read : AreReadFor sources files outside given
    pub told : ExplainedReport
    pub telling : Telling
    pub is_telling : IsToldSo sources words files true telling
    pub is_report : IsExplainedReport telling (packages_of outside) given told
    pub so : holds (printed told)

  -- the same where this is the text of their certificates
  pub record OfCertifiedReport (text : List ℕ) (holds : Report → Type 0) : Type 0 where
    pub given : List GivenPackage
    pub outside : DeclaredPackages
    pub are_read : AreReadFor sources files outside given
    pub report : Report
    pub telling : Telling
    pub is_telling : IsToldSo sources words files true telling
    pub is_report : IsCertifiedReport telling (packages_of outside) given report text
    pub so : holds report

  -- the same of their report by certificates that stand in the file of this name
  pub record OfVerifiedReport (file : List ℕ) (holds : Report → Type 0) : Type 0 where
    pub given : List GivenPackage
    pub outside : DeclaredPackages
    pub are_read : AreReadFor sources files outside given
    pub certificates : Certificates
    pub stand_in : StandIn file certificates
    pub report : Report
    pub telling : Telling
    pub is_telling : IsToldSo sources words files false telling
    pub is_report : IsVerifiedReport telling (packages_of outside) given certificates report
    pub so : holds report

-- the words ask to check packages, and this holds of their report
pub record OfCheck (words : List (List ℕ)) (holds : Report → Type 0) : Type 0 where
  pub asked : CheckWords
  pub asks : AsksForCheck words asked
  pub files : FilesRead
  pub report : OfReport asked.sources asked.report files holds

-- the words ask to check packages and to tell why, and this holds of what is printed
pub record OfExplain (words : List (List ℕ)) (holds : Report → Type 0) : Type 0 where
  pub asked : CheckWords
  pub asks : AsksForExplanation words asked
  pub files : FilesRead
  pub report : OfExplainedReport asked.sources asked.report files holds

-- the words ask to check packages and to write certificates, and this holds of the report
pub record OfCertify (words : List (List ℕ)) (holds : Report → Type 0) : Type 0 where
  pub asked : CertifyWords
  pub asks : AsksForCertificates words asked
  pub files : FilesRead
  pub text : List ℕ
  pub report : OfCertifiedReport asked.sources asked.report files text holds

-- the same where the certificates were written to the file that the words name, and brought to the disk
pub record OfCertified (words : List (List ℕ)) (holds : Report → Type 0) : Type 0 where
  pub asked : CertifyWords
  pub asks : AsksForCertificates words asked
  pub files : FilesRead
  pub file : WrittenFile
  pub is_file : name_of file ≡ asked.file.now
  pub is_on_disk : reach_of file ≡ Disk
  pub report : OfCertifiedReport asked.sources asked.report files (text_of file) holds

-- the words ask to judge packages by certificates, and this holds of the report
pub record OfVerify (words : List (List ℕ)) (holds : Report → Type 0) : Type 0 where
  pub asked : VerifyWords
  pub asks : AsksForVerification words asked
  pub files : FilesRead
  pub report : OfVerifiedReport asked.sources asked.report files asked.file.now holds

-- this holds of the report for which the words ask
abbrev pub OfAsked : List (List ℕ) → (Report → Type 0) → Type 0
OfAsked words holds = OfCheck words holds ⊎ OfExplain words holds ⊎ OfCertify words holds ⊎ OfVerify words holds

-- this holds of the report for which the words ask, and where they ask for certificates too, these were written
abbrev pub OfDone : List (List ℕ) → (Report → Type 0) → Type 0
OfDone words holds = OfCheck words holds ⊎ OfExplain words holds ⊎ OfCertified words holds ⊎ OfVerify words holds

-- what a run with these words has written where its fault is that of writing, and where it is that of the file
abbrev pub LeavesBegun : List (List ℕ) → Fault → Option (List ℕ) → Option (List ℕ) → Type 0
LeavesBegun words fault old new = fault ≡ CannotWrite → AsksForHelp words ⊎ OfAsked words (IsBegun old new)

abbrev pub LeavesWhole : List (List ℕ) → Fault → Option (List ℕ) → Option (List ℕ) → Type 0
LeavesWhole words fault old new = (name : _)
    → fault ≡ CannotWriteFile name
    → (verdict : Bool) × OfCertify words (IsWritten old new verdict)

-- a run with these words, which are no call of the go command, ends with this fault
pub record Fails (words : List (List ℕ)) (old new : Option (List ℕ)) (fault : Fault) : Type 0 where
  pub is_fault : IsRunFault words fault
  pub unwritten : LeavesUnwritten fault old new
  pub begun : LeavesBegun words fault old new
  pub whole : LeavesWhole words fault old new

-- What it has written where it ends with this status, and no fault. Which words are wrong the library of the command
-- line says.
abbrev pub Does : List (List ℕ) → Status → Option (List ℕ) → Option (List ℕ) → Type 0
Does words Fine old new = AsksForHelp words ⊎ OfDone words (IsWritten old new true)
Does words Found old new = OfDone words (IsWritten old new false)
Does words Faulty old new = new ≡ old

-- the same for any words: those with which the go command calls its vet tool are no others
abbrev pub FailsBy : Option VetCall → List (List ℕ) → Option (List ℕ) → Option (List ℕ) → Fault → Type 0
FailsBy None words old new fault = Fails words old new fault
FailsBy (Some call) words old new fault = FailsByCall call old new fault

abbrev pub DoesBy : Option VetCall → List (List ℕ) → Status → Option (List ℕ) → Option (List ℕ) → Type 0
DoesBy None words status old new = Does words status old new
DoesBy (Some call) words status old new = DoesCall call status old new

-- a fault of these words ended the run
pub record EndsInFault (words : List (List ℕ)) (status : Status) (old new : Option (List ℕ)) : Type 0 where
  pub is_status : status ≡ Faulty
  pub fault : Fault
  pub fails : FailsBy (vet_call words) words old new fault

-- what a run with these words has written where it ends with this status
abbrev pub EndsWith : List (List ℕ) → Status → Option (List ℕ) → Option (List ℕ) → Type 0
EndsWith words status old new = DoesBy (vet_call words) words status old new ⊎ EndsInFault words status old new
