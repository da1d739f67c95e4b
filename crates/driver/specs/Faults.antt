-- With which faults a run ends, by its words.
use Rattle.std.specs.Prelude.{◌≡◌, ◌⊎◌, ⊤, ℕ, false, List, Option, string_bytes}
use Rattle.load.specs.declared.packages.GivenPackage.{GivenPackage}
use Rattle.load.specs.declared.packages.LoadFault.TheVariants as load_fault
use Rattle.load.specs.LoadedBeside.{IsLoadFaultBeside}
use Rattle.declared_json.specs.DeclaredPackages.{PackageEntry, packages_of}
use Rattle.declared_json.specs.declared.outside.DeclaredPackages.{DeclaredPackages}
use Rattle.certificate_json.specs.declared.certificates.Certificates.{Certificates}
use Rattle.judge.specs.CheckFaults.{NeedThreads}
use Rattle.judge.specs.Verified.{IsVerifyFault}
use Rattle.judge.specs.declared.check_fault.CheckFault.{CheckFault}
use Rattle.judge.specs.declared.check_fault.CheckFault.TheVariants as check_fault
use Rattle.judge.specs.declared.verified.VerifyFault.{VerifyFault}
use Rattle.judge.specs.declared.verified.VerifyFault.TheVariants as verify_fault
use Rattle.folders.specs.Names.{IsNameIn}
use Rattle.folders.specs.declared.fault.Fault.{Fault}
use Rattle.folders.specs.declared.fault.Fault.TheVariants.{CannotWrite, CannotWriteFile, CertificateTooOld, FactsNameGiven, TwoPackages, TooManyPackages, NoThread, OutOfMemory}
use Rattle.command_line.specs.Words.{AsksForCertificates, AsksForCheck, AsksForExplanation, AsksForHelp, AsksForVerification}
use Rattle.command_line.specs.declared.words.CertifyWords.{CertifyWords}
use Rattle.command_line.specs.declared.words.CheckWords.{CheckWords}
use Rattle.command_line.specs.declared.words.Sources.{Sources}
use Rattle.command_line.specs.declared.words.VerifyWords.{VerifyWords}
use Rattle.workers.specs.Counts.{count_of}
use Rattle.inputs.specs.Certificates.{StandIn}
use Rattle.inputs.specs.LoadFaults.{fault_of_load}
use Rattle.inputs.specs.Packages.{AreReadFor}
use Rattle.inputs.specs.ReadingFaults.{is_of_output, IsReadingFault, IsSourcesFault, NamePackages}
use Rattle.inputs.specs.declared.input.FilesRead.{FilesRead}

-- the fault of packages that should be judged, where this is declared of others
abbrev pub IsReportFault : List PackageEntry → List GivenPackage → Fault → Type 0
IsReportFault outside given (FactsNameGiven path) = IsLoadFaultBeside given outside (load_fault.NamesGiven path)
IsReportFault outside given (TwoPackages path) = IsLoadFaultBeside given outside (load_fault.TwoPackages path)
IsReportFault outside given TooManyPackages = IsLoadFaultBeside given outside load_fault.TooMany
IsReportFault outside given OutOfMemory = ⊤
IsReportFault outside given _ = ⊥

-- the same where so many workers judge them: once they are loaded, a thread that is needed may not be started
abbrev pub IsSharedReportFault : List PackageEntry → List GivenPackage → ℕ → Fault → Type 0
IsSharedReportFault outside given workers NoThread = NeedThreads outside given workers
IsSharedReportFault outside given workers fault = IsReportFault outside given fault

-- what the words name is read, and it is the fault of the packages, which so many workers should judge
pub record IsGivenFault (sources : Sources) (workers : ℕ) (fault : Fault) : Type 0 where
  pub given : List GivenPackage
  pub files : FilesRead
  pub outside : DeclaredPackages
  pub are_read : AreReadFor sources files outside given
  pub is_fault : IsSharedReportFault (packages_of outside) given workers fault

-- the fault of a check of these sources by so many workers: of what is read, of the packages, or of writing
abbrev pub IsCheckFault : Sources → ℕ → Fault → Type 0
IsCheckFault sources workers CannotWrite = NamePackages sources
IsCheckFault sources workers (FactsNameGiven path) = IsGivenFault sources workers (FactsNameGiven path)
IsCheckFault sources workers (TwoPackages path) = IsGivenFault sources workers (TwoPackages path)
IsCheckFault sources workers TooManyPackages = IsGivenFault sources workers TooManyPackages
IsCheckFault sources workers NoThread = IsGivenFault sources workers NoThread
IsCheckFault sources workers fault = IsSourcesFault sources fault

-- the fault of a check that writes certificates to the file of this name: one of a check, or that this file can't be
-- written
abbrev pub IsCertifyFault : Sources → (file : List ℕ) → ℕ → Fault → Type 0
IsCertifyFault sources file workers (CannotWriteFile text) =
    NamePackages sources × IsNameIn file (string_bytes text)
IsCertifyFault sources file workers fault = IsCheckFault sources workers fault

-- the fault of packages that should be judged by certificates, where this is declared of others
abbrev pub IsVerdictFault : List PackageEntry → List GivenPackage → Certificates → Fault → Type 0
IsVerdictFault outside given certificates (FactsNameGiven path) =
    IsVerifyFault outside given certificates (verify_fault.NotLoaded (load_fault.NamesGiven path))
IsVerdictFault outside given certificates (TwoPackages path) =
    IsVerifyFault outside given certificates (verify_fault.NotLoaded (load_fault.TwoPackages path))
IsVerdictFault outside given certificates TooManyPackages =
    IsVerifyFault outside given certificates (verify_fault.NotLoaded load_fault.TooMany)
IsVerdictFault outside given certificates (CertificateTooOld path) =
    IsVerifyFault outside given certificates (verify_fault.TooOld path)
IsVerdictFault outside given certificates OutOfMemory = ⊤
IsVerdictFault outside given certificates _ = ⊥

-- what the words name is read, certificates too, and it is the fault of these
pub record IsVerifiedFault (sources : Sources) (file : List ℕ) (fault : Fault) : Type 0 where
  pub given : List GivenPackage
  pub files : FilesRead
  pub outside : DeclaredPackages
  pub are_read : AreReadFor sources files outside given
  pub certificates : Certificates
  pub stand_in : StandIn file certificates
  pub is_fault : IsVerdictFault (packages_of outside) given certificates fault

-- the fault of a verification of these sources by the certificates in this file
abbrev pub IsVerificationFault : Sources → (file : List ℕ) → Fault → Type 0
IsVerificationFault sources file CannotWrite = NamePackages sources
IsVerificationFault sources file (CertificateTooOld path) = IsVerifiedFault sources file (CertificateTooOld path)
IsVerificationFault sources file (FactsNameGiven path) = IsVerifiedFault sources file (FactsNameGiven path)
IsVerificationFault sources file (TwoPackages path) = IsVerifiedFault sources file (TwoPackages path)
IsVerificationFault sources file TooManyPackages = IsVerifiedFault sources file TooManyPackages
IsVerificationFault sources file fault = IsReadingFault sources file fault

-- the words ask to check packages, be it to tell why, and it is the fault of this
pub record IsFaultOfCheck (words : List (List ℕ)) (fault : Fault) : Type 0 where
  pub asked : CheckWords
  pub asks : AsksForCheck words asked ⊎ AsksForExplanation words asked
  pub is_fault : IsCheckFault asked.sources (count_of asked.workers) fault

-- the words ask to check packages and to write certificates, and it is the fault of this
pub record IsFaultOfCertify (words : List (List ℕ)) (fault : Fault) : Type 0 where
  pub asked : CertifyWords
  pub asks : AsksForCertificates words asked
  pub is_fault : IsCertifyFault asked.sources asked.file.now (count_of asked.workers) fault

-- the words ask to judge packages by certificates, and it is the fault of this
pub record IsFaultOfVerify (words : List (List ℕ)) (fault : Fault) : Type 0 where
  pub asked : VerifyWords
  pub asks : AsksForVerification words asked
  pub is_fault : IsVerificationFault asked.sources asked.file.now fault

-- the fault of a run with these words: memory was refused, help could not be written, or it is that of their command
abbrev pub IsRunFault : List (List ℕ) → Fault → Type 0
IsRunFault words fault = (fault ≡ OutOfMemory) ⊎ ((fault ≡ CannotWrite) × AsksForHelp words)
    ⊎ IsFaultOfCheck words fault ⊎ IsFaultOfCertify words fault ⊎ IsFaultOfVerify words fault

-- another fault leaves nothing written
abbrev pub LeavesUnwritten : Fault → Option (List ℕ) → Option (List ℕ) → Type 0
LeavesUnwritten fault old new = is_of_output fault ≡ false → new ≡ old

-- What serves the proofs

-- why packages are not judged by several threads, and not judged by certificates, as the program tells it
abbrev pub fault_of_check : CheckFault → Fault
fault_of_check (check_fault.NotLoaded fault) = fault_of_load fault
fault_of_check check_fault.NoThread = NoThread

abbrev pub fault_of_verify : VerifyFault → Fault
fault_of_verify (verify_fault.NotLoaded fault) = fault_of_load fault
fault_of_verify (verify_fault.TooOld path) = CertificateTooOld path
