-- The certificates that are read from a file, and why none are. Which bytes a file has, no contract can say.
use Rattle.std.specs.Prelude.{◌≡◌, ◌⊎◌, ⊤, ℕ, List, string_bytes}
use Rattle.std.specs.Str.{IsUtf8}
use Rattle.certificate_json.specs.CertificateTexts.{AreCertificatesOf, IsCertificateFault}
use Rattle.certificate_json.specs.Certificates.{packages_of}
use Rattle.certificate_json.specs.declared.certificates.Certificates.{Certificates}
use Rattle.certificate_json.specs.declared.fault.CertificateFault.{CertificateFault}
use Rattle.certificate_json.specs.declared.fault.CertificateFault.TheVariants as certificate_fault
use Rattle.folders.specs.Names.{IsNameIn}
use Rattle.folders.specs.ReadFaults.{IsFaultIn}
use Rattle.folders.specs.ReadFiles.{bytes_read, name_read}
use Rattle.folders.specs.declared.whole_files.ReadFile.{ReadFile}
use Rattle.folders.specs.declared.fault.Fault.{Fault}
use Rattle.folders.specs.declared.fault.Fault.TheVariants.{CannotRead, CertificateNotJson, CertificateWrongShape, CertificateWrongVersion, OutOfMemory}

-- these bytes are the text of the certificates, in their version
abbrev pub AreTextOf : List ℕ → Certificates → Type 0
AreTextOf bytes certificates = AreCertificatesOf bytes certificates.version (packages_of certificates)

-- the file of this name was read, and its bytes are their text
pub record StandIn (name : List ℕ) (certificates : Certificates) : Type 0 where
  pub file : ReadFile
  pub is_named : name_read file ≡ name
  pub are_text : AreTextOf (bytes_read file) certificates

-- why these bytes are the text of none; what is not UTF-8 is no JSON
abbrev pub IsBytesFault : List ℕ → Fault → Type 0
IsBytesFault bytes CertificateNotJson =
    (IsUtf8 bytes → ⊥) ⊎ IsCertificateFault bytes certificate_fault.NotJson
IsBytesFault bytes CertificateWrongShape = IsCertificateFault bytes certificate_fault.WrongShape
IsBytesFault bytes CertificateWrongVersion = IsCertificateFault bytes certificate_fault.WrongVersion
IsBytesFault bytes OutOfMemory = ⊤
IsBytesFault bytes _ = ⊥

-- the fault of what is read of the file of this name for certificates
abbrev pub IsInputFault : List ℕ → Fault → Type 0
IsInputFault name (CannotRead text) = IsNameIn name (string_bytes text)
IsInputFault name OutOfMemory = ⊤
IsInputFault name fault = IsFaultIn name IsBytesFault fault

-- What serves the proofs

-- why a text is none of certificates, as the program tells it
abbrev pub fault_of_certificates : CertificateFault → Fault
fault_of_certificates certificate_fault.NotJson = CertificateNotJson
fault_of_certificates certificate_fault.WrongShape = CertificateWrongShape
fault_of_certificates certificate_fault.WrongVersion = CertificateWrongVersion
fault_of_certificates certificate_fault.OutOfMemory = OutOfMemory
