-- What serves the proofs: which masks are small, what is written, and faults.
use Rattle.std.specs.Prelude.{ℕ, ◌≡◌, ◌^◌, List, Option, Some, None, if◌then◌else◌, nat_lt}
use Rattle.std.specs.List.{AllByRecursion, AllZip}
use Rattle.serde_json.specs.Data.{Data}
use Rattle.json_reading.specs.declared.stop.Stop.{Stop}
use Rattle.json_reading.specs.declared.stop.Stop.TheVariants as stop
use Rattle.table_json.specs.declared.fault.TableFault.{TableFault}
use Rattle.table_json.specs.declared.fault.TableFault.TheVariants as table
use Rattle.table_json.specs.Parts.{HasFits as HasFunctionFits}
use Rattle.table_json.specs.TableValues.{Fits}
use Rattle.certificate_json.specs.declared.fault.CertificateFault.{CertificateFault}
use Rattle.certificate_json.specs.declared.fault.CertificateFault.TheVariants.{NotJson, WrongVersion, WrongShape, OutOfMemory}
use Rattle.certificate_json.specs.Certificates.{BodyEntry, PackageEntry}
use Rattle.certificate_json.specs.CertificateValues.{certificates_value, package_value, IsSmall}
use Rattle.certificate_json.specs.WrittenCertificates.{IsWrittenAs}

abbrev pub if_small : ℕ → Option ℕ
if_small n = if nat_lt n (2 ^ 16) then Some n else None

-- What is written

abbrev pub AllSmall : List ℕ → Type 0
AllSmall masks = AllByRecursion IsSmall masks

-- the numbers of a body fit, as do all that are kept in memory
pub record HasBodyFits (b : BodyEntry) : Type 0 where
  pub at_fits : Fits b.at
  pub file_fits : Fits b.file
  pub masks_small : AllByRecursion AllSmall b.states

pub record HasPackageFits (p : PackageEntry) : Type 0 where
  pub bodies_fit : AllByRecursion HasBodyFits p.bodies
  pub facts_fit : AllByRecursion HasFunctionFits p.facts

-- this is the value of what is written of the package
pub record IsPackageText (p : PackageEntry) (value : Data) : Type 0 where
  pub written : PackageEntry
  pub is_written : IsWrittenAs p written
  pub is_value : value ≡ package_value written
  pub fits : HasPackageFits written

-- this is the value of what is written of the packages
pub record IsWholeText (packages : List PackageEntry) (value : Data) : Type 0 where
  pub written : List PackageEntry
  pub are_written : AllZip IsWrittenAs packages written
  pub is_value : value ≡ certificates_value written
  pub fit : AllByRecursion HasPackageFits written

-- Faults

-- the same fault, of certificates
abbrev pub fault_of : TableFault → CertificateFault
fault_of table.NotJson = NotJson
fault_of table.WrongVersion = WrongVersion
fault_of table.WrongShape = WrongShape
fault_of table.OutOfMemory = OutOfMemory

abbrev pub fault_of_stop : Stop → CertificateFault
fault_of_stop stop.NotJson = NotJson
fault_of_stop stop.OutOfMemory = OutOfMemory
