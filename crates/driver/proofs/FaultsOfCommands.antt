-- Faults of what is read and judged are faults of the command that asks for it.
use Rattle.std.proofs.Common.{◌≡◌, ℕ, Bool, true, false, ◌||◌, true≢false, List, Result, IsErrAnd, refl, subst, sym}
use Rattle.std.proofs.lemmas.Result.{err_from_is_err_and}
use Rattle.command_line.specs.declared.words.Sources.{Sources}
use Rattle.load.specs.declared.packages.GivenPackage.{GivenPackage}
use Rattle.certificate_json.specs.declared.certificates.Certificates.{Certificates}
use Rattle.declared_json.specs.DeclaredPackages.{packages_of}
use Rattle.declared_json.specs.declared.outside.DeclaredPackages.{DeclaredPackages}
use Rattle.folders.specs.declared.fault.Fault.{Fault}
use Rattle.folders.specs.declared.fault.Fault.TheVariants.{CannotWrite, CannotWriteFile, CertificateTooOld, FactsNameGiven, TwoPackages, TooManyPackages, OutOfMemory}
use Rattle.inputs.specs.declared.input.FilesRead.{FilesRead}
use Rattle.inputs.specs.Certificates.{StandIn}
use Rattle.inputs.specs.Packages.{AreReadFor}
use Rattle.inputs.specs.ReadingFaults.{is_of_output, IsReadingFault}
use Rattle.printed.specs.Printing.{is_of_writing, refused_by}
use Rattle.driver.specs.Faults.{IsCertifyFault, IsCheckFault, IsVerdictFault, IsVerificationFault, IsVerifiedFault}

-- what is no output is no writing
pub no_output_is_written : (fault : Fault) → is_of_output fault ≡ false → is_of_writing fault ≡ false
no_output_is_written CannotWrite is = absurd (true≢false is)
no_output_is_written _ is = refl

as_before : (before : Bool) → before ≡ before || false
as_before true = refl
as_before false = refl

-- so where it ends a call, no write was refused
pub none_refused : {T : Type 0} (before : Bool) (r : Result T Fault) (fault : Fault) → IsErrAnd r (λ told. told ≡ fault)
    → is_of_output fault ≡ false
    → before ≡ refused_by before r
none_refused before r fault h is =
    let told = err_from_is_err_and r h in
    subst (λ x. before ≡ refused_by before x) (sym told.1)
    (subst (λ x. before ≡ before || x) (sym (no_output_is_written told.0 (subst (λ x. is_of_output x ≡ false) (sym told.2) is)))
    (as_before before))

-- a fault of a check is one of a check that writes certificates
pub of_check : (sources : Sources) (file : List ℕ) (workers : ℕ) (fault : Fault) → IsCheckFault sources workers fault
    → IsCertifyFault sources file workers fault
of_check sources file workers (CannotWriteFile name) is = absurd is.1
of_check sources file workers _ is = is

module _ (sources : Sources) (file : List ℕ) where
  pub of_read_input : (fault : Fault) → IsReadingFault sources file fault → IsVerificationFault sources file fault
  of_read_input CannotWrite is = absurd is.1
  of_read_input (CertificateTooOld path) is = absurd is.1
  of_read_input (FactsNameGiven path) is = absurd is.1
  of_read_input (TwoPackages path) is = absurd is.1
  of_read_input TooManyPackages is = absurd is.1
  of_read_input _ is = is

module _ (sources : Sources) (given : List GivenPackage) (files : FilesRead) (outside : DeclaredPackages)
    (certificates : Certificates) (are : AreReadFor sources files outside given) (file : List ℕ)
    (stand : StandIn file certificates) where
  of_verified : (fault : Fault) → IsVerdictFault (packages_of outside) given certificates fault
      → IsVerifiedFault sources file fault
  of_verified fault is = record {
    given = given;
    files = files;
    outside = outside;
    are_read = are;
    certificates = certificates;
    stand_in = stand;
    is_fault = is;
  }

  pub of_verdict : (fault : Fault) → IsVerdictFault (packages_of outside) given certificates fault
      → IsVerificationFault sources file fault
  of_verdict (FactsNameGiven path) is = of_verified (FactsNameGiven path) is
  of_verdict (TwoPackages path) is = of_verified (TwoPackages path) is
  of_verdict TooManyPackages is = of_verified TooManyPackages is
  of_verdict (CertificateTooOld path) is = of_verified (CertificateTooOld path) is
  of_verdict OutOfMemory is = tt
  of_verdict _ is = absurd is
