-- Faults of what is read and judged.
use Rattle.std.proofs.Common.{ℕ, List}
use Rattle.command_line.specs.declared.words.Sources.{Sources}
use Rattle.load.specs.declared.packages.GivenPackage.{GivenPackage}
use Rattle.declared_json.specs.DeclaredPackages.{packages_of}
use Rattle.declared_json.specs.declared.outside.DeclaredPackages.{DeclaredPackages}
use Rattle.folders.specs.declared.fault.Fault.{Fault}
use Rattle.folders.specs.declared.fault.Fault.TheVariants.{CannotWrite, FactsNameGiven, TwoPackages, TooManyPackages, NoThread, OutOfMemory}
use Rattle.inputs.specs.Packages.{AreReadFor}
use Rattle.inputs.specs.ReadingFaults.{IsSourcesFault}
use Rattle.inputs.specs.declared.input.FilesRead.{FilesRead}
use Rattle.driver.specs.Faults.{IsCheckFault, IsGivenFault, IsSharedReportFault}

-- the fault of what is read for a check is one of the check
pub of_read_sources : (sources : Sources) (workers : ℕ) (fault : Fault) → IsSourcesFault sources fault
    → IsCheckFault sources workers fault
of_read_sources sources workers CannotWrite is = absurd is.1
of_read_sources sources workers (FactsNameGiven path) is = absurd is.1
of_read_sources sources workers (TwoPackages path) is = absurd is.1
of_read_sources sources workers TooManyPackages is = absurd is.1
of_read_sources sources workers NoThread is = absurd is.1
of_read_sources sources workers _ is = is

module _ (sources : Sources) (workers : ℕ) (given : List GivenPackage) (files : FilesRead) (outside : DeclaredPackages)
    (are : AreReadFor sources files outside given) where
  of_given : (fault : Fault) → IsSharedReportFault (packages_of outside) given workers fault
      → IsGivenFault sources workers fault
  of_given fault is = record { given = given; files = files; outside = outside; are_read = are; is_fault = is }

  pub of_report : (fault : Fault) → IsSharedReportFault (packages_of outside) given workers fault
      → IsCheckFault sources workers fault
  of_report (FactsNameGiven path) is = of_given (FactsNameGiven path) is
  of_report (TwoPackages path) is = of_given (TwoPackages path) is
  of_report TooManyPackages is = of_given TooManyPackages is
  of_report NoThread is = of_given NoThread is
  of_report OutOfMemory is = tt
  of_report _ is = absurd is
