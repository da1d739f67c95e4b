-- Why packages are not loaded, as the program tells it.
use Rattle.folders.specs.declared.fault.Fault.{Fault}
use Rattle.folders.specs.declared.fault.Fault.TheVariants.{FactsNameGiven, OutOfMemory, TooManyPackages, TwoPackages}
use Rattle.load.specs.declared.packages.LoadFault.{LoadFault}
use Rattle.load.specs.declared.packages.LoadFault.TheVariants as load_fault

abbrev pub fault_of_load : LoadFault → Fault
fault_of_load load_fault.TooMany = TooManyPackages
fault_of_load (load_fault.TwoPackages path) = TwoPackages path
fault_of_load (load_fault.NamesGiven path) = FactsNameGiven path
fault_of_load load_fault.OutOfMemory = OutOfMemory
