-- That a text has one answer.
use Rattle.std.specs.Prelude.{ℕ, ◌≡◌, ◌≢◌, List, [], None}
use Rattle.package_list.specs.declared.fault.ListFault.{ListFault}
use Rattle.package_list.specs.declared.fault.ListFault.TheVariants.{OutOfMemory}
use Rattle.package_list.specs.ListedValues.{PackageEntry}
use Rattle.package_list.specs.ListTexts.{first_incomplete, AreListedIn, IsListFault}

-- a text lists packages in one way at most; and one that lists some, all complete, has no fault, but that memory is
-- refused
pub record OneAnswer : Type 0 where
  pub one_list : (text : List ℕ) (entries others : List PackageEntry) → AreListedIn text entries
      → AreListedIn text others
      → others ≡ entries
  pub no_fault : (text : List ℕ) (entries : List PackageEntry) (fault : ListFault) → AreListedIn text entries
      → entries ≢ []
      → first_incomplete entries ≡ None
      → IsListFault text fault
      → fault ≡ OutOfMemory
