-- Why a package that is judged by itself has no report: a fault that is handed on.
use Rattle.std.proofs.Common.{◌≡◌, IfErr, IsErrAnd, List, Result, sym, subst}
use Rattle.std.proofs.lemmas.Result.{err_from_is_err_and}
use Rattle.declared_json.specs.DeclaredPackages.{PackageEntry}
use Rattle.unit_reports.specs.Units.{IsJudgedByTold, IsUnitFault}
use Rattle.unit_reports.specs.declared.units.ImportedUnit.{ImportedUnit}
use Rattle.one_package.specs.Judgments.{table_view}
use Rattle.one_package.specs.declared.judged.Judged.{Judged}
use Rattle.vetx_tables.specs.KeptLaws.{IsKeptFault}
use Rattle.vetx_tables.specs.declared.fault.KeptFault.{KeptFault}
use Rattle.vetx_tables.specs.declared.fault.KeptFault.TheVariants.{TooLarge, OutOfMemory}
use Rattle.whole_packages.specs.declared.loaded_package.LoadedPackage.{LoadedPackage as KeptPackage}

-- a fault that `?` hands on as it is
pub handed_on : {T E : Type 0} (r : Result T E) (fault : E) (P : E → Type 0) → IsErrAnd r (λ told. told ≡ fault)
    → P fault
    → IfErr r P
handed_on r fault P h holds =
    let told = err_from_is_err_and r h in subst (λ x. IfErr x P) (sym told.1) (subst P (sym told.2) holds)

-- nothing is kept of the table by which it was judged
pub is_unit_fault : (outside : List PackageEntry) (told : List ImportedUnit) (kept : KeptPackage) (judged : Judged)
    → IsJudgedByTold outside told kept judged
    → (fault : KeptFault)
    → IsKeptFault (table_view judged) fault
    → IsUnitFault outside told kept fault
is_unit_fault outside told kept judged is TooLarge h =
    record { judged = judged; is_judged = is; name = h.0; is_large = h.1 }
is_unit_fault outside told kept judged is OutOfMemory h = tt
