-- A package that is given alone: what is loaded of it, and so its report is that of the bytes of its files.
use Rattle.std.proofs.Common.{◌≡◌, inl, inr, List, [], ◌∷◌, length, Contains, refl, ap, subst, arith}
use Rattle.std.specs.Prelude.{IsPermutation, slice_get, string_bytes}
use Rattle.std.proofs.lemmas.List.Sorted.{length_permutation, Contains-permutation}
use Rattle.declared_json.specs.DeclaredPackages.{PackageEntry, packages_of}
use Rattle.load.proofs.TreesOfTexts.{of_texts}
use Rattle.unit_reports.specs.OneUnit.{IsLoadedAlone, IsReportOfUnit, IsUnitReportFault, fault_of}
use Rattle.unit_reports.specs.Units.{IsUnitFault, IsUnitReport}
use Rattle.unit_reports.specs.declared.units.ImportedUnit.{ImportedUnit}
use Rattle.told_reports.specs.declared.unit.UnitForm.{UnitForm}
use Rattle.unit_reports.specs.declared.units.UnitReport.{UnitReport}
use Rattle.load.specs.GivenPackages.{AreLoaded, PathAndFiles, entry_of, paths_of}
use Rattle.load.specs.LoadedBeside.{IsLoadBeside}
use Rattle.load.specs.Readings.{IsLoadedAs}
use Rattle.load.specs.declared.loaded.Loaded.{Loaded}
use Rattle.load.specs.declared.packages.GivenPackage.{GivenPackage}
use Rattle.meaning.proofs.Membership.{contains_cases, contains_here, contains_nil}
use Rattle.meaning_reports.specs.Loaded.{LoadedPackage}
use Rattle.vetx_tables.specs.declared.fault.KeptFault.{KeptFault}
use Rattle.vetx_tables.specs.declared.fault.KeptFault.TheVariants.{TooLarge, OutOfMemory}
use Rattle.whole_packages.specs.declared.loaded_package.LoadedPackage.{LoadedPackage as KeptPackage}

only_entry : (e : PathAndFiles) (es : List PathAndFiles) → IsPermutation (e ∷ []) es → es ≡ e ∷ []
only_entry e es same =
    by es (length_permutation (e ∷ []) es same) (Contains-permutation (e ∷ []) es e same (contains_here e []))
  where
    by : (xs : List PathAndFiles) → length xs ≡ 1 → Contains xs e → xs ≡ e ∷ []
    by [] one among = absurd (contains_nil e among)
    by (x ∷ []) one among = elim (contains_cases x e [] among) [
      | inl here ↦ ap (λ y. y ∷ []) here
      | inr none ↦ absurd (contains_nil e none)
    ]
    by (x ∷ y ∷ xs) one among = absurd (omega (arith, one))

record IsOnlyLoaded (e : PathAndFiles) (ps : List LoadedPackage) (ks : List KeptPackage) : Type 0 where
  p : LoadedPackage
  k : KeptPackage
  is_meant : ps ≡ p ∷ []
  is_kept : ks ≡ k ∷ []
  is_loaded : IsLoadedAs e.1.edition (string_bytes e.0) (paths_of e.1.imports) e.1.sources.items p k

only_loaded : (e : PathAndFiles) (ps : List LoadedPackage) (ks : List KeptPackage) → AreLoaded (e ∷ []) ps ks
    → IsOnlyLoaded e ps ks
only_loaded e [] ks h = absurd h
only_loaded e (p ∷ ps) [] h = absurd h
only_loaded e (p ∷ []) (k ∷ []) h = record { p = p; k = k; is_meant = refl; is_kept = refl; is_loaded = h.0 }
only_loaded e (p ∷ []) (k ∷ l ∷ ks) h = absurd h.1
only_loaded e (p ∷ q ∷ ps) (k ∷ ks) h = absurd h.1

module _ (outside : List PackageEntry) (given : GivenPackage) (loaded : Loaded)
    (beside : IsLoadBeside (given ∷ []) outside loaded) where
  alone : (k : KeptPackage) × IsLoadedAlone outside given k × (loaded.packages.items ≡ k ∷ [])
  alone =
      let load = beside.load in
      let order = only_entry (entry_of given) load.in_order load.same in
      let are = subst (λ es. AreLoaded es load.meant loaded.packages.items) order load.are_loaded in
      let w = only_loaded (entry_of given) load.meant loaded.packages.items are in (
        w.k,
        record {
          loaded = loaded;
          load = beside;
          is_only = w.is_kept;
          meant = w.p;
          is_loaded = w.is_loaded;
          of_texts =
              of_texts (entry_of given ∷ []) load.meant loaded.packages.items are 0 w.p (ap (λ ps. slice_get ps 0) w.is_meant);
        },
        w.is_kept,
      )

  -- what is said of what was loaded is said of what was given
  pub is_report : (form : UnitForm) (told : List ImportedUnit) (report : UnitReport)
      → ((k : KeptPackage) → loaded.packages.items ≡ k ∷ [] → IsUnitReport form (packages_of loaded.outside) told k report)
      → IsReportOfUnit form outside told given report
  is_report form told report says = record {
    kept = alone.0;
    is_loaded = alone.1;
    is_report = subst (λ es. IsUnitReport form es told alone.0 report) beside.is_outside (says alone.0 alone.2);
  }

  pub is_fault : (told : List ImportedUnit) (fault : KeptFault)
      → ((k : KeptPackage) → loaded.packages.items ≡ k ∷ [] → IsUnitFault (packages_of loaded.outside) told k fault)
      → IsUnitReportFault outside told given (fault_of fault)
  is_fault told TooLarge says = record {
    kept = alone.0;
    is_loaded = alone.1;
    is_large = subst (λ es. IsUnitFault es told alone.0 TooLarge) beside.is_outside (says alone.0 alone.2);
  }
  is_fault told OutOfMemory says = tt
