-- What counting as given comes to. In the second edition a package counts so exactly where it has no fault of the whole
-- package, imports without a rank aside; what imports such a package has no rank either, and so no other findings.
-- In the first edition each given package counts.
use Rattle.std.specs.Prelude.{ℕ, ◌≡◌, true, false, List, Some, slice_get}
use Rattle.tree.specs.declared.edition.Edition.TheVariants.{First, Second}
use Rattle.report.specs.Entries.{Entry}
use Rattle.imports.specs.Ranks.{HasRank}
use Rattle.meaning_reports.specs.Loaded.{LoadedPackage, counts_as_given, import_list}
use Rattle.meaning_reports.specs.WholeFaults.{HasNoWholeFault, IsWholeFault}

pub record CountingIsByFaults : Type 0 where
  pub first : (p : LoadedPackage) → p.edition ≡ First → counts_as_given p ≡ true
  pub well : (ps : List LoadedPackage) (i : ℕ) (p : LoadedPackage)
      → slice_get ps i ≡ Some p
      → HasNoWholeFault ps i
      → counts_as_given p ≡ true
  -- so its table is empty
  pub passed_over : (ps : List LoadedPackage) (i : ℕ) (p : LoadedPackage)
      → slice_get ps i ≡ Some p
      → counts_as_given p ≡ false
      → (x : Entry) × IsWholeFault ps i x
  pub counted : (ps : List LoadedPackage) (i : ℕ) (p : LoadedPackage)
      → slice_get ps i ≡ Some p
      → p.edition ≡ Second
      → counts_as_given p ≡ true
      → HasRank (import_list ps) i
      → HasNoWholeFault ps i
