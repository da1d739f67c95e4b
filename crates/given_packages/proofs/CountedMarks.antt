-- The given packages that count as given, by their paths.
use Rattle.std.proofs.Common.{◌≡◌, ℕ, inl, inr, Bool, List, map, Option, Some, None, option_map, refl, sym, ap, ◌∙◌, arith}
use Rattle.std.specs.Prelude.{slice_get}
use Rattle.std.proofs.lemmas.Option.{slice_get-map, slice_get_within, slice_get_cases}
use Rattle.imports.specs.Settling.{place_from}
use Rattle.imports.proofs.GivenImports.{first_there}
use Rattle.meaning_reports.specs.Loaded.{LoadedPackage, counts, import_list}
use Rattle.meaning_reports.proofs.ImportsOf.{given_in_lists}
use Rattle.whole_packages.specs.declared.loaded_package.LoadedPackage.{LoadedPackage as KeptPackage}
use Rattle.whole_packages.specs.CountedViews.{kept_counts}
use Rattle.whole_packages.specs.LoadedViews.{TellPackages}
use Rattle.whole_packages.specs.WholeEntries.{is_marked, is_set, is_set_at}
use Rattle.whole_packages.proofs.CountedPackages.{counts_told}

module _ (ps : List LoadedPackage) (kept : List KeptPackage) (tell : TellPackages ps kept)
    (places : List ℕ → Option ℕ) (are_places : (path : List ℕ) → places path ≡ place_from path (import_list ps) 0) where
  kept_at : (n : ℕ) (q : LoadedPackage) → slice_get ps n ≡ Some q → (k : KeptPackage) × (slice_get kept n ≡ Some k)
  kept_at n q is = elim (slice_get_cases kept n).1 [
    | inl w ↦ (w.0, w.2)
    | inr past ↦
        let low = slice_get_within ps n q is in
        let long = tell.are_as_many in
        let out = past.0 in
        absurd (omega (arith, low, long, out))
  ]

  pub counted_so : (path : List ℕ) (j : ℕ) → place_from path (import_list ps) 0 ≡ Some j
      → is_marked places (map kept_counts kept) path ≡ counts (slice_get ps j)
  counted_so path j place =
      let first = first_there (import_list ps) path j place in
      let q = given_in_lists ps j first.found first.is_found in
      let k = kept_at j q.0 q.1 in
      ap (λ o. is_set_at o (map kept_counts kept)) (are_places path ∙ place)
      ∙ (ap is_set (slice_get-map kept_counts kept j)
      ∙ (ap (λ o. is_set (option_map kept_counts o)) k.1
      ∙ (sym (counts_told q.0 k.0 (tell.each j q.0 k.0 q.1 k.1)) ∙ sym (ap counts q.1))))
