-- The given packages that have a fault as a whole, by their paths.
use Rattle.std.proofs.Common.{◌≡◌, ℕ, inl, inr, Bool, true, List, map, Option, Some, None, option_map, refl, sym, ap, ◌∙◌, arith}
use Rattle.std.specs.Prelude.{◌↔◌, slice_get}
use Rattle.std.proofs.lemmas.Bool.{false≢true}
use Rattle.std.proofs.lemmas.Option.{slice_get-map, slice_get_within, slice_get_cases}
use Rattle.imports.specs.Settling.{place_from}
use Rattle.imports.proofs.GivenImports.{first_there}
use Rattle.meaning_reports.specs.Loaded.{LoadedPackage, import_list}
use Rattle.meaning_reports.proofs.ImportsOf.{given_in_lists}
use Rattle.whole_packages.specs.declared.loaded_package.LoadedPackage.{LoadedPackage as KeptPackage}
use Rattle.whole_packages.specs.LoadedViews.{TellPackages}
use Rattle.whole_packages.specs.WholeEntries.{is_faulty, is_marked, is_set, is_set_at, IsUnranked}
use Rattle.whole_packages.proofs.FaultyPackages.{faulty_is}
use Rattle.given_packages.specs.Given.{IsFaulty}

module _ (ps : List LoadedPackage) (kept : List KeptPackage) (tell : TellPackages ps kept)
    (places : List ℕ → Option ℕ) (marks : List Bool)
    (are_places : (path : List ℕ) → places path ≡ place_from path (import_list ps) 0)
    (unranked : (path : List ℕ) → (is_marked places marks path ≡ true) ↔ IsUnranked ps path) where
  abbrev faulty : List Bool
  faulty = map (is_faulty places marks) kept

  meant_at : (n : ℕ) (k : KeptPackage) → slice_get kept n ≡ Some k → (q : LoadedPackage) × (slice_get ps n ≡ Some q)
  meant_at n k is = elim (slice_get_cases ps n).1 [
    | inl w ↦ (w.0, w.2)
    | inr past ↦
        let low = slice_get_within kept n k is in
        let long = tell.are_as_many in
        let out = past.0 in
        absurd (omega (arith, low, long, out))
  ]

  kept_at : (n : ℕ) (q : LoadedPackage) → slice_get ps n ≡ Some q → (k : KeptPackage) × (slice_get kept n ≡ Some k)
  kept_at n q is = elim (slice_get_cases kept n).1 [
    | inl w ↦ (w.0, w.2)
    | inr past ↦
        let low = slice_get_within ps n q is in
        let long = tell.are_as_many in
        let out = past.0 in
        absurd (omega (arith, low, long, out))
  ]

  fault_there : (path : List ℕ) (n : ℕ) → places path ≡ Some n → (o : Option KeptPackage) → slice_get kept n ≡ o
      → is_set (option_map (is_faulty places marks) o) ≡ true
      → IsFaulty ps path
  fault_there path n place None none f = absurd (false≢true f)
  fault_there path n place (Some k) is f =
      let q = meant_at n k is in
      let w = (faulty_is ps n q.0 q.1 places marks (λ r names. unranked r) k (tell.each n q.0 k q.1 is)).0 f in
      record { place = n; entry = w.0; is_place = sym (are_places path) ∙ place; is_fault = w.1 }

  fault_at : (path : List ℕ) (o : Option ℕ) → places path ≡ o → is_set_at o faulty ≡ true → IsFaulty ps path
  fault_at path None none f = absurd (false≢true f)
  fault_at path (Some n) place f =
      fault_there path n place (slice_get kept n) refl
      (ap is_set (sym (slice_get-map (is_faulty places marks) kept n)) ∙ f)

  is_marked_so : (path : List ℕ) → IsFaulty ps path → is_marked places faulty path ≡ true
  is_marked_so path h =
      let first = first_there (import_list ps) path h.place h.is_place in
      let q = given_in_lists ps h.place first.found first.is_found in
      let k = kept_at h.place q.0 q.1 in
      ap (λ o. is_set_at o faulty) (are_places path ∙ h.is_place)
      ∙ (ap is_set (slice_get-map (is_faulty places marks) kept h.place)
      ∙ (ap (λ o. is_set (option_map (is_faulty places marks) o)) k.1
      ∙ (faulty_is ps h.place q.0 q.1 places marks (λ r names. unranked r) k.0
      (tell.each h.place q.0 k.0 q.1 k.1)).1 (h.entry, h.is_fault)))

  pub faulty_so : (path : List ℕ) → (is_marked places faulty path ≡ true) ↔ IsFaulty ps path
  faulty_so path = (λ e. fault_at path (places path) refl e, is_marked_so path)
