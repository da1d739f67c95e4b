-- What is known of a package by itself: what it imports, and whether it has a fault as a whole, wherever it is given
-- among others and has a rank.
use Rattle.std.proofs.Common.{◌≡◌, ℕ, zero, suc, if◌then◌else◌, List, [], ◌∷◌, Contains, Some, None, refl, sym, ap, ◌∙◌, subst, arith}
use Rattle.std.specs.Prelude.{◌↔◌, true, slice_get}
use Rattle.std.proofs.lemmas.Option.{none-some, same_Some}
use Rattle.std.proofs.lemmas.Slice.Eq.{bytes_eq-Decides}
use Rattle.imports.proofs.GivenImports.{FirstAt}
use Rattle.imports.specs.Ranks.{Package, HasRank, ends}
use Rattle.imports.specs.Settling.{place_from}
use Rattle.imports.specs.Views.{at_path}
use Rattle.meaning_reports.proofs.ImportsOf.{given_in_lists, in_lists, names_first}
use Rattle.meaning_reports.specs.Loaded.{LoadedPackage, Tables, import_list, imported_paths}
use Rattle.meaning_reports.specs.WholeFaults.{IsWholeFault, has_no_tokens, has_no_tree, has_two_functions, has_no_rank}
use Rattle.given_packages.specs.Given.{TellsGiven}
use Rattle.given_packages.specs.declared.given.Given.{Given}
use Rattle.report.specs.Entries.{Entry}
use Rattle.whole_packages.specs.LoadedViews.{HaveDistinctPaths, TellPackages, TellsPackage}
use Rattle.whole_packages.specs.WholeEntries.{is_marked, is_set, is_set_at}
use Rattle.whole_packages.specs.declared.loaded_package.LoadedPackage.{LoadedPackage as KeptPackage}

nothing_there : {A : Type 0} (n : ℕ) (x : A) → slice_get {X = A} [] n ≡ Some x → ⊥
nothing_there zero x e = none-some x e
nothing_there (suc n) x e = none-some x e

module _ (p : LoadedPackage) where
  abbrev item : Package
  item = record { path = p.path; imports = imported_paths p }

  one_item : (n : ℕ) (x : Package) → slice_get (item ∷ []) n ≡ Some x → item ≡ x
  one_item zero x e = same_Some item x e
  one_item (suc n) x e = absurd (nothing_there n x e)

  pub distinct_alone : HaveDistinctPaths (p ∷ [])
  distinct_alone = record { same = same }
    where
      same : (i j : ℕ) (q r : LoadedPackage) → slice_get (p ∷ []) i ≡ Some q → slice_get (p ∷ []) j ≡ Some r
          → q.path ≡ r.path
          → i ≡ j
      same zero zero q r e f g = refl
      same zero (suc j) q r e f g = absurd (nothing_there j r f)
      same (suc i) j q r e f g = absurd (nothing_there i q e)

  pub tell_alone : (k : KeptPackage) → TellsPackage p k → TellPackages (p ∷ []) (k ∷ [])
  tell_alone k tells = record { are_as_many = refl; each = each }
    where
      each : (i : ℕ) (q : LoadedPackage) (l : KeptPackage) → slice_get (p ∷ []) i ≡ Some q → slice_get (k ∷ []) i ≡ Some l
          → TellsPackage q l
      each zero q l e f = subst (TellsPackage q) (same_Some k l f) (subst (λ r. TellsPackage r k) (same_Some p q e) tells)
      each (suc n) q l e f = absurd (nothing_there n q e)

  -- Its faults as a whole

  module _ (ps : List LoadedPackage) (i : ℕ) (is_p : slice_get ps i ≡ Some p) (distinct : HaveDistinctPaths ps)
      (rank : HasRank (import_list ps) i) where
    first_here : FirstAt p.path (import_list ps) i
    first_here = record {
      found = item;
      is_found = in_lists ps i p is_p;
      same = refl;
      first = λ m r there e.
          let q = given_in_lists ps m r there in
          let same = distinct.same i m p q.0 is_p q.1 (sym (ap (λ (x : Package). x.path) q.2 ∙ e)) in
          omega (arith, same);
    }

    ranked_alone : HasRank (import_list (p ∷ [])) 0
    ranked_alone j k chain im back =
        let importer = one_item j im.importer im.is_importer in
        let imported = one_item k im.imported im.is_imported in
        let names : Contains (imported_paths p) p.path =
        subst (λ (r : Package). Contains (imported_paths p) r.path) (sym imported)
        (subst (λ (r : Package). Contains r.imports im.imported.path) (sym importer) im.names) in
        rank i i ends (names_first ps i p is_p p.path i names first_here) ends

    among : (x : Entry) → IsWholeFault (p ∷ []) 0 x → IsWholeFault ps i x
    among x (has_no_tokens q file at why is f) = has_no_tokens q file at why (is_p ∙ is) f
    among x (has_no_tree q file at why is f) = has_no_tree q file at why (is_p ∙ is) f
    among x (has_two_functions q f tree is second there) = has_two_functions q f tree (is_p ∙ is) second there
    among x (has_no_rank j file spec none none_there at) = absurd (none ranked_alone)

    alone : (x : Entry) → IsWholeFault ps i x → IsWholeFault (p ∷ []) 0 x
    alone x (has_no_tokens q file at why is f) = has_no_tokens q file at why (sym is_p ∙ is) f
    alone x (has_no_tree q file at why is f) = has_no_tree q file at why (sym is_p ∙ is) f
    alone x (has_two_functions q f tree is second there) = has_two_functions q f tree (sym is_p ∙ is) second there
    alone x (has_no_rank j file spec none none_there at) = absurd (none rank)

    place_here : place_from p.path (import_list (p ∷ [])) 0 ≡ Some 0
    place_here = ap (λ b. if b then Some 0 else None) ((bytes_eq-Decides p.path p.path).1 refl)

    pub marked_so : (declared : Tables) (given : Given) → TellsGiven declared (p ∷ []) given
        → (is_set (slice_get given.faulty.items 0) ≡ true) ↔ ((x : Entry) × IsWholeFault ps i x)
    marked_so declared given tells = (
      λ e.
          let h = (tells.are_faulty p.path).0 (mark ∙ e) in
          (h.entry, among h.entry (subst (λ n. IsWholeFault (p ∷ []) n h.entry) (same_Some h.place 0 (sym h.is_place ∙ place_here)) h.is_fault)),
      λ h.
          sym mark
          ∙ (tells.are_faulty p.path).1
          (record { place = 0; entry = h.0; is_place = place_here; is_fault = alone h.0 h.1 }),
    )
      where
        mark : is_marked (at_path given.places) given.faulty.items p.path ≡ is_set (slice_get given.faulty.items 0)
        mark = ap (λ o. is_set_at o given.faulty.items) (tells.are_places p.path ∙ place_here)
