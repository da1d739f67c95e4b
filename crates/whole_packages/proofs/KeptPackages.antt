-- What is kept of packages against the packages.
use Rattle.std.proofs.Common.{◌≡◌, ℕ, suc, List, [], ◌∷◌, map, length, Some, refl, arith}
use Rattle.std.specs.Prelude.{slice_get, flat_map}
use Rattle.meaning_reports.specs.Loaded.{LoadedPackage, import_list, imported_paths, imports_of}
use Rattle.whole_packages.specs.declared.loaded_package.LoadedPackage.{LoadedPackage as KeptPackage}
use Rattle.whole_packages.specs.LoadedViews.{kept_list, TellPackages}

module _ {A B C : Type 0} (f : A → C) (g : B → C) where
  same_maps : (xs : List A) (ys : List B) → length xs ≡ length ys
      → ((i : ℕ) (x : A) (y : B) → slice_get xs i ≡ Some x → slice_get ys i ≡ Some y → f x ≡ g y)
      → map f xs ≡ map g ys
  same_maps [] [] l each = refl
  same_maps [] (y ∷ ys) l each = absurd (omega (arith, l))
  same_maps (x ∷ xs) [] l each = absurd (omega (arith, l))
  same_maps (x ∷ xs) (y ∷ ys) l each =
      let first : f x ≡ g y = each 0 x y refl refl in
      let rest : map f xs ≡ map g ys = same_maps xs ys (omega (arith, l)) (λ i. each (suc i)) in
      λ i. first i ∷ rest i

pub listed : (ps : List LoadedPackage) (kept : List KeptPackage) → TellPackages ps kept
    → import_list ps ≡ map kept_list kept
listed ps kept tell =
    same_maps (λ p. record { path = p.path; imports = imported_paths p }) kept_list ps kept tell.are_as_many
    λ n p k is there.
    let h = tell.each n p k is there in
    λ i. record {
      path = h.is_path i;
      imports = flat_map (λ tree. map (λ s. s.path) (imports_of tree)) (h.are_trees i);
    }
