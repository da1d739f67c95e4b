-- What is kept of a package, by its place.
use Rattle.std.proofs.Common.{◌≡◌, ℕ, zero, suc, ◌<◌, List, [], ◌∷◌, length, Option, Some, None, string_bytes, refl, sym, arith}
use Rattle.std.specs.Prelude.{slice_get}
use Rattle.std.proofs.lemmas.Option.{none-some, slice_get_within}
use Rattle.whole_packages.specs.declared.loaded_package.LoadedPackage.{LoadedPackage as KeptPackage}
use Rattle.whole_packages.specs.LoadedViews.{TellsPackage, TellPackages}
use Rattle.meaning_reports.specs.Loaded.{LoadedPackage}

pub is_within : {A : Type 0} (xs : List A) (n : ℕ) → n < length xs → slice_get xs n ≡ None → ⊥
is_within [] n l none = omega (arith, l)
is_within (x ∷ xs) zero l none = none-some x (sym none)
is_within (x ∷ xs) (suc n) l none = is_within xs n (omega (arith, l)) none

-- what is kept is a package
pub record IsKeptOf (ps : List LoadedPackage) (i : ℕ) (k : KeptPackage) : Type 0 where
  pub meant : LoadedPackage
  pub is_there : slice_get ps i ≡ Some meant
  pub tells : TellsPackage meant k

module _ (ps : List LoadedPackage) (kept : List KeptPackage) (tell : TellPackages ps kept) where
  pub package_of : (i : ℕ) (k : KeptPackage) → slice_get kept i ≡ Some k → IsKeptOf ps i k
  package_of i k is = by (slice_get ps i) refl
    where
      by : (o : Option LoadedPackage) → slice_get ps i ≡ o → IsKeptOf ps i k
      by None none =
          let l = slice_get_within kept i k is in
          let same = tell.are_as_many in
          absurd (is_within ps i (omega (arith, l, same)) none)
      by (Some p) e = record { meant = p; is_there = e; tells = tell.each i p k e is }

  -- what is kept of a package
  pub kept_of : (i : ℕ) (p : LoadedPackage) → slice_get ps i ≡ Some p
      → (k : KeptPackage) × (slice_get kept i ≡ Some k) × (p.path ≡ string_bytes k.path)
  kept_of i p is = by (slice_get kept i) refl
    where
      by : (o : Option KeptPackage) → slice_get kept i ≡ o
          → (k : KeptPackage) × (slice_get kept i ≡ Some k) × (p.path ≡ string_bytes k.path)
      by None e =
          let l = slice_get_within ps i p is in
          let same = tell.are_as_many in
          absurd (is_within kept i (omega (arith, l, same)) e)
      by (Some k) e = (k, e, (tell.each i p k is e).is_path)
