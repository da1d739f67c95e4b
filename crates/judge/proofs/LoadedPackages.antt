-- Loaded packages, one by one.
use Rattle.std.proofs.Common.{◌≡◌, ℕ, zero, suc, List, [], ◌∷◌, length, Some, Contains, refl, ap, subst}
use Rattle.std.specs.Prelude.{slice_get, string_bytes}
use Rattle.meaning_reports.specs.Loaded.{LoadedPackage}
use Rattle.meaning.proofs.Membership.{contains_here, contains_there}
use Rattle.whole_packages.specs.declared.loaded_package.LoadedPackage.{LoadedPackage as KeptPackage}
use Rattle.load.specs.GivenPackages.{PathAndFiles, paths_of, AreLoaded}
use Rattle.load.specs.Readings.{IsLoadedAs}

pub are_as_many : (es : List PathAndFiles) (ps : List LoadedPackage) (ks : List KeptPackage) → AreLoaded es ps ks
    → length ps ≡ length ks
are_as_many [] [] [] h = refl
are_as_many [] [] (k ∷ ks) h = absurd h
are_as_many [] (p ∷ ps) ks h = absurd h
are_as_many (e ∷ es) [] ks h = absurd h
are_as_many (e ∷ es) (p ∷ ps) [] h = absurd h
are_as_many (e ∷ es) (p ∷ ps) (k ∷ ks) h = ap suc (are_as_many es ps ks h.1)

-- it is loaded of one of these, and that is kept of it
pub record IsLoadedOf (es : List PathAndFiles) (p : LoadedPackage) (k : KeptPackage) : Type 0 where
  pub of : PathAndFiles
  pub is_given : Contains es of
  pub loaded : IsLoadedAs of.1.edition (string_bytes of.0) (paths_of of.1.imports) of.1.sources.items p k

no_package : {p : LoadedPackage} (n : ℕ) → slice_get {X = LoadedPackage} [] n ≡ Some p → ⊥
no_package zero e = cc
no_package (suc n) e = cc

pub each_loaded : (es : List PathAndFiles) (ps : List LoadedPackage) (ks : List KeptPackage) → AreLoaded es ps ks
    → (i : ℕ) (p : LoadedPackage) (k : KeptPackage)
    → slice_get ps i ≡ Some p
    → slice_get ks i ≡ Some k
    → IsLoadedOf es p k
each_loaded [] [] [] h i p k is_p is_k = absurd (no_package i is_p)
each_loaded [] [] (k ∷ ks) h i q m is_p is_k = absurd h
each_loaded [] (p ∷ ps) ks h i q m is_p is_k = absurd h
each_loaded (e ∷ es) [] ks h i q m is_p is_k = absurd h
each_loaded (e ∷ es) (p ∷ ps) [] h i q m is_p is_k = absurd h
each_loaded (e ∷ es) (p ∷ ps) (k ∷ ks) h zero q m is_p is_k =
    let same : p ≡ q = cc in
    let kept : k ≡ m = cc in
    record {
      of = e;
      is_given = contains_here e es;
      loaded = subst (λ x. IsLoadedAs e.1.edition (string_bytes e.0) (paths_of e.1.imports) e.1.sources.items x m) same
          (subst (IsLoadedAs e.1.edition (string_bytes e.0) (paths_of e.1.imports) e.1.sources.items p) kept h.0);
    }
each_loaded (e ∷ es) (p ∷ ps) (k ∷ ks) h (suc i) q m is_p is_k =
    let w = each_loaded es ps ks h.1 i q m is_p is_k in
    record { of = w.of; is_given = contains_there e w.of es w.is_given; loaded = w.loaded }
