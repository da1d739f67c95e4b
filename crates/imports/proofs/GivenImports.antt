-- The table of given imports says what imports what.
use Rattle.std.proofs.Common.{◌≡◌, ℕ, zero, suc, ◌+◌, ◌<◌, ◌≤◌, Bool, true, false, if◌then◌else◌, List, [], ◌∷◌, length, get_or, Contains, Option, Some, bytes_eq, refl, ap, ◌∙◌, sym, subst, arith, true≢false}
use Rattle.std.specs.Prelude.{slice_get}
use Rattle.std.proofs.lemmas.Option.{same_Some, none-some, slice_get_within}
use Rattle.std.proofs.lemmas.Slice.Eq.{bytes_eq-Decides}
use Rattle.imports.specs.Ranks.{Package, Imports}
use Rattle.imports.specs.Settling.{place_from, places_of, given_imports}
use Rattle.imports.proofs.Membership.{row_at, row_has, made_of, makes}

-- the first of the packages that has the path
pub record FirstAt (path : List ℕ) (ps : List Package) (k : ℕ) : Type 0 where
  pub found : Package
  pub is_found : slice_get ps k ≡ Some found
  pub same : found.path ≡ path
  pub first : (m : ℕ) (q : Package) → slice_get ps m ≡ Some q → q.path ≡ path → k ≤ m

module _ (path : List ℕ) where
  other_path : (p : Package) → bytes_eq p.path path ≡ false → p.path ≡ path → ⊥
  other_path p e same = true≢false (sym ((bytes_eq-Decides p.path path).1 same) ∙ e)

  after : (p : Package) (ps : List Package) (k : ℕ)
      → FirstAt path ps k
      → bytes_eq p.path path ≡ false
      → (m : ℕ) (q : Package)
      → slice_get (p ∷ ps) m ≡ Some q
      → q.path ≡ path
      → suc k ≤ m
  after p ps k f g zero q is same = absurd (other_path p g (ap (λ (r : Package). r.path) (same_Some p q is) ∙ same))
  after p ps k f g (suc m) q is same = let l : k ≤ m = f.first m q is same in omega arith

  abbrev Tells : List Package → ℕ → ℕ → Type 0
  Tells ps n j = (k : ℕ) × (j ≡ n + k) × FirstAt path ps k

  tells_by : (p : Package) (ps : List Package) (n j : ℕ) (b : Bool)
      → bytes_eq p.path path ≡ b
      → (place_from path ps (n + 1) ≡ Some j → Tells ps (n + 1) j)
      → (if b then Some n else place_from path ps (n + 1)) ≡ Some j
      → Tells (p ∷ ps) n j
  tells_by p ps n j true g later f =
      let same : n ≡ j = same_Some n j f in (
        0,
        omega arith,
        record {
          found = p;
          is_found = refl;
          same = (bytes_eq-Decides p.path path).0 g;
          first = λ _ _ _ _. omega arith;
        },
      )
  tells_by p ps n j false g later f =
      let r = later f in
      let at : j ≡ n + 1 + r.0 = r.1 in (
        suc r.0,
        omega arith,
        record { found = r.2.found; is_found = r.2.is_found; same = r.2.same; first = after p ps r.0 r.2 g },
      )

  place_tells : (ps : List Package) (n j : ℕ) → place_from path ps n ≡ Some j → Tells ps n j
  place_tells [] n j e = absurd (none-some j e)
  place_tells (p ∷ ps) n j e = tells_by p ps n j (bytes_eq p.path path) refl (place_tells ps (n + 1) j) e

  abbrev Found : List Package → ℕ → ℕ → Type 0
  Found ps n k = FirstAt path ps k → place_from path ps n ≡ Some (n + k)

  is_by : (p : Package) (ps : List Package) (n : ℕ) (b : Bool)
      → bytes_eq p.path path ≡ b
      → ((k : ℕ) → Found ps (n + 1) k)
      → (k : ℕ)
      → FirstAt path (p ∷ ps) k
      → (if b then Some n else place_from path ps (n + 1)) ≡ Some (n + k)
  is_by p ps n true g later k h =
      let low : k ≤ 0 = h.first 0 p refl ((bytes_eq-Decides p.path path).0 g) in
      let same : n ≡ n + k = omega arith in
      ap Some same
  is_by p ps n false g later zero h =
      absurd (other_path p g (ap (λ (r : Package). r.path) (same_Some p h.found h.is_found) ∙ h.same))
  is_by p ps n false g later (suc k) h =
      let same : n + 1 + k ≡ n + suc k = omega arith in
      later k (record {
        found = h.found;
        is_found = h.is_found;
        same = h.same;
        first = λ i q is e. let l : suc k ≤ suc i = h.first (suc i) q is e in omega arith;
      })
      ∙ ap Some same

  place_is : (ps : List Package) (n k : ℕ) → Found ps n k
  place_is [] n k f = absurd (none-some f.found f.is_found)
  place_is (p ∷ ps) n k f = is_by p ps n (bytes_eq p.path path) refl (place_is ps (n + 1)) k f

module _ (packages : List Package) where
  abbrev pub place : List ℕ → Option ℕ
  place path = place_from path packages 0

  pub first_there : (path : List ℕ) (j : ℕ) → place path ≡ Some j → FirstAt path packages j
  first_there path j e = at (place_tells path packages 0 j e)
    where
      at : Tells path packages 0 j → FirstAt path packages j
      at w = let same : w.0 ≡ j = omega (arith, w.1) in subst (FirstAt path packages) same w.2

  pub imports_from : (i j : ℕ) (importer : Package) (path : List ℕ)
      → slice_get packages i ≡ Some importer
      → Contains importer.imports path
      → FirstAt path packages j
      → Imports packages i j
  imports_from i j importer path is names first = record {
    importer = importer;
    imported = first.found;
    is_importer = is;
    is_imported = first.is_found;
    names = subst (Contains importer.imports) (sym first.same) names;
    is_first = λ k p there same. first.first k p there (same ∙ first.same);
  }

  named_by : (i j : ℕ) (importer : Package)
      → slice_get packages i ≡ Some importer
      → Contains (places_of place importer) j
      → Imports packages i j
  named_by i j importer is h =
      let named = made_of place importer.imports j h in
      imports_from i j importer named.0 is named.1 (first_there named.0 j named.2)

  pub there_first : (path : List ℕ) (j : ℕ) → FirstAt path packages j → place path ≡ Some j
  there_first path j f = let same : 0 + j ≡ j = omega arith in place_is path packages 0 j f ∙ ap Some same

  pub table_imports : (i j : ℕ) → Contains (get_or (given_imports packages) i []) j → Imports packages i j
  table_imports i j h =
      let importer = row_has (places_of place) packages i j h in named_by i j importer.0 importer.1 importer.2

  pub imports_table : (i j : ℕ) → Imports packages i j → Contains (get_or (given_imports packages) i []) j
  imports_table i j h =
      let first : FirstAt h.imported.path packages j = record {
        found = h.imported;
        is_found = h.is_imported;
        same = refl;
        first = h.is_first;
      } in
      let at : 0 + j ≡ j = omega arith in
      subst (λ (row : List ℕ). Contains row j)
      (sym (row_at (places_of place) packages i h.importer h.is_importer))
      (makes place h.importer.imports h.imported.path j h.names
      (place_is h.imported.path packages 0 j first ∙ ap Some at))

  pub imported_there : (i j : ℕ) → Imports packages i j → j < length packages
  imported_there i j h = slice_get_within packages j h.imported h.is_imported
