-- What an order of packages has to be: which of them have a rank, and what stands before what. A package imports
-- another one if the path of the other is among its imports; paths that no package of the list has don't count.
use Rattle.std.specs.Prelude.{ℕ, ◌≡◌, ◌<◌, ◌≤◌, ◌↔◌, true, List, length, Contains, Option, Some, is_some, slice_get}

-- what a list of packages says of one of them: its path, and the paths that it imports
pub record Package : Type 0 where
  pub path : List ℕ
  pub imports : List (List ℕ)

-- the i-th package imports the j-th: one of its imports is the path of the j-th, which is the first that has this path
pub record Imports (packages : List Package) (i j : ℕ) : Type 0 where
  pub importer : Package
  pub imported : Package
  pub is_importer : slice_get packages i ≡ Some importer
  pub is_imported : slice_get packages j ≡ Some imported
  pub names : Contains importer.imports imported.path
  pub is_first : (k : ℕ) (p : Package) → slice_get packages k ≡ Some p → p.path ≡ imported.path → j ≤ k

-- a chain of imports from one package to another; from each package to itself goes the one without an import
pub data Chain (packages : List Package) : ℕ → ℕ → Type 0 where
  ends : {i : ℕ} → Chain packages i i
  goes_on : {i j k : ℕ} → Imports packages i j → Chain packages j k → Chain packages i k

-- no chain of imports from the package meets a package twice
abbrev pub HasRank : List Package → ℕ → Type 0
HasRank packages i = (j k : ℕ) → Chain packages i j → Imports packages j k → Chain packages k j → ⊥

-- these are ranks of the packages, and their list in that order
pub record IsOrder (packages : List Package) (rank : ℕ → Option ℕ) (ranked : List ℕ) : Type 0 where
  -- exactly the packages get a rank from which no chain meets a package twice
  pub ranks : (i : ℕ) → (is_some (rank i) ≡ true) ↔ ((i < length packages) × HasRank packages i)
  -- what a package with a rank imports has a lower one
  pub imports_first : (i j r : ℕ) → Imports packages i j → rank i ≡ Some r → (q : ℕ) × (rank j ≡ Some q) × (q < r)
  -- a rank is a place in the list; so no two packages have the same, and the list has each of them once
  pub places : (i r : ℕ) → (rank i ≡ Some r) ↔ (slice_get ranked r ≡ Some i)
