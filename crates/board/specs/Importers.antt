-- Which packages import a package, as the code keeps it: for each package a list of these.
use Rattle.std.specs.Prelude.{ℕ, ◌≡◌, ◌<◌, List, Contains, length}
use Rattle.board.specs.Ready.{row}

-- each package that imports another one is among those that import it
abbrev pub AreImporters : List (List ℕ) → List (List ℕ) → Type 0
AreImporters rows importers = (p j : ℕ) → Contains (row rows p) j → j < length rows → Contains (row importers j) p

-- the importer was added to each of these, and nothing was lost
pub record AddsImporter (imports : List ℕ) (importer : ℕ) (old new : List (List ℕ)) : Type 0 where
  pub as_many : length new ≡ length old
  pub keeps : (j p : ℕ) → Contains (row old j) p → Contains (row new j) p
  pub adds : (j : ℕ) → Contains imports j → j < length old → Contains (row new j) importer
