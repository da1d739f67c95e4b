-- The faults of a body's paths, each with the notes of a shortest way to it, and where that goes.
use Rattle.std.specs.Prelude.{◌≡◌, ℕ, List, map, Contains}
use Rattle.flow.specs.Walks.{graph_of}
use Rattle.meaning_packages.specs.PathFaults.{Paths, PathFault, IsPathFault}
use Rattle.reasons.specs.Branches.{Branch}
use Rattle.way_notes.specs.Notes.{Note, Told, notes_of_way}
use Rattle.way_notes.specs.Offsets.{AreOffsets}
use Rattle.ways.specs.Found.{FoundWay, IsWayAs, Tells}

pub record ToldWay : Type 0 where
  pub fault : PathFault
  pub notes : List Note
  -- the offsets at which it goes, in the order of the text
  pub offsets : List ℕ

abbrev pub told_of : FoundWay → Told
told_of w = record { number = w.number; group = w.group }

-- it is a fault of the paths, and its notes and offsets are those of a shortest way to it: the notes of the variable
-- that is the fault there and of the group of whose work the way tells, where these statements branch
pub record IsToldWay (b : Paths) (branches : List Branch) (t : ToldWay) : Type 0 where
  pub is_fault : IsPathFault b t.fault
  pub way : FoundWay
  pub is_way : Tells (graph_of b.code) way.nodes (IsWayAs b t.fault way)
  pub are_notes : t.notes ≡ notes_of_way (graph_of b.code) branches (told_of way) way.nodes
  pub are_offsets : AreOffsets (graph_of b.code) way.nodes t.offsets

-- each of these is one, and each fault of the paths is told
pub record AreToldWays (b : Paths) (branches : List Branch) (told : List ToldWay) : Type 0 where
  pub each : (t : ToldWay) → Contains told t → IsToldWay b branches t
  pub all : (f : PathFault) → IsPathFault b f → Contains (map (λ t. t.fault) told) f
