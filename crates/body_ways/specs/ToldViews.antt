-- What the program keeps of told faults, and what it stands for.
use Rattle.std.specs.Prelude.{◌≡◌, List, [], ◌∷◌, ◌++◌, map}
use Rattle.body_ways.specs.BodyWays.{ToldWay, IsToldWay}
use Rattle.body_ways.specs.declared.told.ToldFault.{ToldFault}
use Rattle.meaning_packages.specs.PathFaults.{Paths, PathFault}
use Rattle.path_faults.specs.FaultViews.{fault_view}
use Rattle.reasons.specs.Branches.{Branch}
use Rattle.way_notes.specs.NoteViews.{note_view}

abbrev pub told_fault_view : ToldFault → ToldWay
told_fault_view t = record {
  fault = fault_view t.fault;
  notes = map note_view t.notes.items;
  offsets = t.offsets.items;
}

-- the fault is added, with the notes of a way to it
pub record AddsTold (b : Paths) (branches : List Branch) (f : PathFault) (before after : List ToldWay) : Type 0 where
  pub told : ToldWay
  pub is_it : told.fault ≡ f
  pub is_told : IsToldWay b branches told
  pub added : after ≡ before ++ told ∷ []
