-- What the program keeps of ways, and what it stands for.
use Rattle.std.specs.Prelude.{List, map}
use Rattle.std.specs.declared.alloc.Global.{Global}
use Rattle.std.specs.declared.vec.Vec.{Vec as VecIn}
use Rattle.body_ways.specs.BodyWays.{ToldWay}
use Rattle.body_ways.specs.ToldViews.{told_fault_view}
use Rattle.body_ways.specs.declared.told.ToldFault.{ToldFault}

abbrev pub told_views : List ToldFault → List ToldWay
told_views = map told_fault_view

abbrev pub ways_view : List (VecIn ToldFault Global) → List (List ToldWay)
ways_view = map (λ told. told_views told.items)
