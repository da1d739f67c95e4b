use Rattle.std.proofs.Common.{◌≡◌, ◌++◌, drop, map}
use Rattle.serde_json.specs.View.{view}
use Rattle.table_json.specs.Tables.{itself}
use Rattle.table_json.specs.TableValues.{whole, AllFit}
use Rattle.table_json.proofs.written.position_values.Given as goal

-- the values so far, with those of what is left, are all; and where the positions that are left fit, all do
abbrev pub invariant-loop-position : goal.invariant-loop-position
invariant-loop-position l = record {
  values :
      map view l.values.items ++ map whole (drop l.position-index l.positions)
      ≡ map whole l.positions;
  fit : AllFit itself (drop l.position-index l.positions) → AllFit itself l.positions;
}
