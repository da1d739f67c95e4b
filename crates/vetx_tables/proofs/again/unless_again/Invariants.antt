use Rattle.std.proofs.Common.{◌≡◌, ◌++◌, drop, map}
use Rattle.facts.specs.FactViews.{unless_view}
use Rattle.vetx_json.specs.KeptUnits.{unless_of}
use Rattle.vetx_tables.specs.KeptTables.{unless_again}
use Rattle.vetx_tables.proofs.again.unless_again.Given as goal

-- those so far, with those of what is left, are all
abbrev pub invariant-loop-one : goal.invariant-loop-one
invariant-loop-one l =
    map unless_view l.again.items ++ map unless_again (map unless_of (drop l.one-index l.unless))
    ≡ map unless_again (map unless_of l.unless)
