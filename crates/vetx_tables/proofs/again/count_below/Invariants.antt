use Rattle.std.proofs.Common.{◌≡◌, ◌≤◌, ◌+◌, drop}
use Rattle.vetx_tables.specs.KeptTables.{count_below}
use Rattle.vetx_tables.proofs.again.count_below.Given as goal

-- those that were counted, with those of what is left, are all
abbrev pub invariant-loop-position : goal.invariant-loop-position
invariant-loop-position l =
    (l.count + count_below l.end (drop l.position-index l.positions) ≡ count_below l.end l.positions)
    × (l.count ≤ l.position-index)
