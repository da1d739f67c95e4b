use Rattle.std.proofs.Common.{◌≡◌, drop}
use Rattle.table_json.specs.Tables.{are_apart}
use Rattle.table_json.proofs.functions.are_apart.Given as goal

-- whether those that are left are apart is whether all are
abbrev pub invariant-loop-position : goal.invariant-loop-position
invariant-loop-position l = are_apart (drop l.position-index l.gives) l.causes ≡ are_apart l.gives l.causes
