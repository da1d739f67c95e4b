use Rattle.std.proofs.Common.{◌≡◌, drop}
use Rattle.std.specs.List.{list_all}
use Rattle.table_json.specs.TableValues.{is_older}
use Rattle.table_json.proofs.functions.are_older.Given as goal

-- whether those that are left are older is whether all are
abbrev pub invariant-loop-parameter : goal.invariant-loop-parameter
invariant-loop-parameter l =
    list_all is_older (drop l.parameter-index l.parameters) ≡ list_all is_older l.parameters
