use Rattle.std.proofs.Common.{◌≡◌, ◌++◌, drop, map}
use Rattle.certificate_json.specs.Certificates.{rows_of}
use Rattle.certificate_json.specs.RowsHeld.{IsWhole}
use Rattle.certificate_json.proofs.rows.Rows.of_lists.Given as goal

-- the rows so far, with those of the lists that are left, are all
abbrev pub invariant-loop-list : goal.invariant-loop-list
invariant-loop-list l =
    IsWhole l.rows
    × (rows_of l.rows ++ map (λ list. list.items) (drop l.list-index l.lists) ≡ map (λ list. list.items) l.lists)
