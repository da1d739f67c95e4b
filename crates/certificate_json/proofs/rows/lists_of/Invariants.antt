use Rattle.std.proofs.Common.{◌≡◌, ◌++◌, drop, map}
use Rattle.certificate_json.specs.Certificates.{rows_in}
use Rattle.certificate_json.proofs.rows.lists_of.Given as goal

-- the rows so far, with those of what is left, are all
abbrev pub invariant-loop-width : goal.invariant-loop-width
invariant-loop-width l =
    map (λ list. list.items) l.lists.items ++ rows_in (drop l.width-index l.widths) l.rest ≡ rows_in l.widths l.masks
