-- What serves the proofs: when rows of masks that are held one after the other can grow.
use Rattle.std.specs.Prelude.{ℕ, ◌≡◌, List, ◌++◌}
use Rattle.certificate_json.specs.declared.rows.Rows.{Rows}
use Rattle.certificate_json.specs.Certificates.{rows_in}

-- rows that are added stand after those that are there: each mask stands in one of these
abbrev pub GoOn : List ℕ → List ℕ → Type 0
GoOn widths masks = (others more : List ℕ)
    → rows_in (widths ++ others) (masks ++ more) ≡ rows_in widths masks ++ rows_in others more

abbrev pub IsWhole : Rows → Type 0
IsWhole rows = GoOn rows.widths.items rows.masks.items
