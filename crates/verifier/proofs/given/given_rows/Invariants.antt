use Rattle.std.proofs.Common.{◌≡◌, ℕ, map, drop}
use Rattle.certificate_json.specs.Certificates.{body_of}
use Rattle.meaning.specs.OuterBlocks.{or_else}
use Rattle.verifier.specs.GivenViews.{rows_at, rows_in}
use Rattle.verifier.proofs.given.given_rows.Given as goal

-- the rows so far, with those of the bodies that are left, are all
abbrev pub invariant-loop-body : goal.invariant-loop-body
invariant-loop-body l =
    (number at : ℕ)
    → or_else (rows_at l.given number at) (rows_in (map body_of (drop l.body-index l.bodies)) number at)
    ≡ rows_in (map body_of l.bodies) number at
