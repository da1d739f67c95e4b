-- What the rows of a certificate tell at the nodes, and what the trait asks of them.
use Rattle.std.specs.Prelude.{ℕ, ◌≡◌, true, List, Contains}
use Rattle.meaning.specs.Classes.{pending}
use Rattle.checker.specs.Certificates.{masks_in}
use Rattle.checker.specs.CertificateTests.{mask_in, cancels_told}
use Rattle.checker.specs.LaidOutViews.{row_of, states_view}
use Rattle.checker.specs.declared.classes.RowClasses.{RowClasses}
use Rattle.bodies.proofs.MaskedClasses.{pending_among}

-- the masks at a node
abbrev pub masks_told : RowClasses → ℕ → List ℕ
masks_told r node = masks_in (states_view r.states.now) (row_of r.rows.now.items node)

-- what is pending somewhere is pending in a group that has a bit
pub pending_in_row : (r : RowClasses) (place node g : ℕ)
    → cancels_told r.groups.now.items (masks_told r) place node (pending g) ≡ true
    → Contains r.groups.now.items g
pending_in_row r place node g e = pending_among r.groups.now.items (mask_in (masks_told r node) place) g e
