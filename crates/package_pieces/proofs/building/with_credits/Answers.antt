use Rattle.std.proofs.Common.{refl, sym, subst}
use Rattle.bodies.specs.Bodies.{TellBodies}
use Rattle.package_pieces.proofs.building.with_credits.Goals as goal

pub returns : goal.returns
returns c = λ number seen tells told.
    record {
      tells = record { tells = tells.tells; are_bodies = told; are_credits = refl };
      are_full = c.in_ok-credits.ensures number seen (subst (TellBodies number seen) (sym c.deref.ensures.value) told);
    }
