use Rattle.std.proofs.Common.{refl, sym, subst}
use Rattle.bodies.specs.Bodies.{TellBodies}
use Rattle.calls_flags.proofs.file_bodies.bodies_of_file.Goals as goal

pub returns : goal.returns
returns c = λ seen tells.
    let told = c.in_ok-bodies.ensures seen tells in
    record {
      tells = record { tells = tells.tells; are_bodies = told; are_credits = refl };
      are_full = c.in_ok-credits.ensures c.args.number seen
          (subst (TellBodies c.args.number seen) (sym c.deref.ensures.value) told);
    }
