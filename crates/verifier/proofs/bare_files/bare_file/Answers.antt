use Rattle.std.proofs.Common.{refl}
use Rattle.verifier.proofs.bare_files.bare_file.Goals as goal

pub returns : goal.returns
returns c = λ seen tells.
    record {
      tells = tells.tells;
      are_bodies = c.in_ok-bodies.ensures seen tells;
      are_credits = refl;
    }
