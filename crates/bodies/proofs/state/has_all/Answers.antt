use Rattle.std.proofs.lemmas.Bool.{eqb-true, eq-eqb}
use Rattle.bodies.proofs.StateBits.{has_all_bits}
use Rattle.bodies.proofs.state.has_all.Goals as goal

pub returns : goal.returns
returns c =
    let is = has_all_bits c.args.word c.args.other in
    (λ e. is.0 (eqb-true _ _ e), λ h. eq-eqb _ _ (is.1 h))
