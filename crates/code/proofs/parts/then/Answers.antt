use Rattle.code.proofs.Codes.{made_then}
use Rattle.code.proofs.parts.then.Goals as goal

pub returns : goal.returns
returns g c = λ a b first second.
    made_then c.args.first c.args.second c.in_ok-first.field-0 c.in_ok-second.field-0 c.in_ok-first-2.first
    c.in_ok-second-2.second a b c.in_ok-first.was c.in_ok-first-2.ensures.ok c.in_ok-second.was
    c.in_ok-second-2.ensures.ok first second
