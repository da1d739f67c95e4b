use Rattle.code.proofs.Codes.{made_up_to_falls}
use Rattle.code.proofs.parts.up_to_falls.Goals as goal

pub returns : goal.returns
returns g c = λ a made.
    made_up_to_falls c.args.falls c.args.code c.in_ok-code.field-0 c.in_ok-code-2.code a c.in_ok-code.was
    c.in_ok-code-2.ensures.ok made
