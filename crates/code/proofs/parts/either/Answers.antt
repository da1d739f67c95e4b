use Rattle.code.proofs.Codes.{made_either}
use Rattle.code.proofs.parts.either.Goals as goal

pub returns : goal.returns
returns g c = λ a b first second.
    made_either c.args.first c.args.second c.in_ok-first.field-0 c.in_ok-second.field-0 c.one_of.result c.push-2.new.self.items
    c.new-codes.result.items c.push.new.self.items a b c.in_ok-first.was c.in_ok-second.was c.new-codes.ensures.items
    c.in_ok-push.ensures.items c.in_ok-push-2.ensures.items c.one_of.ensures first second
