use Rattle.std.proofs.lemmas.Result.{IfOk-weaker}
use Rattle.credits.proofs.SettledBodies.{settles_body}
use Rattle.credits.proofs.found.tell_body.Goals as goal

pub returns : goal.returns
returns c =
    IfOk-weaker c.tell.result _ _
    (λ done these file seen b tells.
    settles_body file seen b c.args.body.now tells c.in_ok-numbers.numbers.items
    c.args.credits.now c.tell.new.self these (c.in_ok-numbers.ensures file seen b tells))
    c.tell.ensures
