use Rattle.std.proofs.lemmas.Result.{IfOk-weaker}
use Rattle.calls_flags.proofs.BodiesKept.{kept_by, no_body}
use Rattle.calls_flags.specs.Claims.{KeepsThere}
use Rattle.calls_flags.specs.KnownCalls.{known_calls}
use Rattle.calls_flags.proofs.keeping.file_keeps.Goals as goal

pub returns-in-Some : goal.returns-in-Some
returns-in-Some c =
    IfOk-weaker c.body_keeps.result _ _
    (kept_by c.args.file.now (KeepsThere (known_calls c.args.calls)) c.args.claim.body c.args.claim.place c.deref.result.now
    c.deref.ensures.value c.in-Some.body.now c.in-Some.ensures.lookup.3.0 c.in-Some.ensures.lookup.1)
    c.body_keeps.ensures

pub returns-in-None : goal.returns-in-None
returns-in-None c =
    no_body c.args.file.now (KeepsThere (known_calls c.args.calls)) c.args.claim.body c.args.claim.place c.deref.result.now
    c.deref.ensures.value c.in-None.ensures.lookup.3
