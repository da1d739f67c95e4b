use Rattle.std.proofs.lemmas.Result.{IfOk-weaker}
use Rattle.calls_flags.proofs.KeptClaims.{holds_in, kept_in, no_file}
use Rattle.calls_flags.specs.Claims.{claim_view, KeepsThere}
use Rattle.calls_flags.specs.KnownCalls.{known_calls}
use Rattle.calls_flags.proofs.keeping.keeps_claim.Goals as goal

pub returns-in-Some : goal.returns-in-Some
returns-in-Some c =
    let calls = known_calls c.args.calls in
    let claim = claim_view c.args.claim in
    IfOk-weaker c.file_keeps.result _ _
    (λ keeps by_body.
    kept_in c.args.files.now calls claim keeps
    (holds_in c.args.files.now (KeepsThere calls) claim c.in-Some.file.now c.in-Some.ensures.lookup.3.0
    c.in-Some.ensures.lookup.1 keeps by_body))
    c.file_keeps.ensures

pub returns-in-None : goal.returns-in-None
returns-in-None c = λ fs tell f b v claim.
    absurd (no_file c.args.files.now (KeepsThere (known_calls c.args.calls)) (claim_view c.args.claim)
    c.in-None.ensures.lookup.3 fs tell f b v claim)
