use Rattle.std.proofs.lemmas.Result.{IfOk-weaker}
use Rattle.calls_flags.proofs.KeptClaims.{holds_in, no_file}
use Rattle.calls_flags.specs.Claims.{claim_view, ComesBackThere}
use Rattle.calls_flags.proofs.keeping.claim_comes_back.Goals as goal

pub returns-in-Some : goal.returns-in-Some
returns-in-Some c =
    IfOk-weaker c.file_comes_back.result _ _
    (holds_in c.args.files.now ComesBackThere (claim_view c.args.claim) c.in-Some.file.now c.in-Some.ensures.lookup.3.0
    c.in-Some.ensures.lookup.1)
    c.file_comes_back.ensures

pub returns-in-None : goal.returns-in-None
returns-in-None c = λ fs tell f b v claim.
    absurd (no_file c.args.files.now ComesBackThere (claim_view c.args.claim) c.in-None.ensures.lookup.3 fs tell f b v claim)
