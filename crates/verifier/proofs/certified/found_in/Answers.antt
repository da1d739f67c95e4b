use Rattle.std.proofs.Common.{◌≡◌, ℕ, true, option_map, ap, ◌∙◌, subst, arith}
use Rattle.std.specs.Prelude.{◌↔◌, IsTrue}
use Rattle.calls_flags.specs.Claims.{function_name}
use Rattle.called_parameters.specs.Called.{is_called}
use Rattle.calls_flags.specs.KnownCalls.{known_calls}
use Rattle.certificate_json.specs.Certificates.{rows_of}
use Rattle.checker.specs.Certificates.{Holds}
use Rattle.checker.specs.LaidOutViews.{LaysOut, body_of, states_view}
use Rattle.credits.specs.CreditViews.{has, is_among}
use Rattle.meaning_packages.specs.Credits.{promises_in}
use Rattle.verifier.proofs.FoundCertificates.{found_none, found_some, laid_so, not_as_many, same_body}
use Rattle.verifier.specs.SettledPlaces.{SettlesSome}
use Rattle.verifier.specs.Verified.{flags_of_name}
use Rattle.verifier.proofs.certified.found_in.Goals as goal

pub returns-then-count-len : goal.returns-then-count-len
returns-then-count-len c = λ number seen b tells_file tells is followed g given.
    not_as_many g (is_called c.args.grounds.calls.own.now) (known_calls c.args.grounds.calls) number seen (has c.args.credits.now)
    b followed (rows_of c.args.given.rows.now) given c.args.kept.now is _ _ c.count.ensures (c.len.ensures ∙ c.args.kept.now.order.ok.0) (grind arith)

pub returns-then-not-holds : goal.returns-then-not-holds
returns-then-not-holds c = λ number seen b tells_file tells is followed g given.
    let own = is_called c.args.grounds.calls.own.now in
    let calls = known_calls c.args.grounds.calls in
    let credits = has c.args.credits.now in
    let kept = c.args.kept.now in
    let told = c.args.given.body.now in
    let laid = c.in_ok-laid_out.laid_out in
    let name = option_map (λ n. n.now) c.function_name.result in
    let edition = c.args.grounds.told.now.edition in
    let lays : LaysOut edition told.variables.items kept laid =
    subst (λ vs. LaysOut edition vs kept laid) c.deref.ensures.value c.in_ok-laid_out.ensures in
    let is_name : name ≡ function_name b = c.function_name.ensures ∙ ap function_name tells.is_place in
    let there = body_of laid (promises_in calls credits told.place.at) (flags_of_name own name) in
    found_none g own calls number seen credits b followed (rows_of c.args.given.rows.now) given kept is there
    (same_body seen b number told tells kept is laid edition lays tells_file.edition own calls credits name is_name) c.holds.result
    (subst (λ rs. IsTrue c.holds.result ↔ Holds there rs) (ap states_view c.as_slice-rows.ensures.value ∙ c.in_ok-lists.ensures)
    (c.holds.ensures (laid_so seen b number told tells kept is laid edition lays))) c.if-not-holds.true

pub returns : goal.returns
returns c = λ number seen b tells_file tells is followed g given.
    let own = is_called c.args.grounds.calls.own.now in
    let calls = known_calls c.args.grounds.calls in
    let credits = has c.args.credits.now in
    let kept = c.args.kept.now in
    let told = c.args.given.body.now in
    let laid = c.in_ok-laid_out.laid_out in
    let name = option_map (λ n. n.now) c.function_name.result in
    let edition = c.args.grounds.told.now.edition in
    let lays : LaysOut edition told.variables.items kept laid =
    subst (λ vs. LaysOut edition vs kept laid) c.deref.ensures.value c.in_ok-laid_out.ensures in
    let is_name : name ≡ function_name b = c.function_name.ensures ∙ ap function_name tells.is_place in
    let promises = promises_in calls credits told.place.at in
    let claims = flags_of_name own name in
    let there = body_of laid promises claims in
    let is_laid = laid_so seen b number told tells kept is laid edition lays in
    let listed = ap states_view c.as_slice-rows.ensures.value ∙ c.in_ok-lists.ensures in
    let numbers = c.in_ok-settled_captured.field-0.items in
    found_some g own calls number seen credits b followed (rows_of c.args.given.rows.now) given kept is there
    (same_body seen b number told tells kept is laid edition lays tells_file.edition own calls credits name is_name) c.holds.result
    (subst (λ rs. IsTrue c.holds.result ↔ Holds there rs) listed (c.holds.ensures is_laid)) c.if-not-holds.false numbers
    (subst (λ rs. (variable : ℕ) → (is_among numbers variable ≡ true) ↔ SettlesSome there rs variable) listed
    (c.in_ok-settled_captured.ensures is_laid promises claims))
