use Rattle.std.proofs.Common.{◌≡◌, ℕ, Some, option_map, sym, ap, ◌∙◌, subst}
use Rattle.std.proofs.lemmas.Result.{IfOk-weaker}
use Rattle.bodies.specs.Bodies.{IsOrderedGraph, code_in}
use Rattle.called_parameters.specs.Called.{is_called}
use Rattle.calls_flags.specs.KnownCalls.{known_calls}
use Rattle.certificate_json.specs.Certificates.{rows_of}
use Rattle.credits.specs.CreditViews.{has}
use Rattle.meaning.specs.Mentions.{BodyPlace}
use Rattle.verifier.proofs.FoundCertificates.{relied_found, none_found}
use Rattle.verifier.proofs.SaidParts.{followed_so}
use Rattle.verifier.specs.GivenViews.{rows_at}
use Rattle.verifier.proofs.certified.find_certificate.Goals as goal

pub returns-in_ok-found-in-Some-graph : goal.returns-in_ok-found-in-Some-graph
returns-in_ok-found-in-Some-graph c =
    IfOk-weaker c.relied_on.result _ _
    (λ left are number seen b told tells g given.
    let rows = c.args.grounds.given.now.rows in
    let there : rows_at rows number b.at ≡ rows_at rows c.args.body.now.file c.args.body.now.place.at =
    λ i. rows_at rows (sym tells.is_file i) (sym (ap (λ (p : BodyPlace). p.at) tells.is_place) i) in
    let are_given : g.rows number b.at ≡ Some (rows_of c.in-Some.rows.now) =
    sym (given.are_rows number b.at) ∙ (there ∙ (sym c.at.ensures ∙ ap (option_map (λ r. rows_of r.now)) c.in-Some.is)) in
    relied_found g (is_called c.args.grounds.calls.own.now) (known_calls c.args.grounds.calls) number seen
    (has c.args.credits.now) b _ _
    (c.in_ok-found-in-Some-graph.ensures number seen b told tells (tells.is_graph c.in-Some-graph.kept c.in-Some-graph.is)
    (followed_so seen b (sym tells.unfollowed ∙ c.if-body.false)) g are_given)
    (are number seen b tells c.in-Some-graph.is))
    c.relied_on.ensures

pub returns-in_ok-kept-in-None : goal.returns-in_ok-kept-in-None
returns-in_ok-kept-in-None c =
    IfOk-weaker c.found_in-in-None.result _ _
    (λ found h number seen b told tells g given.
    let rows = c.args.grounds.given.now.rows in
    let there : rows_at rows number b.at ≡ rows_at rows c.args.body.now.file c.args.body.now.place.at =
    λ i. rows_at rows (sym tells.is_file i) (sym (ap (λ (p : BodyPlace). p.at) tells.is_place) i) in
    let are_given : g.rows number b.at ≡ Some (rows_of c.in-Some.rows.now) =
    sym (given.are_rows number b.at) ∙ (there ∙ (sym c.at.ensures ∙ ap (option_map (λ r. rows_of r.now)) c.in-Some.is)) in
    let followed = followed_so seen b (sym tells.unfollowed ∙ c.if-body.false) in
    none_found g (is_called c.args.grounds.calls.own.now) (known_calls c.args.grounds.calls) number seen
    (has c.args.credits.now) b number c.args.body.now tells c.in-None.is followed _
    (h number seen b told tells
    (subst (λ (p : BodyPlace). IsOrderedGraph (code_in seen p) c.in_ok-kept-in-None.kept) tells.is_place
    (c.in_ok-kept-in-None.ensures seen told))
    followed g are_given))
    c.found_in-in-None.ensures
