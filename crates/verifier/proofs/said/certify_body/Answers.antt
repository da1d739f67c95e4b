use Rattle.std.proofs.Common.{subst, option_map}
use Rattle.facts.proofs.FactParts.{on_ok}
use Rattle.called_parameters.specs.Called.{is_called}
use Rattle.calls_flags.specs.KnownCalls.{known_calls}
use Rattle.credits.specs.CreditViews.{has}
use Rattle.verifier.proofs.SaidParts.{found_some, found_none}
use Rattle.verifier.specs.FoundBodies.{with_table, IsFoundReliedOn}
use Rattle.verifier.proofs.said.certify_body.Goals as goal

pub returns-in-Some : goal.returns-in-Some
returns-in-Some c =
    on_ok c.tell.result
    (λ these number seen b told is_body g given.
    let own = is_called c.args.grounds.calls.own.now in
    let calls = known_calls c.args.grounds.calls in
    found_some g own calls number seen b c.args.body.now is_body c.args.credits.now c.tell.new.self c.in-Some.numbers.items
    these c.args.diagnostics.now.items
    (subst (λ o. IsFoundReliedOn g own calls number (with_table seen (has c.args.credits.now)) b (option_map (λ v. v.items) o))
    c.in-Some.is (c.in_ok-found.ensures number seen b told is_body g given)))
    c.tell.ensures

pub returns-in_ok-add_uncertified-in-None : goal.returns-in_ok-add_uncertified-in-None
returns-in_ok-add_uncertified-in-None c =
    on_ok c.tell-in-None.result
    (λ these number seen b told is_body g given.
    let own = is_called c.args.grounds.calls.own.now in
    let calls = known_calls c.args.grounds.calls in
    found_none g own calls number seen b c.args.body.now is_body c.args.credits.now c.tell-in-None.new.self
    c.new.result.items these c.args.diagnostics.now.items c.add_uncertified.new.diagnostics.items c.new.ensures.items
    c.in_ok-add_uncertified-in-None.ensures
    (subst (λ o. IsFoundReliedOn g own calls number (with_table seen (has c.args.credits.now)) b (option_map (λ v. v.items) o))
    c.in-None.is (c.in_ok-found.ensures number seen b told is_body g given)))
    c.tell-in-None.ensures
