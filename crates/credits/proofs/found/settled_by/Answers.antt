use Rattle.std.proofs.Common.{◌≡◌, true, map, sym, ap, ◌∙◌, subst}
use Rattle.std.specs.Prelude.{◌↔◌}
use Rattle.std.proofs.lemmas.Result.{IfOk-weaker}
use Rattle.credits.specs.CreditViews.{has, is_among}
use Rattle.credits.specs.SettledVariables.{captures_any}
use Rattle.credits.proofs.SettledBodies.{none_captured, no_graph, of_graph}
use Rattle.credits.specs.FoundCredits.{IsSettledBy}
use Rattle.events.specs.VariableViews.{variable_view}
use Rattle.credits.proofs.found.settled_by.Goals as goal

pub returns-then-not-captures_any : goal.returns-then-not-captures_any
returns-then-not-captures_any c = λ file seen b tells number.
    let credits = has c.args.credits.now in
    subst (λ ns. (is_among ns number ≡ true) ↔ IsSettledBy seen credits b number) (sym c.new.ensures.items)
    (none_captured file seen b c.args.body.now tells credits number
    (ap (λ vs. captures_any (map variable_view vs)) (sym c.deref.ensures.value)
    ∙ (sym c.captures_any.ensures ∙ c.if-not-captures_any.true)))

pub returns-in-Some : goal.returns-in-Some
returns-in-Some c =
    IfOk-weaker c.settled_with.result _ _
    (λ numbers settled file seen b tells number.
    of_graph file seen b c.args.body.now tells (has c.args.credits.now) number c.in-Some.kept c.in-Some.is
    (is_among numbers.items number ≡ true) (settled file seen b tells c.in-Some.is number))
    c.settled_with.ensures

pub returns-in-None : goal.returns-in-None
returns-in-None c = λ file seen b tells number.
    let credits = has c.args.credits.now in
    subst (λ ns. (is_among ns number ≡ true) ↔ IsSettledBy seen credits b number) (sym c.new-in-None.ensures.items)
    (no_graph file seen b c.args.body.now tells credits number c.in-None.is)
