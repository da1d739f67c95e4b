use Rattle.std.proofs.Common.{◌≡◌, true, map, sym, ap, ◌∙◌, subst}
use Rattle.std.specs.List.{filter}
use Rattle.std.specs.Prelude.{◌↔◌}
use Rattle.std.proofs.lemmas.Result.{IfOk-weaker}
use Rattle.credits.specs.BodyPaths.{TellsPaths}
use Rattle.credits.specs.CreditViews.{has, is_among}
use Rattle.credits.specs.FoundCredits.{body_paths, IsReliedOn}
use Rattle.credits.specs.ReliedOn.{is_unbound}
use Rattle.events.specs.VariableViews.{variable_view}
use Rattle.bodies.specs.Solutions.{cancel_arrives, group_arrives}
use Rattle.credits.proofs.ReliedOn.{never_relied, surely_relied}
use Rattle.credits.proofs.found.settled_with.Goals as goal

pub returns-then-not-may_come_back : goal.returns-then-not-may_come_back
returns-then-not-may_come_back c = λ file seen b tells is_kept number.
    let paths = body_paths seen (has c.args.credits.now) b in
    subst (λ ns. (is_among ns number ≡ true) ↔ IsReliedOn seen (has c.args.credits.now) b number) (sym c.new.ensures.items)
    (never_relied file seen b c.args.body.now tells (has c.args.credits.now) number c.may_come_back.result
    c.if-not-may_come_back.true
    (c.may_come_back.ensures paths
    (subst (λ vs. TellsPaths paths c.args.kept.now.graph (map variable_view vs)
    (cancel_arrives c.in_ok-solution.solution) (group_arrives c.in_ok-solution.solution)) (sym c.deref.ensures.value)
    (c.in_ok-solution.ensures.paths file seen b tells is_kept))))

pub returns : goal.returns
returns c =
    IfOk-weaker c.unbound.result _ _
    (λ left is file seen b tells is_kept number.
    let paths = body_paths seen (has c.args.credits.now) b in
    let bound = c.args.body.now.bound.now in
    let told = c.in_ok-solution.ensures.paths file seen b tells is_kept in
    surely_relied file seen b c.args.body.now tells (has c.args.credits.now) number c.may_come_back.result
    c.if-not-may_come_back.false
    (c.may_come_back.ensures paths
    (subst (λ vs. TellsPaths paths c.args.kept.now.graph (map variable_view vs)
    (cancel_arrives c.in_ok-solution.solution) (group_arrives c.in_ok-solution.solution)) (sym c.deref.ensures.value) told))
    c.in_ok-numbers.numbers.items left.items (is ∙ ap (filter (is_unbound bound)) c.deref-3.ensures.value)
    (c.in_ok-numbers.ensures paths
    (subst (λ vs. TellsPaths paths c.args.kept.now.graph (map variable_view vs)
    (cancel_arrives c.in_ok-solution.solution) (group_arrives c.in_ok-solution.solution)) (sym c.deref-2.ensures.value) told)
    number))
    c.unbound.ensures
