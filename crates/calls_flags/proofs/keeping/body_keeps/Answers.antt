use Rattle.std.proofs.Common.{map, sym, ap, ◌∙◌, subst}
use Rattle.std.proofs.lemmas.Result.{IfOk-weaker}
use Rattle.bodies.specs.Solutions.{cancel_arrives, group_arrives}
use Rattle.calls_flags.specs.KnownCalls.{known_calls}
use Rattle.credits.specs.BodyPaths.{TellsPaths}
use Rattle.credits.specs.CreditViews.{has}
use Rattle.events.specs.VariableViews.{variable_view}
use Rattle.meaning_packages.specs.Credits.{promises_in}
use Rattle.meaning_packages.specs.PathFaults.{paths_of}
use Rattle.calls_flags.proofs.ComesBack.{by_its_edition, never_back, back_and_kept}
use Rattle.calls_flags.proofs.keeping.body_keeps.Goals as goal

pub returns-then-not-may_come_back : goal.returns-then-not-may_come_back
returns-then-not-may_come_back c = λ file seen b tells few v is_there is_cancel.
    let paths = paths_of seen (promises_in (known_calls c.args.calls) (has c.args.credits.now) b.at) b in
    never_back seen.known.edition paths v c.may_come_back.result
    (by_its_edition file seen b c.args.body.now tells paths c.may_come_back.result
    (c.may_come_back.ensures paths
    (subst (λ vs. TellsPaths paths c.in-Some.kept.graph (map variable_view vs)
    (cancel_arrives c.in_ok-solution.solution) (group_arrives c.in_ok-solution.solution)) (sym c.deref.ensures.value)
    (c.in_ok-solution.ensures.paths file seen b tells c.in-Some.is)) v is_there))
    c.if-not-may_come_back.true

pub returns : goal.returns
returns c =
    IfOk-weaker c.keeps_call.result _ _
    (λ keeps are file seen b tells few v is_there is_cancel.
    let paths = paths_of seen (promises_in (known_calls c.args.calls) (has c.args.credits.now) b.at) b in
    let told = c.in_ok-solution.ensures.paths file seen b tells c.in-Some.is in
    back_and_kept seen.known.edition paths v c.may_come_back.result
    (by_its_edition file seen b c.args.body.now tells paths c.may_come_back.result
    (c.may_come_back.ensures paths
    (subst (λ vs. TellsPaths paths c.in-Some.kept.graph (map variable_view vs)
    (cancel_arrives c.in_ok-solution.solution) (group_arrives c.in_ok-solution.solution)) (sym c.deref.ensures.value) told)
    v is_there))
    c.if-not-may_come_back.false keeps
    (are paths told.is_graph (told.are_variables ∙ ap (map variable_view) (sym c.deref-2.ensures.value)) told.classifies v
    is_there is_cancel))
    c.keeps_call.ensures
