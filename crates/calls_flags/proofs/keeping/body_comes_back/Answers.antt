use Rattle.std.proofs.Common.{map, sym, subst}
use Rattle.bodies.specs.Solutions.{cancel_arrives, group_arrives}
use Rattle.credits.specs.BodyPaths.{TellsPaths}
use Rattle.credits.specs.CreditViews.{has}
use Rattle.events.specs.VariableViews.{variable_view}
use Rattle.meaning_packages.specs.Credits.{no_calls, promises_in}
use Rattle.meaning_packages.specs.PathFaults.{paths_of}
use Rattle.calls_flags.proofs.ComesBack.{by_its_edition}
use Rattle.calls_flags.proofs.keeping.body_comes_back.Goals as goal

pub returns : goal.returns
returns c = λ file seen b tells few v is_there is_cancel.
    let paths = paths_of seen (promises_in no_calls (has c.args.credits.now) b.at) b in
    by_its_edition file seen b c.args.body.now tells paths c.may_come_back.result
    (c.may_come_back.ensures paths
    (subst (λ vs. TellsPaths paths c.in-Some.kept.graph (map variable_view vs)
    (cancel_arrives c.in_ok-solution.solution) (group_arrives c.in_ok-solution.solution)) (sym c.deref.ensures.value)
    (c.in_ok-solution.ensures.paths file seen b tells c.in-Some.is)) v is_there)
