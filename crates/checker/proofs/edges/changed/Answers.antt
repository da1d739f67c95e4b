use Rattle.checker.proofs.ChangedStates.{by_event, by_nothing}
use Rattle.checker.proofs.edges.changed.Goals as goal

pub returns-in-Does : goal.returns-in-Does
returns-in-Does g c = λ returns.
    by_event (g.P.Promises.promises c.args.promises.now) c.args.variables.now c.args.event c.args.state.words
    c.applied.result.words c.in-Does.event c.in-Does.is c.applied.ensures

pub returns-in-Other : goal.returns-in-Other
returns-in-Other g c = λ returns.
    by_nothing (g.P.Promises.promises c.args.promises.now) c.args.variables.now c.args.event c.args.state.words
    c.applied-in-Other.result.words c.args.nothing.now c.in-Other.is returns c.applied-in-Other.ensures
