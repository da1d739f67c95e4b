use Rattle.std.proofs.Common.{not, map, refl, sym, ap, ◌∙◌}
use Rattle.bodies.specs.NodeEvents.{events_graph}
use Rattle.events.specs.VariableViews.{variable_view}
use Rattle.path_faults.proofs.VariableAtPlace.{kind_there, none_there}
use Rattle.checker.specs.CertificateTests.{breaks_settling}
use Rattle.checker.specs.LaidOutViews.{masks_of}
use Rattle.checker.proofs.Laid.{settles_so}
use Rattle.checker.proofs.settled.settles.Goals as goal

pub returns-in-Some-clause-settled : goal.returns-in-Some-clause-settled
returns-in-Some-clause-settled c = λ laid p claims v there.
    let l = c.args.laid_out.now in
    let kind = kind_there l.variables.now c.args.place c.in-Some.variable.now c.in-Some.ensures.lookup.3.0
    c.in-Some.ensures.lookup.1 (map variable_view l.variables.now) refl v there in
    settles_so l c.args.states.now p claims laid c.args.place v (not c.breaks_settling.result)
    (ap not (c.breaks_settling.ensures
    ∙ ap (breaks_settling l.groups.items (masks_of l c.args.states.now) (events_graph l.kept.now.graph).nodes c.args.place)
    (sym kind)))

pub returns-in-None-clause-settled : goal.returns-in-None-clause-settled
returns-in-None-clause-settled c = λ laid p claims v there.
    absurd (none_there c.args.laid_out.now.variables.now c.args.place c.in-None.ensures.lookup.3
    (map variable_view c.args.laid_out.now.variables.now) refl v there)
