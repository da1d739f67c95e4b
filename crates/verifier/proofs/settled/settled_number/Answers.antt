use Rattle.std.proofs.Common.{sym, ◌∙◌}
use Rattle.std.proofs.lemmas.Bool.{false≢true}
use Rattle.checker.specs.LaidOutViews.{body_of, states_view}
use Rattle.events.specs.VariableViews.{variable_view}
use Rattle.verifier.proofs.SettledRows.{view_there, view_past, nothing_there, not_captured, not_settled, is_settled}
use Rattle.verifier.proofs.settled.settled_number.Goals as goal
use Rattle.verifier.proofs.settled.settled_number.Goals.{else-is_captured-via-then-is_captured+else-settles, else-is_captured-via-else-is_captured}

pub returns-then-settles : goal.returns-then-settles
returns-then-settles c = λ laid p claims number.
    let view = variable_view c.in-Some.variable.now in
    let states = states_view c.args.states.now in
    let body = body_of c.args.laid_out.now p claims in
    let there = view_there c.args.laid_out.now.variables.now c.args.place c.in-Some.variable.now
    c.in-Some.ensures.lookup.3.0 c.in-Some.ensures.lookup.1 in
    is_settled body states c.args.place number view there (sym c.is_captured.ensures ∙ c.if-is_captured.true)
    ((c.settles.ensures.settled laid p claims view there).0 c.if-settles.true)

pub returns-else-is_captured : goal.returns-else-is_captured
returns-else-is_captured c = λ laid p claims number.
    let view = variable_view c.in-Some.variable.now in
    let states = states_view c.args.states.now in
    let body = body_of c.args.laid_out.now p claims in
    let there = view_there c.args.laid_out.now.variables.now c.args.place c.in-Some.variable.now
    c.in-Some.ensures.lookup.3.0 c.in-Some.ensures.lookup.1 in
    elim c.else-is_captured.branch [
      | else-is_captured-via-then-is_captured+else-settles w ↦
          not_settled body states c.args.place number view there
          λ settled. false≢true
          (sym w.if-settles.false ∙ (w.settles.ensures.settled laid p claims view there).1 settled)
      | else-is_captured-via-else-is_captured w ↦
          not_captured body states c.args.place number view there (sym c.is_captured.ensures ∙ w.if-is_captured.false)
    ]

pub returns-in-None : goal.returns-in-None
returns-in-None c = λ laid p claims number.
    nothing_there (body_of c.args.laid_out.now p claims) (states_view c.args.states.now) c.args.place number
    (view_past c.args.laid_out.now.variables.now c.args.place c.in-None.ensures.lookup.3)
