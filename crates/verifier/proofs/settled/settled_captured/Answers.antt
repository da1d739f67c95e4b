use Rattle.std.proofs.Common.{ap, ◌∙◌, arith}
use Rattle.std.proofs.lemmas.List.{length-map}
use Rattle.checker.specs.LaidOutViews.{body_of, states_view}
use Rattle.events.specs.VariableViews.{variable_view}
use Rattle.verifier.proofs.SettledRows.{nothing_more, one_more, of_all}
use Rattle.verifier.proofs.settled.settled_captured.Goals as goal
use Rattle.verifier.proofs.settled.settled_captured.Goals.{in-Some+in_ok-push, in_default}

pub loop-place-preserved : goal.loop-place-preserved
loop-place-preserved c = λ laid p claims number.
    let body = body_of c.args.laid_out.now p claims in
    let states = states_view c.args.states.now in
    elim c.match-settled_number.branch [
      | in-Some+in_ok-push w ↦
          one_more body states c.loop-place.place c.loop-place.numbers.items (c.loop-place.invariant laid p claims)
          c.match-settled_number.numbers.items c.settled_number.result w.in-Some.number w.in-Some.is
          (ap (λ v. v.items) w.numbers-is ∙ w.in_ok-push.ensures.items) (c.settled_number.ensures laid p claims) number
      | in_default w ↦
          nothing_more body states c.loop-place.place c.loop-place.numbers.items (c.loop-place.invariant laid p claims)
          c.match-settled_number.numbers.items c.settled_number.result w.in_default.is (ap (λ v. v.items) w.numbers-is)
          (c.settled_number.ensures laid p claims) number
    ]

pub returns : goal.returns
returns c = λ laid p claims number.
    let so_far = c.loop-place.invariant laid p claims number in
    let size = length-map c.args.laid_out.now.variables.now variable_view in
    let all = of_all (body_of c.args.laid_out.now p claims) (states_view c.args.states.now) number c.loop-place.place
    (omega (arith, size, c.loop-place.auto.place-end, c.loop-place-test.false)) in
    (λ e. all.0 (so_far.0 e), λ h. so_far.1 (all.1 h))
