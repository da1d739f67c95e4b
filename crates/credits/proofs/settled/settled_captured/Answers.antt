use Rattle.std.proofs.Common.{ap, ◌∙◌, arith}
use Rattle.credits.proofs.SettledPlaces.{all_places, nothing_more, one_more, of_all}
use Rattle.credits.proofs.settled.settled_captured.Goals as goal
use Rattle.credits.proofs.settled.settled_captured.Goals.{in-Some+in_ok-push, in_default}

pub loop-place-preserved : goal.loop-place-preserved
loop-place-preserved g c = λ b tells number.
    elim c.match-settled_number.branch [
      | in-Some+in_ok-push w ↦
          one_more b c.loop-place.place c.loop-place.numbers.items (c.loop-place.invariant b tells)
          c.match-settled_number.numbers.items c.settled_number.result w.in-Some.number w.in-Some.is
          (ap (λ v. v.items) w.numbers-is ∙ w.in_ok-push.ensures.items) (c.settled_number.ensures b tells) number
      | in_default w ↦
          nothing_more b c.loop-place.place c.loop-place.numbers.items (c.loop-place.invariant b tells)
          c.match-settled_number.numbers.items c.settled_number.result w.in_default.is (ap (λ v. v.items) w.numbers-is)
          (c.settled_number.ensures b tells) number
    ]

pub returns : goal.returns
returns g c = λ b tells number.
    let so_far = c.loop-place.invariant b tells number in
    let all = of_all b number c.loop-place.place
    (all_places c.args.variables.now b.variables tells.are_variables c.loop-place.place
    (omega (arith, c.loop-place.auto.place-end, c.loop-place-test.false))) in
    (λ e. all.0 (so_far.0 e), λ h. so_far.1 (all.1 h))
