use Rattle.std.proofs.Common.{◌∙◌, ap}
use Rattle.std.proofs.lemmas.List.{at_drop_all}
use Rattle.tracked.specs.LocalViews.{seen_view}
use Rattle.meaning.specs.BodyEvents.{variables_among, in_their_order}
use Rattle.events.specs.VariableViews.{variables_in}
use Rattle.events.proofs.Grown.{grown}
use Rattle.events.proofs.found.find_variables.Goals as goal

pub returns : goal.returns
returns c = λ body.
    let seen = seen_view c.args.seen.now in
    ap in_their_order
    (grown (variables_in c.loop-number.lists body) _ _
    (at_drop_all (variables_among seen body) c.numbers-number-items.result.now c.loop-number.number-index c.loop-number-test.false)
    (c.loop-number.invariant body)
    ∙ ap (variables_among seen body) c.numbers-number-items.ensures)
