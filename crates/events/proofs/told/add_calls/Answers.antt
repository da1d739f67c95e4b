use Rattle.std.proofs.Common.{◌&&◌, map}
use Rattle.std.proofs.lemmas.List.{get_or_default}
use Rattle.meaning.specs.BodyEvents.{is_site}
use Rattle.meaning.specs.Uses.{is_body}
use Rattle.mentions.specs.MarkViews.{body_view, mark_view}
use Rattle.events.proofs.MarkEvents.{none_left, one_call}
use Rattle.events.proofs.told.add_calls.Goals as goal

pub loop-variable-preserved : goal.loop-variable-preserved
loop-variable-preserved c =
    let variables = c.args.variables.now in
    let index = c.loop-variable.variable-index in
    let within = c.loop-variable-test.true in
    λ body at.
    one_call (is_body body (map body_view c.args.bodies.now) && is_site (mark_view c.args.mark.now) at) variables index _ within
    (get_or_default variables index _ _ within) _ _ _ (c.in_ok-add_event.ensures body at) (c.loop-variable.invariant body at)

pub returns : goal.returns
returns c = λ body at.
    none_left (is_body body (map body_view c.args.bodies.now) && is_site (mark_view c.args.mark.now) at) c.args.variables.now
    c.loop-variable.variable-index c.loop-variable-test.false _ _ (c.loop-variable.invariant body at)
