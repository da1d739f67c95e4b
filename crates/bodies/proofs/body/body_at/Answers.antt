use Rattle.std.proofs.Common.{map, refl, ap, ◌∙◌}
use Rattle.std.specs.Prelude.{◌&&◌, ◌==◌, length, not}
use Rattle.bodies.proofs.BodiesTold.{tells_place}
use Rattle.events.specs.VariableViews.{variable_view}
use Rattle.bodies.proofs.body.body_at.Goals as goal

pub returns : goal.returns
returns c =
    let first = ap (map variable_view) c.deref.ensures.value in
    let unset = c.in_ok-is_unfollowed.is_unfollowed in
    let judged = c.has_paths-are_judged.ensures ∙ ap (λ vs. not (length vs == 0) && not unset) c.deref-2.ensures.value in
    tells_place c.args.file c.args.told.now c.args.variables.now c.args.place _ c.has_paths-are_judged.result refl refl
    c.in_ok-variables.ensures (λ seen are. c.in_ok-is_unfollowed.ensures seen (first ∙ are)) judged c.in_ok-graph.ensures
    refl c.at.ensures
