use Rattle.std.proofs.Common.{map, sym, ap, ◌∙◌}
use Rattle.meaning.specs.BodyEvents.{forbids_recover}
use Rattle.mentions.specs.MarkViews.{body_view}
use Rattle.tracked.specs.LocalViews.{seen_view}
use Rattle.events.proofs.VariableFaults.{any_has}
use Rattle.events.proofs.by_variables.forbids_recover.Goals as goal

pub returns-in-Second : goal.returns-in-Second
returns-in-Second c =
    let seen = seen_view c.args.file.seen.now in
    let bodies = map body_view c.args.bodies.now in
    c.any_has_variables.ensures
    ∙ (any_has seen c.args.file.variables.now c.requires.are_variables bodies
    ∙ sym (ap (λ e. forbids_recover e seen bodies) c.in-Second.is))
