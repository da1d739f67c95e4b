use Rattle.std.proofs.Common.{option_map, sym, ap, ◌∙◌}
use Rattle.facts.specs.FactViews.{kind_view}
use Rattle.facts.proofs.FactParts.{on_ok}
use Rattle.tracked.specs.LocalViews.{local_view, seen_view}
use Rattle.events.proofs.VariablesFound.{variables_found}
use Rattle.events.proofs.found.add_number.Goals as goal

pub returns-in-Some-Some : goal.returns-in-Some-Some
returns-in-Some-Some c =
    on_ok c.add_local.result
    (variables_found (seen_view c.args.seen.now) c.args.number (local_view c.in-Some-Some.local)
    (kind_view c.in-Some-Some.kind)
    (sym c.tracked_local.ensures ∙ ap (option_map local_view) c.in-Some-Some.is-0)
    (sym (ap (option_map kind_view) c.in-Some-Some.is-1) ∙ c.kind_of.ensures)
    c.args.lists.now c.add_local.new.lists c.args.sightings.now)
    c.add_local.ensures
