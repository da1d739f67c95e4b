use Rattle.std.proofs.Common.{map, refl, sym, ap, ◌∙◌}
use Rattle.facts.proofs.FactParts.{on_ok}
use Rattle.credits.specs.CreditViews.{has}
use Rattle.events.specs.VariableViews.{variable_view}
use Rattle.findings.proofs.FoundParts.{adds_faults}
use Rattle.meaning.specs.BodyEvents.{events_at}
use Rattle.meaning.specs.Mentions.{BodyPlace}
use Rattle.meaning_packages.specs.Credits.{promises_in}
use Rattle.meaning_packages.specs.PathFaults.{IsPassFault, paths_of}
use Rattle.path_faults.specs.FaultViews.{fault_view}
use Rattle.findings.proofs.found.add_passes_by_calls.Goals as goal

pub returns : goal.returns
returns g c =
    on_ok c.add_path_faults.result
    (λ added number seen b tells is_body.
    let reliance = c.args.reliance.now in
    let paths = paths_of seen
    (promises_in (g.C.Calls.are_called reliance.calls.now) (has reliance.credits.now) reliance.at) b in
    let place = sym is_body.is_place in
    adds_faults c.args.diagnostics.now.items c.add_path_faults.new.diagnostics.items number c.args.body.now.file
    is_body.is_file (map fault_view c.deref-2.result.now) (map fault_view c.in_ok-faults.faults.items) (IsPassFault paths)
    (ap (map fault_view) c.deref-2.ensures.value)
    (c.in_ok-faults.ensures seen tells paths refl (ap (λ (p : BodyPlace). events_at seen p.at seen.marks) place)
    (sym is_body.are_variables ∙ ap (map variable_view) (sym c.deref.ensures.value)) refl)
    added)
    c.add_path_faults.ensures
