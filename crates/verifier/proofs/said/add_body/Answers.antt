use Rattle.std.proofs.Common.{◌++◌, Contains, map, sym, ap, ◌∙◌, subst}
use Rattle.facts.proofs.FactParts.{on_ok}
use Rattle.calls_flags.specs.KnownCalls.{known_calls}
use Rattle.credits.specs.CreditViews.{has}
use Rattle.events.specs.VariableViews.{variable_view}
use Rattle.findings.proofs.FoundParts.{adds_list, adds_both}
use Rattle.findings.specs.FoundEntries.{use_entries, AddsEntries, IsEntryOf, IsPassEntry}
use Rattle.meaning.specs.BodyEvents.{body_faults, variables_of}
use Rattle.meaning.specs.Mentions.{BodyPlace}
use Rattle.meaning_packages.specs.Credits.{promises_in}
use Rattle.meaning_packages.specs.PathFaults.{paths_of, IsPassFault}
use Rattle.report.specs.Entries.{entry_of}
use Rattle.uses.specs.OutcomeViews.{fault_view}
use Rattle.verifier.specs.FoundBodies.{with_table}
use Rattle.verifier.proofs.said.add_body.Goals as goal

pub returns : goal.returns
returns c =
    on_ok c.add_passes_by_calls.result
    (λ passes number seen b told is_body.
    let calls = known_calls c.args.grounds.calls in
    let f = with_table seen (has c.args.credits.now) in
    let before = c.args.diagnostics.now.items in
    let uses = c.add_use_faults.new.diagnostics.items in
    let place = is_body.is_place in
    let variables = ap (map variable_view) c.deref.ensures.value
    ∙ (is_body.are_variables ∙ ap (λ (p : BodyPlace). variables_of seen p.at) (sym place)) in
    let found = c.in_ok-faults.ensures seen told variables ∙ ap (λ (p : BodyPlace). body_faults seen p.at) place in
    let faults = use_entries number (body_faults seen b.at) in
    adds_both before uses c.add_passes_by_calls.new.diagnostics.items (Contains faults) (IsPassEntry calls number f b)
    (adds_list before uses faults (c.in_ok-add_use_faults.ensures
    ∙ (λ i. map entry_of before ++ use_entries (is_body.is_file i)
    ((ap (map fault_view) c.deref-2.ensures.value ∙ found) i))))
    (subst (λ (p : BodyPlace). AddsEntries uses c.add_passes_by_calls.new.diagnostics.items
    (IsEntryOf number (IsPassFault (paths_of seen (promises_in calls (has c.args.credits.now) p.at) b)))) place
    (passes number seen b told is_body)))
    c.add_passes_by_calls.ensures
