use Rattle.std.proofs.Common.{◌++◌, ◌⊎◌, Contains, map, sym, ap, ◌∙◌}
use Rattle.facts.proofs.FactParts.{on_ok}
use Rattle.findings.proofs.FoundParts.{adds_list, adds_both}
use Rattle.findings.specs.FoundEntries.{use_entries, IsPassEntry, IsFollowedPathEntry}
use Rattle.calls_flags.specs.KnownCalls.{known_calls}
use Rattle.meaning.specs.BodyEvents.{body_faults}
use Rattle.meaning.specs.Mentions.{BodyPlace}
use Rattle.report.specs.Entries.{entry_of}
use Rattle.uses.specs.OutcomeViews.{fault_view}
use Rattle.events.specs.VariableViews.{variable_view}
use Rattle.meaning.specs.BodyEvents.{variables_of}
use Rattle.findings.proofs.found.add_body.Goals as goal

pub returns : goal.returns
returns c =
    on_ok c.add_paths.result
    (λ paths number f tells b is_body.
    let calls = known_calls c.args.calls in
    let before = c.args.diagnostics.now.items in
    let uses = c.add_use_faults.new.diagnostics.items in
    let passes = c.add_passes.new.diagnostics.items in
    let place = is_body.is_place in
    let told = ap (map variable_view) c.deref.ensures.value
    ∙ (is_body.are_variables ∙ ap (λ (p : BodyPlace). variables_of f.seen p.at) (sym place)) in
    let found = c.in_ok-faults.ensures f.seen tells.tells told
    ∙ ap (λ (p : BodyPlace). body_faults f.seen p.at) place in
    let faults = use_entries number (body_faults f.seen b.at) in
    adds_both before passes c.add_paths.new.diagnostics.items
    (λ x. Contains faults x ⊎ IsPassEntry calls number f b x) (IsFollowedPathEntry calls number f b)
    (adds_both before uses passes (Contains faults) (IsPassEntry calls number f b)
    (adds_list before uses faults (c.in_ok-add_use_faults.ensures
    ∙ (λ i. map entry_of before ++ use_entries (is_body.is_file i)
    ((ap (map fault_view) c.deref-2.ensures.value ∙ found) i))))
    (c.in_ok-add_passes.ensures number f tells b is_body))
    (paths number f tells b is_body))
    c.add_paths.ensures
