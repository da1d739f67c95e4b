use Rattle.std.proofs.Common.{◌++◌, ◌⊎◌, Contains, map, ap, ◌∙◌}
use Rattle.facts.proofs.FactParts.{on_ok}
use Rattle.findings.proofs.FoundParts.{adds_list, adds_both, adds_so, file_finding}
use Rattle.findings.specs.FoundEntries.{use_entries, IsEntryOfBodies}
use Rattle.calls_flags.specs.KnownCalls.{known_calls}
use Rattle.meaning.specs.BodyEvents.{outer_faults, bodies_of}
use Rattle.report.specs.Entries.{entry_of}
use Rattle.uses.specs.OutcomeViews.{fault_view}
use Rattle.meaning_reports.specs.PackageReports.{IsFileFinding}
use Rattle.findings.proofs.found.add_file.Goals as goal

pub returns : goal.returns
returns c =
    on_ok c.add_bodies.result
    (λ bodies f tells.
    let calls = known_calls c.args.calls in
    let before = c.args.diagnostics.now.items in
    let uses = c.add_use_faults.new.diagnostics.items in
    let after = c.add_bodies.new.diagnostics.items in
    let faults = use_entries c.args.number (outer_faults f.seen) in
    adds_so before after (λ x. Contains faults x ⊎ IsEntryOfBodies calls c.args.number f (bodies_of f.seen) x)
    (IsFileFinding calls c.args.number f) (file_finding calls c.args.number f)
    (adds_both before uses after (Contains faults) (IsEntryOfBodies calls c.args.number f (bodies_of f.seen))
    (adds_list before uses faults (c.in_ok-add_use_faults.ensures
    ∙ ap (λ fs. map entry_of before ++ use_entries c.args.number fs)
    (ap (map fault_view) c.deref.ensures.value ∙ tells.tells.outer)))
    (bodies c.args.number f tells)))
    c.add_bodies.ensures
