use Rattle.std.proofs.Common.{◌++◌, map, ap, ◌∙◌}
use Rattle.facts.proofs.FactParts.{on_ok}
use Rattle.called_parameters.specs.Called.{is_called}
use Rattle.calls_flags.specs.KnownCalls.{known_calls}
use Rattle.credits.specs.CreditViews.{has}
use Rattle.findings.specs.FoundEntries.{use_entries}
use Rattle.report.specs.Entries.{entry_of}
use Rattle.uses.specs.OutcomeViews.{fault_view}
use Rattle.verifier.proofs.SaidParts.{says_all}
use Rattle.verifier.proofs.said.add_file.Goals as goal

pub returns : goal.returns
returns c =
    on_ok c.add_bodies.result
    (λ bodies seen told tell g given.
    let own = is_called c.args.grounds.calls.own.now in
    let calls = known_calls c.args.grounds.calls in
    let certified = c.certify_bodies.new.diagnostics.items in
    says_all g own calls c.args.number seen (has c.in_ok-credits.credits) c.args.diagnostics.now.items certified
    c.add_use_faults.new.diagnostics.items c.add_bodies.new.diagnostics.items
    (c.in_ok-credits.ensures.given c.args.number seen told tell g given)
    (c.in_ok-credits.ensures.said c.args.number seen told tell g given)
    (c.in_ok-add_use_faults.ensures
    ∙ ap (λ fs. map entry_of certified ++ use_entries c.args.number fs)
    (ap (map fault_view) c.deref.ensures.value ∙ told.outer))
    (bodies c.args.number seen told tell))
    c.add_bodies.ensures
