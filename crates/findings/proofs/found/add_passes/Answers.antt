use Rattle.std.proofs.Common.{sym, subst}
use Rattle.facts.proofs.FactParts.{on_ok}
use Rattle.calls_flags.specs.KnownCalls.{known_calls}
use Rattle.credits.specs.CreditViews.{has}
use Rattle.findings.specs.FoundEntries.{AddsEntries, IsEntryOf}
use Rattle.meaning.specs.Mentions.{BodyPlace}
use Rattle.meaning_packages.specs.Credits.{Credits, promises_in}
use Rattle.meaning_packages.specs.PathFaults.{IsPassFault, paths_of}
use Rattle.findings.proofs.found.add_passes.Goals as goal

pub returns : goal.returns
returns c =
    on_ok c.add_passes_by_calls.result
    (λ added number f tells b is_body.
    let calls = known_calls c.args.calls in
    let before = c.args.diagnostics.now.items in
    let after = c.add_passes_by_calls.new.diagnostics.items in
    subst (λ (credits : Credits). AddsEntries before after
    (IsEntryOf number (IsPassFault (paths_of f.seen (promises_in calls credits b.at) b)))) (sym tells.are_credits)
    (subst (λ (p : BodyPlace). AddsEntries before after
    (IsEntryOf number (IsPassFault (paths_of f.seen (promises_in calls (has c.args.file.now.credits) p.at) b))))
    is_body.is_place (added number f.seen b tells.tells is_body)))
    c.add_passes_by_calls.ensures
