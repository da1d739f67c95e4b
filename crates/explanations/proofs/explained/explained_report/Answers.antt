use Rattle.std.proofs.Common.{◌≡◌, map, ◌∙◌}
use Rattle.explanations.proofs.PackageWays.{are_told}
use Rattle.explanations.proofs.UseNotes.{have_use_notes}
use Rattle.explanations.specs.KeptUses.{uses_view}
use Rattle.explanations.specs.ToldViews.{ways_view}
use Rattle.report.specs.Notes.{plain_of}
use Rattle.explanations.proofs.explained.explained_report.Goals as goal

pub returns-clause-notes : goal.returns-clause-notes
returns-clause-notes c = λ declared ps tables i p found are.
    let own = c.args.report.now in
    let sources = own.sources.now in
    let reasons = c.args.reasons in
    let ds = own.diagnostics.items in
    let explained = c.in_ok-diagnostics.diagnostics.items in
    let same : plain_of explained ≡ ds = c.in_ok-diagnostics.ensures.plain ∙ c.deref.ensures.value in
    record {
      ways = are_told declared ps tables i sources (ways_view reasons.ways.items) ds explained
          (λ asks none. (are none).ways asks) found same c.in_ok-diagnostics.ensures.ways;
      uses = have_use_notes declared ps tables i p sources (map uses_view reasons.uses.items) ds explained
          (λ none. (are none).uses) found same c.in_ok-diagnostics.ensures.uses;
    }
