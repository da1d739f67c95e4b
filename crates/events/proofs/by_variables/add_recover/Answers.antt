use Rattle.std.proofs.Common.{map, codes}
use Rattle.facts.proofs.FactParts.{on_ok}
use Rattle.meaning.specs.BodyEvents.{forbids_recover}
use Rattle.meaning.specs.Uses.{fault_at, recover_used}
use Rattle.mentions.specs.MarkViews.{body_view, mention_view}
use Rattle.tracked.specs.LocalViews.{seen_view}
use Rattle.uses.specs.OutcomeViews.{is_recover}
use Rattle.events.proofs.VariableFaults.{adds_if_both, adds_unless_both}
use Rattle.events.proofs.by_variables.add_recover.Goals as goal

pub returns-then-is_forbidden : goal.returns-then-is_forbidden
returns-then-is_forbidden c =
    let seen = seen_view c.args.file.seen.now in
    on_ok c.add_fault.result
    (adds_if_both c.args.faults.now.items (fault_at c.args.mention.now.named.at recover_used (codes "-"))
    (is_recover seen.known (mention_view c.args.mention.now))
    (forbids_recover seen.known.edition seen (map body_view c.args.bodies.now)) _ c.is_forbidden.ensures
    c.if-is_forbidden.true c.add_fault.new.faults.items)
    c.add_fault.ensures

pub returns : goal.returns
returns c =
    let seen = seen_view c.args.file.seen.now in
    adds_unless_both c.args.faults.now.items (fault_at c.args.mention.now.named.at recover_used (codes "-"))
    (is_recover seen.known (mention_view c.args.mention.now))
    (forbids_recover seen.known.edition seen (map body_view c.args.bodies.now)) _ c.is_forbidden.ensures
    c.if-is_forbidden.false
