use Rattle.std.proofs.Common.{IfOk, map, option_map, sym, ap, ◌∙◌, subst}
use Rattle.tracked.specs.LocalViews.{entry_view, entry_of, seen_view}
use Rattle.meaning.specs.Uses.{found}
use Rattle.mentions.specs.MarkViews.{body_view, mention_view}
use Rattle.uses.specs.OutcomeViews.{Gives}
use Rattle.uses.proofs.OutcomesOfEntries.{entry_same}
use Rattle.uses.proofs.outcomes.variable_outcome.Goals as goal

pub returns-in-Some : goal.returns-in-Some
returns-in-Some c =
    let seen = seen_view c.args.at.seen.now in
    subst (λ o. IfOk c.entry_outcome.result (λ event. Gives c.args.faults.now.items c.entry_outcome.new.faults.items event o))
    (entry_same seen (map body_view c.args.at.bodies.now) (mention_view c.args.at.mention.now) (entry_view c.in-Some.entry) _
    (sym (ap (option_map entry_view) c.in-Some.is) ∙ c.entry.ensures
    ∙ ap (λ n. option_map (entry_of seen) (found seen n)) c.variable_of.ensures))
    c.entry_outcome.ensures
