use Rattle.std.proofs.Common.{map, sym, ap, ◌∙◌, subst}
use Rattle.std.proofs.lemmas.List.{map-append}
use Rattle.facts.proofs.FactParts.{on_ok}
use Rattle.body_ways.specs.BodyWays.{AreToldWays}
use Rattle.body_ways.specs.ToldViews.{told_fault_view}
use Rattle.calls_flags.specs.KnownCalls.{known_calls}
use Rattle.explanations.proofs.ToldBodies.{adds_body, adds_nothing}
use Rattle.meaning_packages.specs.Credits.{promises_in}
use Rattle.meaning_packages.specs.PathFaults.{paths_of}
use Rattle.reasons.specs.Branches.{branches_of}
use Rattle.explanations.proofs.told_ways.add_body.Goals as goal

pub returns-in_default : goal.returns-in_default
returns-in_default c = λ number f tells b is_body.
    adds_nothing (known_calls c.args.calls) f number b c.args.body.now (map told_fault_view c.args.faults.now.items)
    is_body c.in_default.is

pub returns : goal.returns
returns c =
    on_ok c.add_all.result
    (λ added number f tells b is_body.
    let calls = known_calls c.args.calls in
    let before = c.args.faults.now.items in
    let more = c.in_ok-more.more.items in
    let told = subst (λ credits. AreToldWays (paths_of f.seen (promises_in calls credits b.at) b)
    (branches_of b.statements) (map told_fault_view more)) (sym tells.are_credits)
    (c.in_ok-more.ensures number f.seen b is_body c.in-Some.is) in
    adds_body calls f b (map told_fault_view before) (map told_fault_view more)
    (map told_fault_view c.add_all.new.faults.items)
    (ap (map told_fault_view) added ∙ map-append told_fault_view before more) told)
    c.add_all.ensures
