use Rattle.std.proofs.Common.{[], take, sym, ap, ◌∙◌, subst}
use Rattle.std.proofs.lemmas.List.{take_all}
use Rattle.baseline_json.specs.BaselineValues.{entry_of}
use Rattle.accepting.specs.ByBaseline.{baseline_keys, key_in}
use Rattle.accepting.specs.KeptKeys.{left_after, one_more, AreLeft}
use Rattle.accepting.proofs.GoneFindings.{seen_next}
use Rattle.accepting.proofs.KeyCounts.{none_left, known_next}
use Rattle.accepting.proofs.baseline.baseline_counts.Goals as goal

pub loop-finding-init : goal.loop-finding-init
loop-finding-init c = none_left c.new-counts.result c.new-counts.ensures

pub loop-finding-preserved : goal.loop-finding-preserved
loop-finding-preserved c =
    let xs = c.args.baseline.now in
    let i = c.loop-finding.finding-index in
    let x = c.finding-item.result in
    let old = c.loop-finding.counts in
    subst (λ ks. AreLeft ks [] c.add.new.self)
    (sym (seen_next (λ f. key_in (entry_of f)) xs i x c.loop-finding-test.true c.finding-item.is))
    (known_next (baseline_keys (take i xs)) (key_in (entry_of x)) old c.add.new.self
    (λ k. c.in_ok-add.ensures k ∙ ap (λ q. left_after one_more old q k) c.key_in.ensures)
    c.loop-finding.invariant)

pub returns : goal.returns
returns c =
    subst (λ fs. AreLeft (baseline_keys fs) [] c.loop-finding.counts)
    (take_all c.loop-finding.finding-index c.args.baseline.now c.loop-finding-test.false)
    c.loop-finding.invariant
