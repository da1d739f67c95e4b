use Rattle.std.proofs.Common.{◌+◌, ◌<◌, ◌^◌, length, map, ap, rules, arith}
use Rattle.accepting.specs.Findings.{found_view}
use Rattle.accepting.specs.Gone.{keys_of_run}
use Rattle.accepting.proofs.GoneFindings.{gone_first, gone_next, gone_all, is_small}
use Rattle.accepting.proofs.gone_findings.gone.Goals as goal

pub loop-finding-init : goal.loop-finding-init
loop-finding-init c =
    gone_first (keys_of_run (map found_view c.args.found.now)) c.args.baseline.now c.in_ok-counts.counts
    c.in_ok-counts.ensures

pub loop-finding-preserved : goal.loop-finding-preserved
loop-finding-preserved c =
    let bs = c.args.baseline.now in
    let i = c.loop-finding.finding-index in
    let f = c.finding-item.result in
    let run = keys_of_run (map found_view c.args.found.now) in
    let size : length bs < 2 ^ 64 = search rules in
    let below : i < length bs = c.loop-finding-test.true in
    gone_next run bs i c.loop-finding.count (c.loop-finding.count + c.from.result) f c.in_ok-is_gone.field-0
    c.loop-finding.counts c.is_gone.new.counts below c.finding-item.is
    (ap (λ n. c.loop-finding.count + n) c.from.ensures)
    (λ before long are. c.in_ok-is_gone.ensures run before (omega arith) are) c.loop-finding.invariant

pub overflow_add-count : goal.overflow_add-count
overflow_add-count c =
    let size : length c.args.baseline.now < 2 ^ 64 = search rules in
    let fits = c.loop-finding.invariant.fits in
    let below = c.loop-finding-test.true in
    omega (arith, is_small c.in_ok-is_gone.field-0, c.from.ensures)

pub returns : goal.returns
returns c =
    gone_all (keys_of_run (map found_view c.args.found.now)) c.args.baseline.now c.loop-finding.finding-index
    c.loop-finding.count c.loop-finding.counts c.loop-finding-test.false c.loop-finding.invariant
