use Rattle.std.proofs.Common.{sym, ◌∙◌}
use Rattle.folders.proofs.Cuts.{ends_at, goes_on, stops_at}
use Rattle.folders.specs.CutLines.{stops}
use Rattle.folders.proofs.go_modules.first_stop.Goals as goal

pub loop-index-preserved : goal.loop-index-preserved
loop-index-preserved c =
    goes_on (stops c.args.stop) c.args.bytes.now c.loop-index.index c.loop-index-test.true
    (sym c.is_stop.ensures ∙ c.if-is_stop.false) c.loop-index.invariant

pub returns-then-is_stop-clause-place : goal.returns-then-is_stop-clause-place
returns-then-is_stop-clause-place c =
    stops_at (stops c.args.stop) c.args.bytes.now c.loop-index.index c.loop-index-test.true
    (sym c.is_stop.ensures ∙ c.if-is_stop.true) c.loop-index.invariant

pub returns-clause-place : goal.returns-clause-place
returns-clause-place c =
    ends_at (stops c.args.stop) c.args.bytes.now c.loop-index.index c.loop-index-test.false c.loop-index.invariant
