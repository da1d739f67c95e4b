use Rattle.std.proofs.Common.{sym, ◌∙◌}
use Rattle.parser_base.proofs.Faults.{is_stopped}
use Rattle.parser_base.specs.Places.{cursor, go_text}
use Rattle.parser.proofs.FileLists.{top_levels-run-out, top_levels-end, top_level-fails, top_levels-go-on}
use Rattle.parser.proofs.Refusals.{refuses}
use Rattle.parser.proofs.files.top_levels.Goals as goal

pub returns-then-is_over : goal.returns-then-is_over
returns-then-is_over g c =
    top_levels-end (go_text c.args.source) c.loop.items.items _ c.loop.counter (cursor c.args.source c.loop.rest) _ c.loop.invariant c.loop-test.true (sym c.is_over.ensures ∙ c.if-is_over.true)

pub returns-in-Err : goal.returns-in-Err
returns-in-Err g c =
    refuses c.args.source.text.now c.in-Err.stop _ _ _ c.fault_in.ensures (top_level-fails (go_text c.args.source) c.loop.items.items _ c.loop.counter (cursor c.args.source c.loop.rest) _ c.loop.invariant c.loop-test.true (sym c.is_over.ensures ∙ c.if-is_over.false) c.in-Err.stop c.in-Err.ensures) (λ e. e)

pub loop-preserved : goal.loop-preserved
loop-preserved g c =
    rw c.in-Ok-with_top_level.ensures (top_levels-go-on (go_text c.args.source) c.loop.items.items _ c.loop.counter (cursor c.args.source c.loop.rest) _ c.loop.invariant c.loop-test.true (sym c.is_over.ensures ∙ c.if-is_over.false) c.in-Ok.read.0 _ c.in-Ok.ensures)

pub returns : goal.returns
returns g c =
    refuses c.args.source.text.now c.unexpected.result _ _ _ c.fault_in-2.ensures (is_stopped c.unexpected.result _ (top_levels-run-out (go_text c.args.source) c.loop.items.items _ c.loop.counter (cursor c.args.source c.loop.rest) _ c.loop.invariant c.loop-test.false)) (λ e. e)
