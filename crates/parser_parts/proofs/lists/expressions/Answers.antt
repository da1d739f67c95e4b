use Rattle.std.proofs.Common.{sym, ◌∙◌}
use Rattle.parser_base.proofs.Faults.{is_stopped}
use Rattle.parser_base.specs.Places.{cursor, parts_of, go_text}
use Rattle.parser_parts.proofs.ExpressionLists.{expressions-run-out, expressions-end, expressions-fail, expressions-more}
use Rattle.parser_parts.proofs.lists.expressions.Goals as goal

pub returns-then-not-stands : goal.returns-then-not-stands
returns-then-not-stands g c =
    expressions-end (go_text c.args.source) (parts_of c.args.source) c.args.header c.loop.items.items _ c.loop.counter (cursor c.args.source c.loop.rest) _ c.loop.invariant c.loop-test.true (sym c.stands.ensures ∙ c.if-not-stands.true)

pub returns-in-loop : goal.returns-in-loop
returns-in-loop g c =
    expressions-fail (go_text c.args.source) (parts_of c.args.source) c.args.header c.loop.items.items _ c.loop.counter (cursor c.args.source c.loop.rest) _ c.loop.invariant c.loop-test.true _ (sym c.stands.ensures ∙ c.if-not-stands.false) (rw c.behind-next.ensures at c.in-Err-holding.ensures)

pub loop-preserved : goal.loop-preserved
loop-preserved g c =
    rw c.in_ok-items-2.ensures (expressions-more (go_text c.args.source) (parts_of c.args.source) c.args.header c.loop.items.items _ c.loop.counter (cursor c.args.source c.loop.rest) _ c.loop.invariant c.loop-test.true (sym c.stands.ensures ∙ c.if-not-stands.false) _ _ (rw c.behind-next.ensures at c.in-Ok-holding.ensures))

pub returns : goal.returns
returns g c =
    is_stopped c.unexpected.result _ (expressions-run-out (go_text c.args.source) (parts_of c.args.source) c.args.header c.loop.items.items _ c.loop.counter (cursor c.args.source c.loop.rest) _ c.loop.invariant c.loop-test.false)
