use Rattle.std.proofs.Common.{sym, ◌∙◌}
use Rattle.parser_base.proofs.Faults.{is_stopped}
use Rattle.parser_base.specs.Places.{cursor, parts_of, go_text}
use Rattle.parser_parts.proofs.ElementLists.{elements-run-out, elements-end, elements-fail, elements-last, elements-more}
use Rattle.parser_parts.proofs.lists.elements.Goals as goal

pub returns-then-stands : goal.returns-then-stands
returns-then-stands g c =
    elements-end (go_text c.args.source) (parts_of c.args.source) c.loop.items.items _ c.loop.counter (cursor c.args.source c.loop.rest) _ c.loop.invariant c.loop-test.true (sym c.stands.ensures ∙ c.if-stands.true)

pub returns-in-loop : goal.returns-in-loop
returns-in-loop g c =
    elements-fail (go_text c.args.source) (parts_of c.args.source) c.loop.items.items _ c.loop.counter (cursor c.args.source c.loop.rest) _ c.loop.invariant c.loop-test.true _ (sym c.stands.ensures ∙ c.if-stands.false) c.in-Err-holding.ensures

pub returns-then-not-stands : goal.returns-then-not-stands
returns-then-not-stands g c =
    rw c.in_ok-items.ensures (elements-last (go_text c.args.source) (parts_of c.args.source) c.loop.items.items _ c.loop.counter (cursor c.args.source c.loop.rest) _ c.loop.invariant c.loop-test.true (sym c.stands.ensures ∙ c.if-stands.false) _ _ c.in-Ok-holding.ensures (sym c.stands-in-loop.ensures ∙ c.if-not-stands.true))

pub loop-preserved : goal.loop-preserved
loop-preserved g c =
    rw (c.in_ok-items.ensures, c.behind-rest.ensures) (elements-more (go_text c.args.source) (parts_of c.args.source) c.loop.items.items _ c.loop.counter (cursor c.args.source c.loop.rest) _ c.loop.invariant c.loop-test.true (sym c.stands.ensures ∙ c.if-stands.false) _ _ c.in-Ok-holding.ensures (sym c.stands-in-loop.ensures ∙ c.if-not-stands.false))

pub returns : goal.returns
returns g c =
    is_stopped c.unexpected.result _ (elements-run-out (go_text c.args.source) (parts_of c.args.source) c.loop.items.items _ c.loop.counter (cursor c.args.source c.loop.rest) _ c.loop.invariant c.loop-test.false)
