use Rattle.std.proofs.Common.{sym, ◌∙◌}
use Rattle.parser_base.proofs.Faults.{is_stopped}
use Rattle.parser_base.specs.Places.{cursor, parts_of, go_text}
use Rattle.parser_parts.proofs.ArgumentLists.{more-start, more-run-out, more-end, more-end-comma, more-fail, more-more}
use Rattle.parser_parts.proofs.indexes.more_arguments.Goals as goal

pub loop-init : goal.loop-init
loop-init g c =
    rw (c.in_ok-items.ensures, c.new.ensures.items)
    (more-start (go_text c.args.source) (parts_of c.args.source) (cursor c.args.source c.args.place) c.args.argument _ c.steps-end.ensures)

pub returns-then-not-stands : goal.returns-then-not-stands
returns-then-not-stands g c = more-end (go_text c.args.source) (parts_of c.args.source) c.loop.items.items _ c.loop.counter (cursor c.args.source c.loop.rest) _ c.loop.invariant c.loop-test.true (sym c.stands.ensures ∙ c.if-not-stands.true)

pub returns-then-stands : goal.returns-then-stands
returns-then-stands g c =
    more-end-comma (go_text c.args.source) (parts_of c.args.source) c.loop.items.items _ c.loop.counter (cursor c.args.source c.loop.rest) _ c.loop.invariant c.loop-test.true (sym c.stands.ensures ∙ c.if-not-stands.false) _ c.behind-next.ensures
    (sym c.stands-in-loop.ensures ∙ c.if-stands.true)

pub returns-in-loop : goal.returns-in-loop
returns-in-loop g c =
    more-fail (go_text c.args.source) (parts_of c.args.source) c.loop.items.items _ c.loop.counter (cursor c.args.source c.loop.rest) _ c.loop.invariant c.loop-test.true (sym c.stands.ensures ∙ c.if-not-stands.false) _ c.behind-next.ensures
    (sym c.stands-in-loop.ensures ∙ c.if-stands.false) _ c.in-Err-holding.ensures

pub loop-preserved : goal.loop-preserved
loop-preserved g c =
    rw c.in_ok-items-2.ensures (more-more (go_text c.args.source) (parts_of c.args.source) c.loop.items.items _ c.loop.counter (cursor c.args.source c.loop.rest) _ c.loop.invariant c.loop-test.true (sym c.stands.ensures ∙ c.if-not-stands.false) _ c.behind-next.ensures
    (sym c.stands-in-loop.ensures ∙ c.if-stands.false) _ _ c.in-Ok-holding.ensures)

pub returns : goal.returns
returns g c = is_stopped c.unexpected.result _ (more-run-out (go_text c.args.source) (parts_of c.args.source) c.loop.items.items _ c.loop.counter (cursor c.args.source c.loop.rest) _ c.loop.invariant c.loop-test.false)
