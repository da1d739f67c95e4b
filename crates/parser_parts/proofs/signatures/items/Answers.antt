use Rattle.std.proofs.Common.{sym, ◌∙◌}
use Rattle.tree.specs.View.{parameter_and}
use Rattle.tree_reader.specs.Reader.{read_items}
use Rattle.parser_base.proofs.Faults.{is_stopped}
use Rattle.parser_base.proofs.Growing.{starts}
use Rattle.parser_base.specs.Places.{cursor, parts_of, go_text}
use Rattle.parser_parts.proofs.ParameterLists.{items-run-out, items-end, items-fail, items-last, items-more}
use Rattle.parser_parts.proofs.signatures.items.Goals as goal

pub loop-init : goal.loop-init
loop-init g c =
    rw c.new-read.ensures.items (starts parameter_and (read_items (go_text c.args.source) (parts_of c.args.source)) _ _ (cursor c.args.source c.args.place) c.steps-end.ensures)

pub returns-then-stands : goal.returns-then-stands
returns-then-stands g c =
    items-end (go_text c.args.source) (parts_of c.args.source) c.loop.read.items _ c.loop.counter (cursor c.args.source c.loop.rest) _ c.loop.invariant c.loop-test.true (sym c.stands.ensures ∙ c.if-stands.true)

pub returns-in-loop : goal.returns-in-loop
returns-in-loop g c =
    items-fail (go_text c.args.source) (parts_of c.args.source) c.loop.read.items _ c.loop.counter (cursor c.args.source c.loop.rest) _ c.loop.invariant c.loop-test.true (sym c.stands.ensures ∙ c.if-stands.false) _ c.in-Err-holding.ensures

pub returns-then-not-stands : goal.returns-then-not-stands
returns-then-not-stands g c =
    rw c.in_ok-read.ensures (items-last (go_text c.args.source) (parts_of c.args.source) c.loop.read.items _ c.loop.counter (cursor c.args.source c.loop.rest) _ c.loop.invariant c.loop-test.true (sym c.stands.ensures ∙ c.if-stands.false) _ _ c.in-Ok-holding.ensures (sym c.stands-in-loop.ensures ∙ c.if-not-stands.true))

pub loop-preserved : goal.loop-preserved
loop-preserved g c =
    rw (c.in_ok-read.ensures, c.behind-rest.ensures) (items-more (go_text c.args.source) (parts_of c.args.source) c.loop.read.items _ c.loop.counter (cursor c.args.source c.loop.rest) _ c.loop.invariant c.loop-test.true (sym c.stands.ensures ∙ c.if-stands.false) _ _ c.in-Ok-holding.ensures (sym c.stands-in-loop.ensures ∙ c.if-not-stands.false))

pub returns : goal.returns
returns g c =
    is_stopped c.unexpected.result _ (items-run-out (go_text c.args.source) (parts_of c.args.source) c.loop.read.items _ c.loop.counter (cursor c.args.source c.loop.rest) _ c.loop.invariant c.loop-test.false)
