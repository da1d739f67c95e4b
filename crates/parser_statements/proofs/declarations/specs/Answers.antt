use Rattle.std.proofs.Common.{sym, ◌∙◌}
use Rattle.tree.specs.View.{spec_and}
use Rattle.tree_reader.specs.Reader.{read_specs}
use Rattle.parser_base.proofs.Faults.{is_stopped}
use Rattle.parser_base.proofs.Growing.{starts}
use Rattle.parser_base.specs.Places.{cursor, parts_of, go_text}
use Rattle.parser_statements.proofs.SpecLists.{specs-run-out, specs-end, specs-fail, specs-stop, specs-more}
use Rattle.parser_statements.proofs.declarations.specs.Goals as goal

pub loop-init : goal.loop-init
loop-init g c =
    rw c.new-read.ensures.items
    (starts spec_and (read_specs (go_text c.args.source) (parts_of c.args.source) c.args.keyword)
    _ _ (cursor c.args.source c.args.place) c.steps-end.ensures)

pub returns-then-stands : goal.returns-then-stands
returns-then-stands g c =
    specs-end (go_text c.args.source) (parts_of c.args.source) c.args.keyword
    c.loop.read.items _ c.loop.counter (cursor c.args.source c.loop.rest) _ c.loop.invariant c.loop-test.true
    (sym c.stands.ensures ∙ c.if-stands.true)

pub returns-in-loop : goal.returns-in-loop
returns-in-loop g c =
    specs-fail (go_text c.args.source) (parts_of c.args.source) c.args.keyword
    c.loop.read.items _ c.loop.counter (cursor c.args.source c.loop.rest) _ c.loop.invariant c.loop-test.true
    (sym c.stands.ensures ∙ c.if-stands.false) _ c.in-Err-holding.ensures

pub returns-in-loop-2 : goal.returns-in-loop-2
returns-in-loop-2 g c =
    specs-stop (go_text c.args.source) (parts_of c.args.source) c.args.keyword
    c.loop.read.items _ c.loop.counter (cursor c.args.source c.loop.rest) _ c.loop.invariant c.loop-test.true
    (sym c.stands.ensures ∙ c.if-stands.false) _ _ c.in-Ok-holding.ensures _ c.in-Err-holding-after.ensures

pub loop-preserved : goal.loop-preserved
loop-preserved g c =
    rw c.in_ok-read.ensures
    (specs-more (go_text c.args.source) (parts_of c.args.source) c.args.keyword
    c.loop.read.items _ c.loop.counter (cursor c.args.source c.loop.rest) _ c.loop.invariant c.loop-test.true
    (sym c.stands.ensures ∙ c.if-stands.false) _ _ c.in-Ok-holding.ensures _ c.in-Ok-holding-after.ensures)

pub returns : goal.returns
returns g c =
    is_stopped c.unexpected.result _
    (specs-run-out (go_text c.args.source) (parts_of c.args.source) c.args.keyword
    c.loop.read.items _ c.loop.counter (cursor c.args.source c.loop.rest) _ c.loop.invariant c.loop-test.false)
