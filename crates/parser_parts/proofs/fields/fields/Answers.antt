use Rattle.std.proofs.Common.{sym, ◌∙◌, if◌then◌else◌}
use Rattle.meaning.specs.Grammar.{of_struct, of_interface}
use Rattle.parser_base.proofs.Faults.{is_stopped}
use Rattle.parser_base.specs.Places.{cursor, parts_of, go_text}
use Rattle.parser_parts.proofs.FieldLists.{fields-run-out, fields-end, fields-fail, fields-not-ended, fields-more}
use Rattle.parser_parts.proofs.fields.fields.Goals as goal

pub returns : goal.returns
returns g c =
    is_stopped c.unexpected.result _ (fields-run-out (go_text c.args.source) (parts_of c.args.source) (if c.args.is_struct then of_struct else of_interface) c.loop.items.items _ c.loop.counter (cursor c.args.source c.loop.rest) _ c.loop.invariant c.loop-test.false)

pub returns-then-stands : goal.returns-then-stands
returns-then-stands g c =
    fields-end (go_text c.args.source) (parts_of c.args.source) (if c.args.is_struct then of_struct else of_interface) c.loop.items.items _ c.loop.counter (cursor c.args.source c.loop.rest) _ c.loop.invariant c.loop-test.true (sym c.stands.ensures ∙ c.if-stands.true)

pub returns-in-loop : goal.returns-in-loop
returns-in-loop g c =
    fields-fail (go_text c.args.source) (parts_of c.args.source) (if c.args.is_struct then of_struct else of_interface) c.loop.items.items _ c.loop.counter (cursor c.args.source c.loop.rest) _ c.loop.invariant c.loop-test.true (sym c.stands.ensures ∙ c.if-stands.false) _ c.in-Err-holding.ensures

pub returns-in-loop-2 : goal.returns-in-loop-2
returns-in-loop-2 g c =
    fields-not-ended (go_text c.args.source) (parts_of c.args.source) (if c.args.is_struct then of_struct else of_interface) c.loop.items.items _ c.loop.counter (cursor c.args.source c.loop.rest) _ c.loop.invariant c.loop-test.true (sym c.stands.ensures ∙ c.if-stands.false) _ _ c.in-Ok-holding.ensures _ c.in-Err-holding-rest.ensures

pub loop-preserved : goal.loop-preserved
loop-preserved g c =
    rw c.in_ok-items.ensures (fields-more (go_text c.args.source) (parts_of c.args.source) (if c.args.is_struct then of_struct else of_interface) c.loop.items.items _ c.loop.counter (cursor c.args.source c.loop.rest) _ c.loop.invariant c.loop-test.true (sym c.stands.ensures ∙ c.if-stands.false) _ _ c.in-Ok-holding.ensures _ c.in-Ok-holding-rest.ensures)
