use Rattle.std.proofs.Common.{sym, ◌∙◌}
use Rattle.parser_base.proofs.Faults.{is_stopped}
use Rattle.parser_base.specs.Places.{cursor, parts_of, go_text}
use Rattle.parser_parts.proofs.StatementLists.{statements-run-out, statements-end, statement-fails, statement-unended, statements-more}
use Rattle.parser_parts.proofs.blocks.statement_list.Goals as goal

pub returns-then-ends_statements : goal.returns-then-ends_statements
returns-then-ends_statements g c =
    statements-end (go_text c.args.source) (parts_of c.args.source) c.loop.items.items _ c.loop.counter (cursor c.args.source c.loop.rest) _ c.loop.invariant c.loop-test.true (cursor c.args.source c.skip_semicolons-first.result) c.skip_semicolons-first.ensures (sym c.ends_statements.ensures ∙ c.if-ends_statements.true)

pub returns-in-loop : goal.returns-in-loop
returns-in-loop g c =
    statement-fails (go_text c.args.source) (parts_of c.args.source) c.loop.items.items _ c.loop.counter (cursor c.args.source c.loop.rest) _ c.loop.invariant c.loop-test.true (cursor c.args.source c.skip_semicolons-first.result) c.skip_semicolons-first.ensures (sym c.ends_statements.ensures ∙ c.if-ends_statements.false) _ c.in-Err-holding.ensures

pub returns-in-loop-2 : goal.returns-in-loop-2
returns-in-loop-2 g c =
    statement-unended (go_text c.args.source) (parts_of c.args.source) c.loop.items.items _ c.loop.counter (cursor c.args.source c.loop.rest) _ c.loop.invariant c.loop-test.true (cursor c.args.source c.skip_semicolons-first.result) c.skip_semicolons-first.ensures (sym c.ends_statements.ensures ∙ c.if-ends_statements.false) _ _ c.in-Ok-holding.ensures _ c.in-Err-holding-rest.ensures

pub loop-preserved : goal.loop-preserved
loop-preserved g c =
    rw c.in_ok-items.ensures (statements-more (go_text c.args.source) (parts_of c.args.source) c.loop.items.items _ c.loop.counter (cursor c.args.source c.loop.rest) _ c.loop.invariant c.loop-test.true (cursor c.args.source c.skip_semicolons-first.result) c.skip_semicolons-first.ensures (sym c.ends_statements.ensures ∙ c.if-ends_statements.false) _ _ c.in-Ok-holding.ensures _ c.in-Ok-holding-rest.ensures)

pub returns : goal.returns
returns g c =
    is_stopped c.unexpected.result _ (statements-run-out (go_text c.args.source) (parts_of c.args.source) c.loop.items.items _ c.loop.counter (cursor c.args.source c.loop.rest) _ c.loop.invariant c.loop-test.false)
