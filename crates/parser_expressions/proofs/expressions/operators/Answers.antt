use Rattle.std.proofs.lemmas.Result.{err_from_is_err_and}
use Rattle.tree.specs.View.{expression_syntax}
use Rattle.tree_reader.specs.Reader.{read_operators}
use Rattle.tree_reader.specs.Reading.{steps}
use Rattle.parser_base.proofs.Faults.{is_stopped}
use Rattle.parser_base.specs.Places.{cursor, parts_of, go_text}
use Rattle.parser_expressions.proofs.Operators.{operators-run-out, operators-end, operators-too-deep, operators-fail, operators-more}
use Rattle.parser_expressions.proofs.expressions.operators.Goals as goal

pub returns-in-None : goal.returns-in-None
returns-in-None g c =
    operators-end (go_text c.args.source) (parts_of c.args.source) c.args.source.below c.args.wanted.in_header c.args.wanted.least (cursor c.args.source c.args.begun.from) _ c.loop.counter (expression_syntax c.loop.grown) (cursor c.args.source c.loop.rest) _ c.loop.invariant c.loop-test.true c.in-None.ensures

pub returns-then-not-fits : goal.returns-then-not-fits
returns-then-not-fits g c =
    operators-too-deep (go_text c.args.source) (parts_of c.args.source) c.args.source.below c.args.wanted.in_header c.args.wanted.least (cursor c.args.source c.args.begun.from) _ c.loop.counter (expression_syntax c.loop.grown) (cursor c.args.source c.loop.rest) _ c.loop.invariant c.loop-test.true c.in-Some.operator c.in-Some.ensures _ c.fits.ensures c.if-not-fits.true

pub returns-in_err-longer : goal.returns-in_err-longer
returns-in_err-longer g c =
    let p = err_from_is_err_and c.from_residual.result c.from_residual.ensures.1 in
    rw (p.1, p.2) (operators-fail (go_text c.args.source) (parts_of c.args.source) c.args.source.below c.args.wanted.in_header c.args.wanted.least (cursor c.args.source c.args.begun.from) _ c.loop.counter (expression_syntax c.loop.grown) (cursor c.args.source c.loop.rest) (read_operators (go_text c.args.source) (parts_of c.args.source) c.args.source.below c.args.wanted.in_header c.args.wanted.least (cursor c.args.source c.args.begun.from) (steps (cursor c.args.source c.args.begun.place)) (expression_syntax c.args.begun.first) (cursor c.args.source c.args.begun.place)) c.loop.invariant c.loop-test.true c.in-Some.operator c.in-Some.ensures _ c.fits.ensures c.if-not-fits.false c.in_err-longer.field-0.0 c.in_err-longer.ensures)

pub loop-preserved : goal.loop-preserved
loop-preserved g c =
    operators-more (go_text c.args.source) (parts_of c.args.source) c.args.source.below c.args.wanted.in_header c.args.wanted.least (cursor c.args.source c.args.begun.from) _ c.loop.counter (expression_syntax c.loop.grown) (cursor c.args.source c.loop.rest) _ c.loop.invariant c.loop-test.true c.in-Some.operator c.in-Some.ensures _ c.fits.ensures c.if-not-fits.false (expression_syntax c.in_ok-longer.longer) (cursor c.args.source c.in_ok-longer.after) c.in_ok-longer.ensures

pub returns : goal.returns
returns g c =
    is_stopped c.unexpected.result _ (operators-run-out (go_text c.args.source) (parts_of c.args.source) c.args.source.below c.args.wanted.in_header c.args.wanted.least (cursor c.args.source c.args.begun.from) _ c.loop.counter (expression_syntax c.loop.grown) (cursor c.args.source c.loop.rest) _ c.loop.invariant c.loop-test.false)
