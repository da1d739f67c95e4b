use Rattle.std.proofs.lemmas.Result.{err_from_is_err_and}
use Rattle.tree.specs.View.{expression_syntax}
use Rattle.tree_reader.specs.Reader.{read_suffixes}
use Rattle.tree_reader.specs.Reading.{steps}
use Rattle.parser_base.proofs.Faults.{is_stopped}
use Rattle.parser_base.specs.Places.{cursor, parts_of, go_text}
use Rattle.parser_expressions.proofs.Suffixes.{suffixes-run-out, suffixes-end, suffixes-too-deep, suffixes-fail, suffixes-more}
use Rattle.parser_expressions.proofs.primaries.suffixes.Goals as goal

pub returns-then-not-goes_on : goal.returns-then-not-goes_on
returns-then-not-goes_on g c =
    suffixes-end (go_text c.args.source) (parts_of c.args.source) c.args.source.below c.args.header (cursor c.args.source c.args.begun.from) _ c.loop.counter (expression_syntax c.loop.grown) (cursor c.args.source c.loop.rest) _ c.loop.invariant c.loop-test.true _ c.goes_on.ensures c.if-not-goes_on.true

pub returns-then-not-fits : goal.returns-then-not-fits
returns-then-not-fits g c =
    suffixes-too-deep (go_text c.args.source) (parts_of c.args.source) c.args.source.below c.args.header (cursor c.args.source c.args.begun.from) _ c.loop.counter (expression_syntax c.loop.grown) (cursor c.args.source c.loop.rest) _ c.loop.invariant c.loop-test.true _ c.goes_on.ensures c.if-not-goes_on.false _ c.fits.ensures c.if-not-fits.true

pub returns-in_err-longer : goal.returns-in_err-longer
returns-in_err-longer g c =
    let p = err_from_is_err_and c.from_residual.result c.from_residual.ensures.1 in
    rw (p.1, p.2) (suffixes-fail (go_text c.args.source) (parts_of c.args.source) c.args.source.below c.args.header (cursor c.args.source c.args.begun.from) _ c.loop.counter (expression_syntax c.loop.grown) (cursor c.args.source c.loop.rest) (read_suffixes (go_text c.args.source) (parts_of c.args.source) c.args.source.below c.args.header (cursor c.args.source c.args.begun.from) (steps (cursor c.args.source c.args.begun.place)) (expression_syntax c.args.begun.first) (cursor c.args.source c.args.begun.place)) c.loop.invariant c.loop-test.true _ c.goes_on.ensures c.if-not-goes_on.false _ c.fits.ensures c.if-not-fits.false c.in_err-longer.field-0.0 c.in_err-longer.ensures)

pub loop-preserved : goal.loop-preserved
loop-preserved g c =
    suffixes-more (go_text c.args.source) (parts_of c.args.source) c.args.source.below c.args.header (cursor c.args.source c.args.begun.from) _ c.loop.counter (expression_syntax c.loop.grown) (cursor c.args.source c.loop.rest) _ c.loop.invariant c.loop-test.true _ c.goes_on.ensures c.if-not-goes_on.false _ c.fits.ensures c.if-not-fits.false (expression_syntax c.in_ok-longer.longer) (cursor c.args.source c.in_ok-longer.after) c.in_ok-longer.ensures

pub returns : goal.returns
returns g c =
    is_stopped c.unexpected.result _ (suffixes-run-out (go_text c.args.source) (parts_of c.args.source) c.args.source.below c.args.header (cursor c.args.source c.args.begun.from) _ c.loop.counter (expression_syntax c.loop.grown) (cursor c.args.source c.loop.rest) _ c.loop.invariant c.loop-test.false)
