use Rattle.std.proofs.Common.{sym, ◌∙◌}
use Rattle.std.proofs.lemmas.Result.{err_from_is_err_and}
use Rattle.tree.specs.View.{expression_syntax}
use Rattle.parser_base.proofs.Faults.{is_stopped}
use Rattle.parser_base.specs.Places.{cursor, parts_of, go_text}
use Rattle.parser_parts.proofs.ConstraintTerms.{terms-run-out, terms-deep, terms-end, terms-fail, terms-more}
use Rattle.parser_parts.proofs.constraints.terms.Goals as goal

pub returns-then-not-within : goal.returns-then-not-within
returns-then-not-within g c = terms-deep (go_text c.args.source) (parts_of c.args.source) (cursor c.args.source c.args.begun.from) _ c.loop.counter (expression_syntax c.loop.grown) (cursor c.args.source c.loop.rest) _ c.loop.invariant (sym c.within.ensures ∙ c.if-not-within.true)

pub returns-then-not-stands : goal.returns-then-not-stands
returns-then-not-stands g c =
    terms-end (go_text c.args.source) (parts_of c.args.source) (cursor c.args.source c.args.begun.from) _ c.loop.counter (expression_syntax c.loop.grown) (cursor c.args.source c.loop.rest) _ c.loop.invariant c.loop-test.true (sym c.within.ensures ∙ c.if-not-within.false) (sym c.stands.ensures ∙ c.if-not-stands.true)

pub returns-in_err-longer : goal.returns-in_err-longer
returns-in_err-longer g c =
    let p = err_from_is_err_and c.from_residual.result c.from_residual.ensures.1 in
    rw (p.1, p.2) (terms-fail (go_text c.args.source) (parts_of c.args.source) (cursor c.args.source c.args.begun.from) _ c.loop.counter (expression_syntax c.loop.grown) (cursor c.args.source c.loop.rest) _ c.loop.invariant c.loop-test.true (sym c.stands.ensures ∙ c.if-not-stands.false) c.in_err-longer.field-0.0 c.in_err-longer.ensures)

pub loop-preserved : goal.loop-preserved
loop-preserved g c =
    terms-more (go_text c.args.source) (parts_of c.args.source) (cursor c.args.source c.args.begun.from) _ c.loop.counter (expression_syntax c.loop.grown) (cursor c.args.source c.loop.rest) _ c.loop.invariant c.loop-test.true (sym c.stands.ensures ∙ c.if-not-stands.false) (expression_syntax c.in_ok-longer.longer) (cursor c.args.source c.in_ok-longer.after) c.in_ok-longer.ensures

pub returns : goal.returns
returns g c = is_stopped c.unexpected.result _ (terms-run-out (go_text c.args.source) (parts_of c.args.source) (cursor c.args.source c.args.begun.from) _ c.loop.counter (expression_syntax c.loop.grown) (cursor c.args.source c.loop.rest) _ c.loop.invariant c.loop-test.false)
