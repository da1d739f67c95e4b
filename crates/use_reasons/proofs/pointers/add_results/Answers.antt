use Rattle.std.proofs.Common.{sym, ◌∙◌}
use Rattle.std.proofs.lemmas.List.{at_drop_all}
use Rattle.meaning.specs.OuterBlocks.{or_else}
use Rattle.meaning.specs.Scopes.{parameters_named}
use Rattle.names.proofs.Adding.{goes_on, or_else-none}
use Rattle.tree.specs.View.{parameters_syntax}
use Rattle.use_reasons.specs.ReasonViews.{reason_in}
use Rattle.use_reasons.specs.UseReasons.{result_named}
use Rattle.use_reasons.proofs.FirstReasons.{results_more}
use Rattle.use_reasons.proofs.pointers.add_results.Goals as goal

pub loop-item-preserved : goal.loop-item-preserved
loop-item-preserved c = λ n.
    goes_on (λ ps. result_named n (parameters_named (parameters_syntax ps))) _ c.args.results.now c.loop-item.item-index
    c.item-item.result c.loop-item-test.true c.item-item.is (results_more n c.item-item.result _)
    (reason_in c.loop-item.pointers n) (reason_in c.add_result.new.pointers n) _ (c.in_ok-add_result.ensures n)
    (c.loop-item.invariant n)

pub returns : goal.returns
returns c = λ n.
    sym
    (at_drop_all
    (λ ps. or_else (reason_in c.loop-item.pointers n) (result_named n (parameters_named (parameters_syntax ps))))
    c.args.results.now c.loop-item.item-index c.loop-item-test.false
    ∙ or_else-none (reason_in c.loop-item.pointers n))
    ∙ c.loop-item.invariant n
