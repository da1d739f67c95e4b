use Rattle.meaning.specs.OuterBlocks.{specs_at_package_level}
use Rattle.names.specs.Maps.{is_function_in}
use Rattle.tree.specs.View.{specs_syntax}
use Rattle.names.proofs.Adding.{goes_on}
use Rattle.names.proofs.LevelNames.{specs_more}
use Rattle.names.proofs.package_block.add_specs.Goals as goal

pub loop-spec-preserved : goal.loop-spec-preserved
loop-spec-preserved c = λ n.
    goes_on (λ xs. is_function_in (specs_at_package_level (specs_syntax xs)) n) _ c.args.specs.now
    c.loop-spec.spec-index c.spec-item.result c.loop-spec-test.true c.spec-item.is (specs_more _ _ n) _ _ _
    (c.in_ok-add_spec.ensures n) (c.loop-spec.invariant n)
