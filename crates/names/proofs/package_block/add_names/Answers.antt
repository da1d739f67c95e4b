use Rattle.std.proofs.Common.{map}
use Rattle.meaning.specs.OuterBlocks.{names_at_package_level}
use Rattle.names.specs.Maps.{is_function_in}
use Rattle.tree.specs.View.{identifier_syntax}
use Rattle.names.proofs.Adding.{goes_on, is_function_in-append}
use Rattle.names.proofs.package_block.add_names.Goals as goal

pub loop-name-preserved : goal.loop-name-preserved
loop-name-preserved c = λ n.
    goes_on (λ xs. is_function_in (names_at_package_level (map identifier_syntax xs)) n) _ c.args.names.now
    c.loop-name.name-index c.name-item.result c.loop-name-test.true c.name-item.is (is_function_in-append _ _ n) _ _ _
    (c.in_ok-add_name.ensures n) (c.loop-name.invariant n)
