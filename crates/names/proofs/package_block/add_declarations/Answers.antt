use Rattle.std.proofs.Common.{map}
use Rattle.meaning.specs.OuterBlocks.{declarations_at_package_level}
use Rattle.names.specs.Maps.{is_function_in}
use Rattle.tree.specs.View.{top_level_syntax}
use Rattle.names.proofs.Adding.{goes_on, is_function_in-append}
use Rattle.names.proofs.package_block.add_declarations.Goals as goal

pub loop-declaration-preserved : goal.loop-declaration-preserved
loop-declaration-preserved c = λ n.
    goes_on (λ xs. is_function_in (declarations_at_package_level (map top_level_syntax xs)) n) _ c.args.declarations.now
    c.loop-declaration.declaration-index c.declaration-item.result c.loop-declaration-test.true c.declaration-item.is
    (is_function_in-append _ _ n) _ _ _ (c.in_ok-add_declaration.ensures n) (c.loop-declaration.invariant n)
