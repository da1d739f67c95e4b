use Rattle.std.proofs.Common.{map, ap, ◌∙◌}
use Rattle.meaning.specs.OuterBlocks.{or_else, declarations_at_package_level, package_block}
use Rattle.names.specs.Answers.{at_name}
use Rattle.names.specs.Maps.{is_function_in}
use Rattle.tree.specs.View.{top_level_syntax, file_syntax}
use Rattle.names.proofs.Adding.{goes_on, is_function_in-append}
use Rattle.names.proofs.package_block.package_block.Goals as goal

pub loop-file-preserved : goal.loop-file-preserved
loop-file-preserved c = λ n.
    goes_on (λ xs. is_function_in (package_block (map file_syntax xs)) n) _ c.args.files.now c.loop-file.file-index
    c.file-item.result c.loop-file-test.true c.file-item.is (is_function_in-append _ _ n) _ _ _
    (c.in_ok-add_declarations.ensures n
    ∙ ap (λ l. or_else (at_name c.loop-file.block n) (is_function_in (declarations_at_package_level (map top_level_syntax l)) n))
    c.deref.ensures.value)
    (c.loop-file.invariant n)
