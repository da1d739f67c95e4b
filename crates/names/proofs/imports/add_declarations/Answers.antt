use Rattle.std.proofs.Common.{map, ap, ◌∙◌}
use Rattle.meaning.specs.OuterBlocks.{or_else, import_among, specs_of}
use Rattle.names.specs.Answers.{names_by_path, text_at}
use Rattle.names.specs.Maps.{chosen_path}
use Rattle.tree.specs.View.{import_spec_syntax, import_syntax}
use Rattle.names.proofs.Adding.{goes_on}
use Rattle.names.proofs.ImportNames.{import_among-append}
use Rattle.names.proofs.imports.add_declarations.Goals as goal

pub loop-declaration-preserved : goal.loop-declaration-preserved
loop-declaration-preserved c = λ n.
    let among = import_among (chosen_path c.args.only_first) (names_by_path c.args.packages.now) n in
    goes_on (λ xs. among (specs_of (map import_syntax xs))) _ c.args.declarations.now
    c.loop-declaration.declaration-index c.declaration-item.result c.loop-declaration-test.true c.declaration-item.is
    (import_among-append (chosen_path c.args.only_first) (names_by_path c.args.packages.now) n _ _) _ _ _
    (c.in_ok-add_imports.ensures n
    ∙ ap (λ l. or_else (text_at c.loop-declaration.imports n) (among (map import_spec_syntax l))) c.deref.ensures.value)
    (c.loop-declaration.invariant n)
