use Rattle.std.proofs.Common.{map, drop, ◌+◌}
use Rattle.meaning.specs.FunctionFacts.{facts_in}
use Rattle.names.proofs.Adding.{goes_on}
use Rattle.tree.specs.View.{top_level_syntax}
use Rattle.signatures.specs.Meanings.{meanings_of}
use Rattle.facts.proofs.FactParts.{facts_split}
use Rattle.signatures.proofs.by_signature.file_signatures.Goals as goal

pub loop-declaration-preserved : goal.loop-declaration-preserved
loop-declaration-preserved c = λ n.
    goes_on (λ xs. facts_in c.args.told.edition (meanings_of c.args.told) n (map top_level_syntax xs)) _ c.args.declarations.now
    c.loop-declaration.declaration-index c.declaration-item.result c.loop-declaration-test.true c.declaration-item.is
    (facts_split c.args.told.edition (meanings_of c.args.told) (top_level_syntax c.declaration-item.result)
    (map top_level_syntax (drop (c.loop-declaration.declaration-index + 1) c.args.declarations.now)) n) _ _ _ (c.in_ok-add_declaration.ensures n) (c.loop-declaration.invariant n)
