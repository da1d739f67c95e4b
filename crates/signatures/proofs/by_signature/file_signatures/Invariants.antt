use Rattle.std.proofs.Common.{◌≡◌, ℕ, List, map, drop}
use Rattle.meaning.specs.FunctionFacts.{facts_in}
use Rattle.meaning.specs.OuterBlocks.{or_else}
use Rattle.tree.specs.View.{top_level_syntax}
use Rattle.facts.specs.FactViews.{facts_by_name}
use Rattle.signatures.specs.Meanings.{meanings_of}
use Rattle.signatures.proofs.by_signature.file_signatures.Given as goal

abbrev pub invariant-loop-declaration : goal.invariant-loop-declaration
invariant-loop-declaration l =
    (n : List ℕ)
    → or_else (facts_by_name l.table n)
    (facts_in l.told.edition (meanings_of l.told) n (map top_level_syntax (drop l.declaration-index l.declarations)))
    ≡ or_else (facts_by_name l.initial.table n)
    (facts_in l.told.edition (meanings_of l.told) n (map top_level_syntax l.declarations))
