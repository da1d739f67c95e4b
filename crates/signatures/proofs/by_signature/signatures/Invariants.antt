use Rattle.std.proofs.Common.{◌≡◌, ℕ, List, map, drop}
use Rattle.meaning.specs.FunctionFacts.{facts_from}
use Rattle.meaning.specs.OuterBlocks.{or_else}
use Rattle.names.specs.Answers.{declared_at}
use Rattle.tree.specs.View.{file_syntax}
use Rattle.facts.specs.FactViews.{facts_by_name}
use Rattle.signatures.proofs.by_signature.signatures.Given as goal

abbrev pub invariant-loop-number : goal.invariant-loop-number
invariant-loop-number l =
    (n : List ℕ)
    → or_else (facts_by_name l.table n)
    (facts_from l.edition (declared_at l.names) n l.number (map file_syntax (drop l.number l.files)))
    ≡ facts_from l.edition (declared_at l.names) n 0 (map file_syntax l.files)
