use Rattle.std.proofs.Common.{◌≡◌, ◌++◌, map, drop}
use Rattle.meaning.specs.FunctionFacts.{error_results}
use Rattle.facts.specs.FactViews.{item_view}
use Rattle.signatures.specs.Meanings.{meanings_of}
use Rattle.signatures.proofs.unless.error_results.Given as goal

-- what was found with what the rest has is the whole
abbrev pub invariant-loop-position : goal.invariant-loop-position
invariant-loop-position l =
    l.errors.items ++ error_results (meanings_of l.told) l.position (map item_view (drop l.position l.results))
    ≡ error_results (meanings_of l.told) 0 (map item_view l.results)
