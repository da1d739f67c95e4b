use Rattle.std.proofs.Common.{◌≡◌, ◌++◌, map, drop}
use Rattle.meaning.specs.FunctionFacts.{pairs}
use Rattle.facts.specs.FactViews.{cancel_result_view, unless_view}
use Rattle.signatures.proofs.unless.pairs.Given as goal

-- what was added with what the rest adds is the whole
abbrev pub invariant-loop-given : goal.invariant-loop-given
invariant-loop-given l =
    map unless_view l.all.items ++ pairs (map cancel_result_view (drop l.given-index l.gives)) l.errors
    ≡ pairs (map cancel_result_view l.gives) l.errors
