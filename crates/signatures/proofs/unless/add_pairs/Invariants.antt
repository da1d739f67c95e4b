use Rattle.std.proofs.Common.{◌≡◌, ◌++◌, map, drop}
use Rattle.facts.specs.FactViews.{unless_view}
use Rattle.signatures.specs.Returned.{pairs_of}
use Rattle.signatures.proofs.unless.add_pairs.Given as goal

-- what was added with what the rest adds is the whole
abbrev pub invariant-loop-error : goal.invariant-loop-error
invariant-loop-error l =
    map unless_view l.pairs.items ++ pairs_of l.given (drop l.error-index l.errors)
    ≡ map unless_view l.initial.pairs.items ++ pairs_of l.given l.errors
