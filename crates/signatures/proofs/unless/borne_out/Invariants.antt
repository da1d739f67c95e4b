use Rattle.std.proofs.Common.{◌≡◌, ◌++◌, map, drop}
use Rattle.std.specs.List.{filter}
use Rattle.meaning.specs.FunctionFacts.{gives_unless}
use Rattle.facts.specs.FactViews.{unless_view}
use Rattle.signatures.specs.Meanings.{meanings_of}
use Rattle.signatures.specs.Returned.{returned_view}
use Rattle.signatures.proofs.unless.borne_out.Given as goal

-- what was kept with what is kept of the rest is the whole
abbrev pub invariant-loop-unless : goal.invariant-loop-unless
invariant-loop-unless l =
    map unless_view l.kept.items
    ++ filter (gives_unless (meanings_of l.told) l.results (map returned_view l.returns)) (map unless_view (drop l.unless-index l.pairs))
    ≡ filter (gives_unless (meanings_of l.told) l.results (map returned_view l.returns)) (map unless_view l.pairs)
