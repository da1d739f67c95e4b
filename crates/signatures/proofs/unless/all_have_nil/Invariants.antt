use Rattle.std.proofs.Common.{◌≡◌, map, drop}
use Rattle.std.specs.List.{list_all}
use Rattle.meaning.specs.FunctionFacts.{has_nil_at_one}
use Rattle.facts.specs.FactViews.{unless_view}
use Rattle.signatures.specs.Meanings.{meanings_of}
use Rattle.signatures.specs.Returned.{returned_view}
use Rattle.signatures.proofs.unless.all_have_nil.Given as goal

-- the test of the returns that are left is that of all
abbrev pub invariant-loop-items : goal.invariant-loop-items
invariant-loop-items l =
    list_all (has_nil_at_one (meanings_of l.told) l.results (unless_view l.unless)) (map returned_view (drop l.items-index l.returns))
    ≡ list_all (has_nil_at_one (meanings_of l.told) l.results (unless_view l.unless)) (map returned_view l.returns)
