use Rattle.std.proofs.Common.{◌≡◌, map, drop}
use Rattle.std.specs.List.{list_any}
use Rattle.meaning.specs.FunctionFacts.{is_nil_at}
use Rattle.signatures.specs.Meanings.{meanings_of}
use Rattle.signatures.specs.Returned.{returned_view}
use Rattle.signatures.proofs.unless.some_has_nil.Given as goal

-- the test of the returns that are left is that of all
abbrev pub invariant-loop-items : goal.invariant-loop-items
invariant-loop-items l =
    list_any (is_nil_at (meanings_of l.told) l.position) (map returned_view (drop l.items-index l.returns))
    ≡ list_any (is_nil_at (meanings_of l.told) l.position) (map returned_view l.returns)
