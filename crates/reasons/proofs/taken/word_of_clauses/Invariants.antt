use Rattle.std.proofs.Common.{◌≡◌, ◌==◌, drop}
use Rattle.std.specs.List.{list_any}
use Rattle.reasons.proofs.taken.word_of_clauses.Given as goal

-- the test of those that are left is that of all
abbrev pub invariant-loop-at : goal.invariant-loop-at
invariant-loop-at l =
    list_any (λ at. at == l.next) (drop l.at-index l.clauses) ≡ list_any (λ at. at == l.next) l.clauses
