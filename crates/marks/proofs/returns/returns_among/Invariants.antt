use Rattle.std.proofs.Common.{◌≡◌, ◌≤◌, ◌++◌, drop, map}
use Rattle.tree.specs.View.{expressions_syntax}
use Rattle.meaning.specs.FunctionFacts.{listed, own_returns}
use Rattle.mentions.specs.MarkViews.{marks_view}
use Rattle.marks.proofs.returns.returns_among.Given as goal

-- what was found with what the rest has is the whole
abbrev pub invariant-loop-mark : goal.invariant-loop-mark
invariant-loop-mark l =
    (l.literals ≤ l.mark-index)
    × (map (λ es. listed (expressions_syntax es.now)) l.returns.items ++ own_returns l.literals (marks_view (drop l.mark-index l.marks))
    ≡ own_returns 0 (marks_view l.marks))
