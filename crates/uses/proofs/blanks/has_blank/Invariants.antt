use Rattle.std.proofs.Common.{◌≡◌, map, drop}
use Rattle.facts.specs.FactViews.{cancel_result_view}
use Rattle.mentions.specs.MarkViews.{row_view}
use Rattle.meaning.specs.Uses.{has_blank}
use Rattle.uses.proofs.blanks.has_blank.Given as goal

-- what is told of those that are left is told of all
abbrev pub invariant-loop-given : goal.invariant-loop-given
invariant-loop-given l =
    has_blank (row_view l.row) (map cancel_result_view (drop l.given-index l.gives))
    ≡ has_blank (row_view l.row) (map cancel_result_view l.gives)
