use Rattle.std.proofs.Common.{◌≡◌, ◌+◌, map, drop}
use Rattle.facts.specs.FactViews.{type_view, cancel_result_view}
use Rattle.meaning.specs.Uses.{is_given_as}
use Rattle.allowed_uses.proofs.gives.has_sum.Given as goal

-- what is told of those that are left is told of all
abbrev pub invariant-loop-given : goal.invariant-loop-given
invariant-loop-given l =
    is_given_as (l.item + l.wanted.position) (type_view l.wanted.cancel_type) (map cancel_result_view (drop l.given-index l.gives))
    ≡ is_given_as (l.item + l.wanted.position) (type_view l.wanted.cancel_type) (map cancel_result_view l.gives)
