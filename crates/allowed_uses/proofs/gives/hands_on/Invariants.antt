use Rattle.std.proofs.Common.{◌≡◌, ◌+◌, map, drop}
use Rattle.std.specs.List.{list_all}
use Rattle.facts.specs.FactViews.{cancel_result_view}
use Rattle.meaning.specs.Uses.{is_given_as}
use Rattle.allowed_uses.proofs.gives.hands_on.Given as goal

-- what is told of those that are left is told of all
abbrev pub invariant-loop-wanted : goal.invariant-loop-wanted
invariant-loop-wanted l =
    list_all (λ p. is_given_as (l.item + p.position) p.type (map cancel_result_view l.gives)) (map cancel_result_view (drop l.wanted-index l.giving.gives.now))
    ≡ list_all (λ p. is_given_as (l.item + p.position) p.type (map cancel_result_view l.gives)) (map cancel_result_view l.giving.gives.now)
