use Rattle.std.proofs.Common.{◌≡◌, map, drop}
use Rattle.std.specs.List.{list_any}
use Rattle.facts.specs.FactViews.{kind_view, parameter_view}
use Rattle.meaning.specs.Uses.{has_kind_at}
use Rattle.facts.proofs.facts.FunctionFacts.takes_kind.Given as goal

-- the test of the parameters that are left is that of all
abbrev pub invariant-loop-parameter : goal.invariant-loop-parameter
invariant-loop-parameter l =
    list_any (has_kind_at (kind_view l.kind) l.position) (map parameter_view (drop l.parameter-index l.parameter-items))
    ≡ list_any (has_kind_at (kind_view l.kind) l.position) (map parameter_view l.parameter-items)
