use Rattle.std.proofs.lemmas.Result.{IfOk-weaker}
use Rattle.explanations.proofs.told_reasons.ways_for.Goals as goal

pub returns-then-any_of_path : goal.returns-then-any_of_path
returns-then-any_of_path c =
    IfOk-weaker c.package_ways.result _ _
    (λ ways so ps tables i p asks is_p around none told. so ps tables i p is_p around none told)
    c.package_ways.ensures
