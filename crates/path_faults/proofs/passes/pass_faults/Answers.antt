use Rattle.std.proofs.Common.{map, ap, sym, ◌∙◌}
use Rattle.std.proofs.lemmas.Result.{IfOk-weaker}
use Rattle.path_faults.specs.FaultViews.{fault_view}
use Rattle.path_faults.proofs.Passed.{passes_are_none}
use Rattle.path_faults.proofs.passes.pass_faults.Goals as goal

pub returns-in-First : goal.returns-in-First
returns-in-First g c =
    IfOk-weaker c.first_faults.result _ _
    (λ faults are seen tells b same. are seen tells b (same ∙ sym tells.edition ∙ c.in-First.is))
    c.first_faults.ensures

pub returns-in-Second : goal.returns-in-Second
returns-in-Second g c = λ seen tells b same events variables promises.
    passes_are_none (map fault_view c.new.result.items) (ap (map fault_view) c.new.ensures.items) b
    (same ∙ sym tells.edition ∙ c.in-Second.is)
