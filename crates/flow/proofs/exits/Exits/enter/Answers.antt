use Rattle.code.proofs.Codes.{on_ok}
use Rattle.flow.proofs.exits.Exits.enter.Goals as goal

pub returns : goal.returns
returns c =
    on_ok c.enter_ways.result (λ h. record { view = λ i way. h.view way i; others = h.others }) c.enter_ways.ensures
