use Rattle.std.proofs.Common.{sym}
use Rattle.std.proofs.lemmas.Option.{none-some}
use Rattle.calls_flags.proofs.ToldInOrder.{told_so}
use Rattle.calls_flags.proofs.told_file.tell_file.Goals as goal

pub returns : goal.returns
returns c =
    told_so _ _ c.in_ok-seen.ensures.view _ c.in_ok-told.ensures c.in_ok-variables.ensures
    (λ e. absurd (none-some c.in_ok-variables.variables (sym e)))
