use Rattle.std.proofs.Common.{ap}
use Rattle.meaning.specs.Kept.{renew_all}
use Rattle.kept_forms.proofs.AddedParts.{ok_same}
use Rattle.kept_events.proofs.declared.add_renewal.Goals as goal

pub returns : goal.returns
returns c = ok_same c.renew_all.result _ _ _ _ (ap renew_all c.kept_there.ensures) c.renew_all.ensures
