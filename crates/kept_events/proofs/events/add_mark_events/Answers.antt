use Rattle.kept_forms.proofs.AddedParts.{ok_then}
use Rattle.kept_events.proofs.events.add_mark_events.Goals as goal

pub returns : goal.returns
returns c = ok_then c.add_objects.result _ _ _ _ _ c.in_ok-add_return.ensures c.add_objects.ensures
