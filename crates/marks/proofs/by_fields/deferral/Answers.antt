use Rattle.std.proofs.Common.{refl}
use Rattle.marks.proofs.AddingBy.{adds_nothing, alone_kept, kept_adds}
use Rattle.marks.proofs.by_fields.deferral.Goals as goal

pub returns-in-DeferredCall : goal.returns-in-DeferredCall
returns-in-DeferredCall c = rw c.in-DeferredCall.is (kept_adds _ _ _ _ (alone_kept _ refl refl) c.push.ensures)

pub returns-in-CallUnderGo : goal.returns-in-CallUnderGo
returns-in-CallUnderGo c = rw c.in-CallUnderGo.is (kept_adds _ _ _ _ (alone_kept _ refl refl) c.push-in-CallUnderGo.ensures)

pub returns-in-Other : goal.returns-in-Other
returns-in-Other c = rw c.in-Other.is (adds_nothing _)

pub returns-in-StartedBy : goal.returns-in-StartedBy
returns-in-StartedBy c = rw c.in-StartedBy.is (adds_nothing _)
