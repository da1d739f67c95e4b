use Rattle.std.proofs.Common.{refl}
use Rattle.tracked.proofs.AllNoted.{tells_locals}
use Rattle.tracked.proofs.seen.seen_locals.Goals as goal

pub returns : goal.returns
returns c =
    tells_locals _ _ _ c.in_ok-locals.locals c.add_fields.new.locals _ c.in_ok-locals.ensures c.in_ok-add_fields.ensures
    c.in_ok-note_all.ensures refl
