use Rattle.kept_events.proofs.here.kept_there.Goals as goal

pub there-requires : goal.there-requires
there-requires c = c.requires.sees.sees

pub returns : goal.returns
returns c = c.there.ensures c.requires.knows
