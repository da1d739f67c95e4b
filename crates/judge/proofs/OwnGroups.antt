-- A body starts literals in its own groups alone, whatever it relies on, and whatever is claimed of it.
use Rattle.credits.proofs.OwnGroups.{starts_in_own_groups}
use Rattle.judge.specs.OwnGroups.{StartsHaveOwnGroups}

pub starts_have_own_groups : StartsHaveOwnGroups
starts_have_own_groups seen b promises order claims n o g is there = starts_in_own_groups seen b n o g is there
