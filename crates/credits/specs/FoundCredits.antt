-- How the credits of a file are found: one body after the other, the last first.
use Rattle.std.specs.Prelude.{ℕ, ◌≡◌, ◌↔◌, true, false, List, [], None, nat_eq}
use Rattle.meaning.specs.Mentions.{BodyPlace}
use Rattle.meaning.specs.Uses.{Seen, goes_off}
use Rattle.meaning.specs.BodyEvents.{unfollowed_faults}
use Rattle.meaning_packages.specs.PathFaults.{Paths, paths_of}
use Rattle.meaning_packages.specs.Credits.{Credits, body_at, promises_in, no_calls, binds_captured, MayComeBack, IsCredited}
use Rattle.credits.specs.SettledVariables.{SettlesCaptured}

-- the paths of a body that relies on these credits
abbrev pub body_paths : Seen → Credits → BodyPlace → Paths
body_paths seen credits b = paths_of seen (promises_in no_calls credits b.at) b

-- the body captures a variable of that number and settles it under these credits, neither it nor a literal in it binds
-- it, and the body comes back, if it must
pub record IsReliedOn (seen : Seen) (credits : Credits) (b : BodyPlace) (number : ℕ) : Type 0 where
  pub binds_none : binds_captured seen.known.edition seen b.at number ≡ false
  pub comes_back : MayComeBack seen.known.edition (goes_off b.literal) (body_paths seen credits b)
  pub settles : SettlesCaptured (body_paths seen credits b) number

-- so it is, and its paths are followed
pub record IsSettledBy (seen : Seen) (credits : Credits) (b : BodyPlace) (number : ℕ) : Type 0 where
  pub is_followed : unfollowed_faults seen b ≡ []
  pub relied : IsReliedOn seen credits b number

-- what the body settles is told of its offset, and nothing changes elsewhere
pub record SettlesBody (seen : Seen) (b : BodyPlace) (before after : Credits) : Type 0 where
  pub there : (number : ℕ) → (after b.at number ≡ true) ↔ IsSettledBy seen before b number
  pub others : (other number : ℕ) → nat_eq b.at other ≡ false → after other number ≡ before other number

-- the credits are found of each literal but of those at whose offset one of these bodies stands
pub record AreFoundBut (seen : Seen) (left : List BodyPlace) (credits : Credits) : Type 0 where
  pub each : (literal number : ℕ)
      → body_at literal left ≡ None
      → (credits literal number ≡ true) ↔ IsCredited seen credits literal number
