-- The rows of a body of a file.
use Rattle.std.specs.Prelude.{ℕ, ◌≡◌, true, false, [], Contains, List, Option, None, Some}
use Rattle.std.proofs.Common.{sym, true≢false}
use Rattle.certificates.specs.Least.{IsLeastOf}
use Rattle.certificates.specs.Rows.{Vec, rows_view}
use Rattle.meaning.specs.BodyEvents.{unfollowed_faults}
use Rattle.meaning.specs.Classes.{Promises}
use Rattle.meaning.specs.Mentions.{BodyPlace}
use Rattle.meaning.specs.Uses.{Seen}
use Rattle.meaning_packages.specs.PathFaults.{paths_of}

-- the body's paths are followed, and these are the rows of its least certificate
pub record AreLeastRows (seen : Seen) (b : BodyPlace) (promises : Promises) (rows : List (Vec ℕ)) : Type 0 where
  pub is_followed : unfollowed_faults seen b ≡ []
  pub is_least : IsLeastOf (paths_of seen promises b) (rows_view rows)

-- the same; none where they are not followed
abbrev pub AreLeastIf : Seen → BodyPlace → Promises → Option (Vec (Vec ℕ)) → Type 0
AreLeastIf seen b promises None = unfollowed_faults seen b ≡ [] → ⊥
AreLeastIf seen b promises (Some rows) = AreLeastRows seen b promises rows.items

-- Where no class arrives, none is pending

pub none_pending : {A : Type 0} (a : A) (i n g : ℕ) → false ≡ true → Contains [] g
none_pending a i n g e = absurd (true≢false (sym e))
