-- What a return hands on of a local that an item names, by what the marks of its file do to it.
use Rattle.std.proofs.Common.{◌≡◌, ℕ, List, Option, Some, None, option_map, ap}
use Rattle.meaning.specs.BodyEvents.{handed_at, handed_there}
use Rattle.meaning.specs.FunctionFacts.{CancelResult}
use Rattle.meaning.specs.Tracked.{Local}
use Rattle.meaning.specs.Uses.{Seen}
use Rattle.tracked.specs.LocalViews.{SeenLocal, entry_of, tracked_kind_of_entry}

pub handed_same : (s : Seen) (k : ℕ) (gives : List CancelResult) (e : SeenLocal) (o : Option Local)
    → Some e ≡ option_map (entry_of s) o
    → handed_at s k gives (tracked_kind_of_entry e) e.local ≡ handed_there s k gives o
handed_same s k gives e None is = absurd cc
handed_same s k gives e (Some l) is =
    let same : e ≡ entry_of s l = cc in
    ap (λ (x : SeenLocal). handed_at s k gives (tracked_kind_of_entry x) x.local) same
