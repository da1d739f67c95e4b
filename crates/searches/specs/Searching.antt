-- A search that goes on: its steps so far, and which pairs were seen. Each pair that was seen has a step. What is added
-- follows one step, or is a start, and nothing that is there comes later than what follows that step.
use Rattle.std.specs.Prelude.{ℕ, suc, ◌≡◌, ◌+◌, ◌*◌, Bool, true, false, if◌then◌else◌, List, [], ◌∷◌, length, get_or, Option, Some, None, slice_get, Contains}
use Rattle.flow.specs.Walks.{Graph}
use Rattle.meaning.specs.Code.{Occurrence}
use Rattle.searches.specs.Searched.{Pair, pair_of, IsPair, IsStart, Follows, IsNotBehind, IsFoundBy, AreSteps}
use Rattle.searches.specs.declared.carry.TheConstants.{CLASSES}
use Rattle.searches.specs.declared.search.Progress.{Progress}
use Rattle.searches.specs.declared.search.Step.{Step}

-- where the table has the pair
abbrev pub place_of : Pair → ℕ
place_of p = p.node * CLASSES + p.class

-- how many places are left: each step takes one
abbrev pub count_unseen : List Bool → ℕ
count_unseen [] = 0
count_unseen (b ∷ bs) = if b then count_unseen bs else suc (count_unseen bs)

-- the table has a place for each pair
abbrev pub HasRoom : Progress → Type 0
HasRoom s = length s.seen.items ≡ s.nodes * CLASSES

pub record HasStep (steps : List Step) (p : Pair) : Type 0 where
  pub number : ℕ
  pub there : Step
  pub is_there : slice_get steps number ≡ Some there
  pub is_pair : pair_of there ≡ p

-- the pair may be added behind that step, or at the start
abbrev pub MayFollow
    : {E : Type 0} → Graph E → (E → ℕ → ℕ) → ℕ → List Step → Option ℕ → Pair → Type 0
MayFollow g step entry steps None p = IsStart g entry p
MayFollow g step entry steps (Some j) p =
    (s : Step) × (slice_get steps j ≡ Some s) × Follows g step (pair_of s) p

-- the search while that is added which follows that step
pub record Stands {E : Type 0}
    (g : Graph E) (step : E → ℕ → ℕ) (entry : ℕ) (last : Option ℕ) (s : Progress)
    : Type 0 where
  pub are_steps : AreSteps g step entry s.steps.items
  pub is_bounded : (i : ℕ) (t : Step) → slice_get s.steps.items i ≡ Some t → IsNotBehind t.before last
  pub same_nodes : s.nodes ≡ length g.nodes
  pub sees : (p : Pair)
      → IsPair g p
      → get_or s.seen.items (place_of p) false ≡ true
      → HasStep s.steps.items p

-- steps are added, each for a place that was left
pub record Grows (before after : Progress) : Type 0 where
  pub same_followed : after.followed ≡ before.followed
  pub same_nodes : after.nodes ≡ before.nodes
  pub has_room : HasRoom after
  pub same_steps : (i : ℕ) (t : Step) → slice_get before.steps.items i ≡ Some t → slice_get after.steps.items i ≡ Some t
  pub same_room :
      count_unseen after.seen.items + length after.steps.items
      ≡ count_unseen before.seen.items + length before.steps.items

-- pairs of these nodes and that class were added behind that step, those that were seen aside
pub record Adds (E : Type 0) (nodes : List ℕ) (class : ℕ) (last : Option ℕ) (before after : Progress) : Type 0 where
  pub grows : Grows before after
  pub stands : (g : Graph E) (step : E → ℕ → ℕ) (entry : ℕ)
      → Stands g step entry last before
      → ((n : ℕ) → Contains nodes n → MayFollow g step entry before.steps.items last record { node = n; class = class })
      → Stands g step entry last after
  pub are_found : (g : Graph E) (step : E → ℕ → ℕ) (entry : ℕ) (n : ℕ)
      → Stands g step entry last before
      → ((m : ℕ) → Contains nodes m → MayFollow g step entry before.steps.items last record { node = m; class = class })
      → Contains nodes n
      → IsPair g record { node = n; class = class }
      → IsFoundBy after.steps.items record { node = n; class = class } last

-- How many steps there can be: those that are there, and the places that are left. It stays, and each turn follows one
-- step more, so that this less those that were followed says how many turns there can be.
abbrev pub left_of : Progress → ℕ
left_of s = count_unseen s.seen.items + length s.steps.items

-- nothing was seen of so many nodes
pub record IsFresh (nodes : ℕ) (s : Progress) : Type 0 where
  pub no_steps : s.steps.items ≡ []
  pub has_room : HasRoom s
  pub same_nodes : s.nodes ≡ nodes
  pub none_seen : (i : ℕ) → get_or s.seen.items i false ≡ false
  pub none_followed : s.followed ≡ 0

-- the next step was followed: it was counted, and what follows it was added behind it
pub record FollowsStep {E : Type 0}
    (step : E → ℕ → ℕ) (g : Graph E) (followed : Step) (before after : Progress)
    : Type 0 where
  pub between : Progress
  pub is_counted : between.followed ≡ suc before.followed
  pub same_steps : between.steps ≡ before.steps
  pub same_seen : between.seen ≡ before.seen
  pub same_nodes : between.nodes ≡ before.nodes
  pub next : List ℕ
  pub class : ℕ
  pub adds : Adds E next class (Some before.followed) between after
  pub is_class : (o : Occurrence E) (ms : List ℕ)
      → slice_get g.nodes followed.node ≡ Some o
      → slice_get g.next followed.node ≡ Some ms
      → (class ≡ step o.event followed.class) × (next ≡ ms)
  pub leads : (n : ℕ)
      → Contains next n
      → Follows g step (pair_of followed) record { node = n; class = class }
