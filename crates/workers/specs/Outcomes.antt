-- What comes of items that several threads work on.
use Rattle.std.specs.Prelude.{List, [], ◌∷◌, Option, Some, IfSome, Vec, slice_get, set}
use Rattle.std.specs.declared.alloc.Global.{Global}
use Rattle.std.specs.List.{AllZip}
use Rattle.workers.specs.declared.places.Outcome.{Outcome}

-- What came of each item, in its place. Of some it may be nothing.
abbrev pub AreOutcomes : {T X : Type 0} → (T → X → Type 0) → List T → List (Option X) → Type 0
AreOutcomes is_outcome = AllZip (λ item outcome. IfSome outcome (is_outcome item))

-- What serves the proofs

-- this came of the item of its number
abbrev pub IsOutcomeIn : {T X : Type 0} → (T → X → Type 0) → List T → Outcome X → Type 0
IsOutcomeIn is_outcome items done = IfSome (slice_get items done.number) (λ item. is_outcome item done.outcome)

-- the outcomes after these were put in their places
abbrev pub placed : {X : Type 0} → List (Outcome X) → List (Option X) → List (Option X)
placed [] outcomes = outcomes
placed (done ∷ more) outcomes = placed more (set outcomes done.number (Some done.outcome))

abbrev pub placed_all : {X : Type 0} → List (Vec (Outcome X) Global) → List (Option X) → List (Option X)
placed_all [] outcomes = outcomes
placed_all (share ∷ more) outcomes = placed_all more (placed share.items outcomes)
