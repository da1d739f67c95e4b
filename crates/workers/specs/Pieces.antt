-- What comes of the items of a list, each worked on by itself.
use Rattle.std.specs.Prelude.{ℕ, ◌+◌, List, [], ◌∷◌, ◌++◌, Vec}
use Rattle.std.specs.declared.alloc.Global.{Global}

-- This came of the items, of each what its place and the item give, in their order. The first stands at that place.
abbrev pub ComeOf : {T X : Type 0} → (ℕ → T → X → Type 0) → ℕ → List T → List X → Type 0
ComeOf gives place [] [] = Unit {0}
ComeOf gives place [] (x ∷ xs) = ⊥
ComeOf gives place (item ∷ items) [] = ⊥
ComeOf gives place (item ∷ items) (x ∷ xs) = gives place item x × ComeOf gives (place + 1) items xs

-- all items of these lists, one list behind the other
abbrev pub joined : {X : Type 0} → List (Vec X Global) → List X
joined [] = []
joined (list ∷ lists) = list.items ++ joined lists
