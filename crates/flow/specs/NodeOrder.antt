-- The nodes of a graph in the order of the text: by their offsets; of one offset, by their order there; and of one
-- order, as the code has them, so that the greater number comes first.
use Rattle.std.specs.Prelude.{ℕ, ◌+◌, ◌≡◌, ◌<◌, ◌≤◌, ◌⊎◌, List, [], ◌∷◌, AllPairs}
use Rattle.meaning.specs.Code.{Occurrence}
use Rattle.flow.specs.declared.order.NodePlace.{NodePlace}

-- where each node stands; the first of them has that number
abbrev pub places : {E : Type 0} → ℕ → List (Occurrence E) → List NodePlace
places n [] = []
places n (o ∷ os) = record { at = o.at; order = o.order; node = n } ∷ places (n + 1) os

abbrev pub IsNotAfter : NodePlace → NodePlace → Type 0
IsNotAfter p q =
    (p.at < q.at) ⊎ ((p.at ≡ q.at) × ((p.order < q.order) ⊎ ((p.order ≡ q.order) × (q.node ≤ p.node))))

-- each node, and all that stand after it
abbrev pub AreInOrder : List NodePlace → Type 0
AreInOrder ps = AllPairs IsNotAfter ps
