-- Where the nodes of a way stand: the byte offsets of its statements, in the order of the text, each once.
use Rattle.std.specs.Prelude.{ℕ, ◌↔◌, List, [], ◌∷◌, flat_map, Option, Some, None, slice_get, Contains}
use Rattle.std.specs.List.Sorted.{IsStrictlyIncreasing}
use Rattle.flow.specs.Walks.{Graph}
use Rattle.meaning.specs.Code.{Occurrence}
use Rattle.meaning.specs.Uses.{Event}

abbrev pub offset_of : Option (Occurrence Event) → List ℕ
offset_of None = []
offset_of (Some o) = o.at ∷ []

-- the offsets of nodes, in their order
abbrev pub offsets_at : Graph Event → List ℕ → List ℕ
offsets_at g = flat_map (λ n. offset_of (slice_get g.nodes n))

-- just those of these nodes
pub record AreOffsets (g : Graph Event) (nodes offsets : List ℕ) : Type 0 where
  pub ordered : IsStrictlyIncreasing offsets
  pub same : (at : ℕ) → Contains offsets at ↔ Contains (offsets_at g nodes) at
