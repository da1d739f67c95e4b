-- Maps from names, seen as functions; and what a map has where the first value of a name counts.
use Rattle.std.specs.Prelude.{ℕ, if◌then◌else◌, List, Option, Some, None}
use Rattle.std.specs.Borrow.{Bor}
use Rattle.std.specs.Str.{bytes_eq}
use Rattle.indexmap.specs.IndexMap.{IndexMap, get_by}
use Rattle.first_values.specs.declared.FirstValues.{FirstValues}

-- the value of a name
abbrev pub at_name : {V S : Type 0} → IndexMap (Bor (List ℕ)) V S → List ℕ → Option V
at_name m name = get_by (λ k. bytes_eq name k.now) m

abbrev pub value_of : {V : Type 0} → FirstValues V → List ℕ → Option V
value_of kept = at_name kept.values

-- one value, of one name
abbrev pub only_at : {V : Type 0} → List ℕ → V → List ℕ → Option V
only_at name value other = if bytes_eq name other then Some value else None
