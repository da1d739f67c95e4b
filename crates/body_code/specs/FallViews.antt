-- An offset that was found, as the definitions list it.
use Rattle.std.specs.Prelude.{ℕ, List, [], ◌∷◌, Option, Some, None}

abbrev pub at_most_one : Option ℕ → List ℕ
at_most_one None = []
at_most_one (Some at) = at ∷ []
