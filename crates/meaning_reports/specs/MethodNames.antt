-- Names that are no field's, since the package declares a method of the name: a call of that name under `go` or `defer`
-- is taken for one of the method.
-- (This tool's rules.)
use Rattle.std.specs.Prelude.{ℕ, Bool, not, List, [], ◌∷◌, Option, Some, None, flat_map}
use Rattle.std.specs.List.{list_any, filter}
use Rattle.std.specs.Str.{bytes_eq}
use Rattle.tree.specs.Syntax.{Identifier, Parameters}
use Rattle.meaning.specs.Mentions.{Mark, opens}
use Rattle.meaning.specs.Tracked.{Fields, each_field, these_fields}
use Rattle.meaning.specs.Uses.{Seen}

-- the name of a function that has a receiver
abbrev pub method_named : Option Identifier → Option Parameters → List (List ℕ)
method_named (Some n) (Some receiver) = n.text ∷ []
method_named n receiver = []

abbrev pub methods_there : Mark → List (List ℕ)
methods_there (opens b) = method_named b.name b.receiver
methods_there mark = []

abbrev pub methods_in : Seen → List (List ℕ)
methods_in seen = flat_map (λ p. methods_there p.mark) seen.marks

abbrev pub has_method : List (List ℕ) → List ℕ → Bool
has_method methods name = list_any (λ m. bytes_eq m name) methods

-- the fields that keep, and of the names that may be fields' those that no method has
abbrev pub but_methods : List (List ℕ) → Fields → Fields
but_methods methods each_field = each_field
but_methods methods (these_fields names filled) = these_fields names (filter (λ f. not (has_method methods f)) filled)
