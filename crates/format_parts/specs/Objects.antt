-- JSON objects and lists of given values, as `serde_json` has them.
use Rattle.std.specs.Prelude.{ℕ, List, [], ◌∷◌}
use Rattle.serde_json.specs.Data.{Data, number, unsigned, array, object, Items, no_items, item, Members, no_members, member}

abbrev pub items_of : List Data → Items
items_of [] = no_items
items_of (d ∷ ds) = item d (items_of ds)

-- a list of these values
abbrev pub list_of : List Data → Data
list_of ds = array (items_of ds)

abbrev pub members_of : List (List ℕ × Data) → Members
members_of [] = no_members
members_of (m ∷ ms) = member m.0 m.1 (members_of ms)

-- an object of these keys with their values, in this order
abbrev pub object_of : List (List ℕ × Data) → Data
object_of ms = object (members_of ms)

-- a whole number
abbrev pub whole : ℕ → Data
whole n = number (unsigned n)
