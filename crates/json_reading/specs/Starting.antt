-- How a value starts.
use Rattle.std.specs.Prelude.{ℕ, ◌≡◌, ◌<◌, ◌-◌, List, Some}
use Rattle.json.specs.Token.{Token}
use Rattle.json.specs.Json.{parse_map}
use Rattle.serde_json.specs.Data.{Num, null, boolean, number, string, array, object, no_members}
use Rattle.serde_json.specs.Find.{as_u64}
use Rattle.json_reading.specs.Standing.{value_at, items_at, members_at}
use Rattle.json_reading.specs.declared.start.Start.{Start}
use Rattle.json_reading.specs.declared.start.Start.TheVariants as start

-- of the value at `old` this is the start, and `new` is left: nothing of the value, or the rest of a list or an object
abbrev pub Starts : ℕ → List Token → Start → List Token → Type 0
Starts depth old start.List new = (0 < depth) × (value_at depth old ≡ parse_map array (items_at (depth - 1) new))
Starts depth old start.Object new =
    (0 < depth) × (value_at depth old ≡ parse_map object (members_at (depth - 1) no_members new))
Starts depth old (start.Text s) new = value_at depth old ≡ Some (string s.now, new)
Starts depth old (start.Number n) new = (x : Num) × (value_at depth old ≡ Some (number x, new)) × (n ≡ as_u64 x)
Starts depth old (start.Bool b) new = value_at depth old ≡ Some (boolean b, new)
Starts depth old start.Null new = value_at depth old ≡ Some (null, new)
