-- What serves the proofs: the parts of a table's value, one by one.
use Rattle.std.specs.Prelude.{ℕ, ◌≡◌, List, [], ◌∷◌, Option, Some, None, option_and_then, option_map, Bool, if◌then◌else◌, ⊤, codes}
use Rattle.std.specs.Str.{bytes_eq}
use Rattle.serde_json.specs.Data.{Data, Items, Members, no_members, member}
use Rattle.serde_json.specs.Find.{as_number, as_u64, as_bool, as_str, as_array, as_object}
use Rattle.serde_json.specs.Read.{read}
use Rattle.json_reading.specs.declared.stop.Stop.{Stop}
use Rattle.json_reading.specs.declared.stop.Stop.TheVariants as stop
use Rattle.table_json.specs.declared.fault.TableFault.{TableFault}
use Rattle.table_json.specs.declared.fault.TableFault.TheVariants.{NotJson, WrongVersion, WrongShape, OutOfMemory}
use Rattle.table_json.specs.declared.table.Parameter.{Parameter}
use Rattle.table_json.specs.declared.table.Parameter.TheVariants.{Cancel, Cause, Group}
use Rattle.table_json.specs.Tables.{Entry, itself, position_of}
use Rattle.table_json.specs.TableTexts.{version_of, HasWrongVersion}
use Rattle.table_json.specs.TableValues.{if_fits, AllFit}

-- the value of the first member, where it has this key, and the members behind it
abbrev pub first_member : List ℕ → Members → Option (Data × Members)
first_member key no_members = None
first_member key (member k value ms) = if bytes_eq k key then Some (value, ms) else None

abbrev pub only_if_last : {A : Type 0} → A → Members → Option A
only_if_last a no_members = Some a
only_if_last a (member k value ms) = None

-- the values of an object that has just these keys, in this order
unfoldable pub two_members : List ℕ → List ℕ → Data → Option (Data × Data)
two_members first second value =
    option_and_then (λ ms.
    option_and_then (λ a.
    option_and_then (λ b. only_if_last (a.0, b.0) b.1)
    (first_member second a.1)) (first_member first ms)) (as_object value)

unfoldable pub three_members : List ℕ → List ℕ → List ℕ → Data → Option (Data × Data × Data)
three_members first second third value =
    option_and_then (λ ms.
    option_and_then (λ a.
    option_and_then (λ b.
    option_and_then (λ c. only_if_last (a.0, b.0, c.0) c.1)
    (first_member third b.1)) (first_member second a.1)) (first_member first ms)) (as_object value)

unfoldable pub four_members : List ℕ → List ℕ → List ℕ → List ℕ → Data → Option (Data × Data × Data × Data)
four_members first second third fourth value =
    option_and_then (λ ms.
    option_and_then (λ a.
    option_and_then (λ b.
    option_and_then (λ c.
    option_and_then (λ d. only_if_last (a.0, b.0, c.0, d.0) d.1)
    (first_member fourth c.1)) (first_member third b.1)) (first_member second a.1)) (first_member first ms))
    (as_object value)

unfoldable pub position_in : Data → Option ℕ
position_in value = option_and_then if_fits (option_and_then as_u64 (as_number value))

abbrev pub if_text : {A : Type 0} → List ℕ → Option A → Option (List ℕ) → Option A
if_text wanted found None = None
if_text wanted found (Some text) = if bytes_eq text wanted then found else None

-- where a cancel function of this kind stands, and whether it is called
unfoldable pub called_in : List ℕ → Data → Option (ℕ × Bool)
called_in kind value =
    option_and_then (λ ms.
    if_text kind
    (option_and_then (λ at. option_map (λ calls. (at, calls)) (as_bool ms.1)) (position_in ms.0))
    (as_str ms.2))
    (three_members (codes "at") (codes "calls") (codes "kind") value)

unfoldable pub group_in : Data → Option Parameter
group_in value =
    option_and_then (λ ms. if_text (codes "group") (option_map (λ at. Group at) (position_in ms.0)) (as_str ms.1))
    (two_members (codes "at") (codes "kind") value)

abbrev pub first_found : {A : Type 0} → Option A → Option A → Option A
first_found (Some a) other = Some a
first_found None other = other

unfoldable pub parameter_in : Data → Option Parameter
parameter_in value =
    first_found (option_map (λ c. Cancel c.0 c.1) (called_in (codes "cancel") value))
    (first_found (option_map (λ c. Cause c.0 c.1) (called_in (codes "cause") value)) (group_in value))

-- the name, and the values of what is given, of what is given with a cause, and of the parameters
unfoldable pub function_in : Data → Option (List ℕ × Items × Items × Items)
function_in value =
    option_and_then (λ ms.
    option_and_then (λ causes.
    option_and_then (λ gives.
    option_and_then (λ name.
    option_map (λ params. (name, gives, causes, params))
    (as_array ms.3)) (as_str ms.2)) (as_array ms.1)) (as_array ms.0))
    (four_members (codes "causes") (codes "gives") (codes "name") (codes "params") value)

-- the same in the older version
unfoldable pub older_function_in : Data → Option (List ℕ × Items × Items)
older_function_in value =
    option_and_then (λ ms.
    option_and_then (λ gives.
    option_and_then (λ name.
    option_map (λ params. (name, gives, params))
    (as_array ms.2)) (as_str ms.1)) (as_array ms.0))
    (three_members (codes "gives") (codes "name") (codes "params") value)

-- the functions of a table, whatever its version
unfoldable pub functions_in : Data → Option Items
functions_in value =
    option_and_then (λ ms. as_array ms.0) (two_members (codes "functions") (codes "version") value)

-- what is found in each, where it is found in all
abbrev pub all_of : {A B : Type 0} → (A → Option B) → List A → Option (List B)
all_of f [] = Some []
all_of f (x ∷ xs) = option_and_then (λ y. option_map (λ ys. y ∷ ys) (all_of f xs)) (f x)

-- the positions of a function fit, as do all that are kept in memory
pub record HasFits (f : Entry) : Type 0 where
  pub gives_fit : AllFit itself f.gives
  pub causes_fit : AllFit itself f.causes
  pub params_fit : AllFit position_of f.params

-- nothing is kept of what is read, for this reason
abbrev pub Refuses : {A : Type 0} → (A → Type 0) → TableFault → Type 0
Refuses {A} IsRead NotJson = ⊥
Refuses {A} IsRead WrongVersion = ⊥
Refuses {A} IsRead WrongShape = (a : A) → ¬ IsRead a
Refuses {A} IsRead OutOfMemory = ⊤

-- a value is not read, for this reason, where a wrong shape is this
abbrev pub IsValueFault : (Data → Type 0) → Data → TableFault → Type 0
IsValueFault HasWrong value NotJson = ⊥
IsValueFault HasWrong value WrongVersion = HasWrongVersion value
IsValueFault HasWrong value WrongShape = HasWrong value
IsValueFault HasWrong value OutOfMemory = ⊤

-- the version of a text is none that is read, for this reason
abbrev pub IsTextVersionFault : List ℕ → TableFault → Type 0
IsTextVersionFault text NotJson = read text ≡ None
IsTextVersionFault text WrongVersion = (value : Data) × (read text ≡ Some value) × HasWrongVersion value
IsTextVersionFault text WrongShape = (value : Data) × (read text ≡ Some value) × (version_of value ≡ None)
IsTextVersionFault text OutOfMemory = ⊤

-- the same fault, of a table
abbrev pub fault_of_stop : Stop → TableFault
fault_of_stop stop.NotJson = NotJson
fault_of_stop stop.OutOfMemory = OutOfMemory
