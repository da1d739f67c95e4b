-- Tables as JSON: the value of a table, as it is written, and which values are those of a table when they are read. As
-- an object has each key once and in order, the order of keys is free in a text, and of equal keys the last one counts.
-- What is written is version 2. Version 1, which knows of no causes, is read too.
use Rattle.std.specs.Prelude.{ℕ, ◌≡◌, ◌<◌, ◌^◌, ◌⊎◌, Bool, true, false, if◌then◌else◌, List, [], Option, Some, None, nat_lt, map, codes}
use Rattle.std.specs.List.{AllByRecursion, AllZip, list_all}
use Rattle.std.specs.declared.cmp.Ordering.{Ordering}
use Rattle.std.specs.Ordering.{nat_cmp}
use Rattle.serde_json.specs.Data.{Data, boolean, number, unsigned, string, array, object, member, no_members}
use Rattle.serde_json.specs.View.{items_of}
use Rattle.table_json.specs.declared.table.Version.{Version}
use Rattle.table_json.specs.declared.table.Version.TheVariants.{Older, Newer}
use Rattle.table_json.specs.declared.table.Parameter.{Parameter}
use Rattle.table_json.specs.declared.table.Parameter.TheVariants.{Cancel, Cause, Group}
use Rattle.table_json.specs.Tables.{Entry, itself, position_of, name_of, are_apart, by_bytes, IsArranged}

-- The value of a table, in version 2

abbrev pub whole : ℕ → Data
whole n = number (unsigned n)

abbrev pub list : List Data → Data
list values = array (items_of values)

-- `{"at":n,"calls":b,"kind":s}`
abbrev pub called_with : List ℕ → ℕ → Bool → Data
called_with kind at calls = object (
    member (codes "at") (whole at) (
    member (codes "calls") (boolean calls) (
    member (codes "kind") (string kind) no_members)))

-- `{"at":n,"calls":b,"kind":"cancel"}`, `{"at":n,"calls":b,"kind":"cause"}` or `{"at":n,"kind":"group"}`
abbrev pub parameter_value : Parameter → Data
parameter_value (Cancel at calls) = called_with (codes "cancel") at calls
parameter_value (Cause at calls) = called_with (codes "cause") at calls
parameter_value (Group at) = object (
    member (codes "at") (whole at) (
    member (codes "kind") (string (codes "group")) no_members))

-- `{"causes":[n,..],"gives":[n,..],"name":s,"params":[P,..]}`
abbrev pub function_with : List ℕ → List Data → List Data → List Data → Data
function_with name gives causes params = object (
    member (codes "causes") (list causes) (
    member (codes "gives") (list gives) (
    member (codes "name") (string name) (
    member (codes "params") (list params) no_members))))

abbrev pub function_value : Entry → Data
function_value f = function_with f.name (map whole f.gives) (map whole f.causes) (map parameter_value f.params)

-- `{"functions":[F,..],"version":n}`
abbrev pub table_with : ℕ → List Data → Data
table_with version functions = object (
    member (codes "functions") (list functions) (
    member (codes "version") (whole version) no_members))

abbrev pub table_value : List Entry → Data
table_value table = table_with 2 (map function_value table)

-- Which values are those of a table

-- positions and versions are whole numbers from 0 to 4,294,967,295
abbrev pub Fits : ℕ → Type 0
Fits n = n < 2 ^ 32

-- the number, where it fits
abbrev pub if_fits : ℕ → Option ℕ
if_fits n = if nat_lt n (2 ^ 32) then Some n else None

abbrev pub AllFit : {A : Type 0} → (A → ℕ) → List A → Type 0
AllFit position xs = AllByRecursion (λ a. Fits (position a)) xs

-- these are the values of what is kept, in any order: each position fits, and none comes twice
pub record AreValuesOf {A : Type 0} (value_of : A → Data) (position : A → ℕ) (values : List Data) (kept : List A)
    : Type 0 where
  pub given : List A
  pub are_values : values ≡ map value_of given
  pub fit : AllFit position given
  pub arranged : IsArranged nat_cmp position given kept

-- these are the values of what is kept, in any order: no key comes twice
module _ {A K : Type 0} (IsValue : Data → A → Type 0) (cmp : K → K → Ordering) (key : A → K) where
  pub record AreArrangedOf (values : List Data) (kept : List A) : Type 0 where
    pub given : List A
    pub each : AllZip IsValue values given
    pub arranged : IsArranged cmp key given kept

-- Functions in version 2

-- no position stands in both `gives` and `causes`
pub record IsFunctionValue (value : Data) (f : Entry) : Type 0 where
  pub gives : List Data
  pub causes : List Data
  pub params : List Data
  pub is_value : value ≡ function_with f.name gives causes params
  pub are_gives : AreValuesOf whole itself gives f.gives
  pub are_causes : AreValuesOf whole itself causes f.causes
  pub apart : are_apart f.gives f.causes ≡ true
  pub are_params : AreValuesOf parameter_value position_of params f.params

-- Functions in version 1

-- `{"gives":[n,..],"name":s,"params":[P,..]}`
abbrev pub older_function_with : List ℕ → List Data → List Data → Data
older_function_with name gives params = object (
    member (codes "gives") (list gives) (
    member (codes "name") (string name) (
    member (codes "params") (list params) no_members)))

-- its parameters are of kind `cancel` or `group`
abbrev pub is_older : Parameter → Bool
is_older (Cancel at calls) = true
is_older (Cause at calls) = false
is_older (Group at) = true

-- it tells of no causes
pub record IsOlderFunctionValue (value : Data) (f : Entry) : Type 0 where
  pub gives : List Data
  pub params : List Data
  pub is_value : value ≡ older_function_with f.name gives params
  pub are_gives : AreValuesOf whole itself gives f.gives
  pub no_causes : f.causes ≡ []
  pub are_params : AreValuesOf parameter_value position_of params f.params
  pub are_older : list_all is_older f.params ≡ true

-- Functions in either version

abbrev pub number_of : Version → ℕ
number_of Older = 1
number_of Newer = 2

-- this is the value of the function in this version
abbrev pub IsFunctionIn : Version → Data → Entry → Type 0
IsFunctionIn Older = IsOlderFunctionValue
IsFunctionIn Newer = IsFunctionValue

-- these are the values of the functions, in any order: no name comes twice
abbrev pub AreFunctionsOf : (Data → Entry → Type 0) → List Data → List Entry → Type 0
AreFunctionsOf IsFunction = AreArrangedOf IsFunction by_bytes name_of

-- Tables

-- this is the value of the table, with this version and such functions
pub record IsTableIn (version : ℕ) (IsFunction : Data → Entry → Type 0) (value : Data) (table : List Entry)
    : Type 0 where
  pub functions : List Data
  pub is_value : value ≡ table_with version functions
  pub are_functions : AreFunctionsOf IsFunction functions table

abbrev pub IsTableValue : Data → List Entry → Type 0
IsTableValue value table =
    IsTableIn 2 IsFunctionValue value table ⊎ IsTableIn 1 IsOlderFunctionValue value table
