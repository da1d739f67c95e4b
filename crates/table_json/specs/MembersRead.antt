-- What serves the proofs: what is read of values, and of the members of objects.
use Rattle.std.specs.Prelude.{ℕ, ◌≡◌, Bool, List, [], ◌∷◌, Option, Some, None, is_some, option_map, option_and_then, if◌then◌else◌, codes}
use Rattle.std.specs.List.{list_all}
use Rattle.serde_json.specs.Data.{Data, boolean, string, Members}
use Rattle.serde_json.specs.Find.{get_member}
use Rattle.json_reading.specs.Keyed.{HasOther, IsUnder}
use Rattle.table_json.specs.declared.parameters.Kind.{Kind}
use Rattle.table_json.specs.declared.parameters.Kind.TheVariants as kind
use Rattle.table_json.specs.declared.table.Parameter.{Parameter}
use Rattle.table_json.specs.declared.table.Parameter.TheVariants.{Cancel, Cause, Group}
use Rattle.table_json.specs.declared.table.Version.{Version}
use Rattle.table_json.specs.Tables.{Entry, are_apart, itself, position_of}
use Rattle.table_json.specs.TableValues.{is_older, list, parameter_value, whole, AreFunctionsOf, AreValuesOf, Fits, IsFunctionIn}

-- Values

-- the value of this, the position of which fits
abbrev pub IsValueOf : {A : Type 0} → (A → Data) → (A → ℕ) → Data → A → Type 0
IsValueOf value_of position value a = (value ≡ value_of a) × Fits (position a)

abbrev pub IsPosition : Data → ℕ → Type 0
IsPosition = IsValueOf whole itself

abbrev pub IsParameter : Data → Parameter → Type 0
IsParameter = IsValueOf parameter_value position_of

-- a list, of whose values this holds
abbrev pub IsListWith : {X : Type 0} → (List Data → X → Type 0) → Data → X → Type 0
IsListWith Are value x = (values : List Data) × (value ≡ list values) × Are values x

abbrev pub ArePositions : Data → List ℕ → Type 0
ArePositions = IsListWith (AreValuesOf whole itself)

abbrev pub AreParameters : Data → List Parameter → Type 0
AreParameters = IsListWith (AreValuesOf parameter_value position_of)

abbrev pub AreFunctionsIn : Version → Data → List Entry → Type 0
AreFunctionsIn version = IsListWith (AreFunctionsOf (IsFunctionIn version))

abbrev pub IsText : Data → List ℕ → Type 0
IsText value text = value ≡ string text

abbrev pub IsTruth : Data → Bool → Type 0
IsTruth value is_true = value ≡ boolean is_true

abbrev pub kind_text : Kind → List ℕ
kind_text kind.Cancel = codes "cancel"
kind_text kind.Cause = codes "cause"
kind_text kind.Group = codes "group"

abbrev pub IsKindText : List ℕ → Kind → Type 0
IsKindText text k = text ≡ kind_text k

abbrev pub IsKind : Data → Kind → Type 0
IsKind value k = value ≡ string (kind_text k)

-- Parameters

abbrev pub parameter_keys : List (List ℕ)
parameter_keys = codes "at" ∷ codes "calls" ∷ codes "kind" ∷ []

-- the members of an object from which these were read
module _ (has_other has_calls : Bool) where
  pub record HasParameterMembers (at : Option ℕ) (calls : Option Bool) (k : Option Kind) (ms : Members) : Type 0 where
    pub others : HasOther parameter_keys ms has_other
    pub at_under : IsUnder IsPosition (get_member (codes "at") ms) at
    pub calls_under : IsUnder IsTruth (get_member (codes "calls") ms) calls
    pub calls_there : has_calls ≡ is_some (get_member (codes "calls") ms)
    pub kind_under : IsUnder IsKind (get_member (codes "kind") ms) k

abbrev pub parameter_of_kind : Bool → ℕ → Option Bool → Kind → Option Parameter
parameter_of_kind has_calls at calls kind.Cancel = option_map (λ called. Cancel at called) calls
parameter_of_kind has_calls at calls kind.Cause = option_map (λ called. Cause at called) calls
parameter_of_kind has_calls at calls kind.Group = if has_calls then None else Some (Group at)

-- the parameter of such an object
unfoldable pub parameter_with : Bool → Bool → Option ℕ → Option Bool → Option Kind → Option Parameter
parameter_with has_other has_calls at calls k =
    if has_other then None
    else option_and_then (λ a. option_and_then (parameter_of_kind has_calls a calls) k) at

-- Functions

abbrev pub function_keys : List (List ℕ)
function_keys = codes "causes" ∷ codes "gives" ∷ codes "name" ∷ codes "params" ∷ []

module _ (has_other has_causes : Bool) (causes gives name : Option (List ℕ)) where
  pub record HasFunctionMembers (params : Option (List Parameter)) (ms : Members) : Type 0 where
    pub others : HasOther function_keys ms has_other
    pub causes_under : IsUnder ArePositions (get_member (codes "causes") ms) causes
    pub causes_there : has_causes ≡ is_some (get_member (codes "causes") ms)
    pub gives_under : IsUnder ArePositions (get_member (codes "gives") ms) gives
    pub name_under : IsUnder IsText (get_member (codes "name") ms) name
    pub params_under : IsUnder AreParameters (get_member (codes "params") ms) params

abbrev pub entry_with : List ℕ → List ℕ → List ℕ → List Parameter → Entry
entry_with causes gives name params = record { name = name; gives = gives; causes = causes; params = params }

-- the function of such an object in the newer version
unfoldable pub newer_with : Bool → Option (List ℕ) → Option (List ℕ) → Option (List ℕ) → Option (List Parameter)
    → Option Entry
newer_with has_other causes gives name params =
    if has_other then None
    else option_and_then (λ c.
    option_and_then (λ g.
    if are_apart g c then option_and_then (λ n. option_map (λ p. entry_with c g n p) params) name else None)
    gives) causes

-- and in the older one
unfoldable pub older_with : Bool → Bool → Option (List ℕ) → Option (List ℕ) → Option (List Parameter) → Option Entry
older_with has_other has_causes gives name params =
    if has_other then None
    else if has_causes then None
    else option_and_then (λ p.
    if list_all is_older p
    then option_and_then (λ g. option_map (λ n. entry_with [] g n p) name) gives
    else None) params
