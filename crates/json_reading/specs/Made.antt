-- Objects of which each member is read by its key, and what is made of all.
use Rattle.std.specs.Prelude.{ℕ, ◌≡◌, ◌≢◌, ◌⊎◌, Bool, true, false, List, Option, Some, None, ⊤, codes}
use Rattle.serde_json.specs.Data.{Data, Members, object, no_members, put}
use Rattle.serde_json.specs.Find.{as_object, get_member}

-- the members, with that of the key among them, if there is one
abbrev pub with_put : List ℕ → Option Data → Members → Members
with_put key None others = others
with_put key (Some value) others = put key value others

-- What is made of an object

-- an object of whose members this is made
abbrev pub IsObjectOf : {X : Type 0} → (Members → X → Type 0) → Data → X → Type 0
IsObjectOf Are value x = (ms : Members) × (value ≡ object ms) × Are ms x

-- no object, or one of whose members none is made
abbrev pub IsNoObjectOf : (Members → Type 0) → Data → Type 0
IsNoObjectOf NoneAre value = (as_object value ≡ None) ⊎ ((ms : Members) × (value ≡ object ms) × NoneAre ms)

-- of the member under this key, and of the others, these two are made
module _ {X Y : Type 0} (key : List ℕ) (Is : Data → X → Type 0) (Are : Members → Y → Type 0) where
  pub record IsMadeWith (ms : Members) (item : X × Y) : Type 0 where
    pub value : Data
    pub others : Members
    pub not_there : get_member key others ≡ None
    pub are_members : ms ≡ put key value others
    pub is_value : Is value item.0
    pub are_others : Are others item.1

-- the value is missing, or none
abbrev pub IsMissing : (Data → Type 0) → Option Data → Type 0
IsMissing IsNone under = (under ≡ None) ⊎ ((value : Data) × (under ≡ Some value) × IsNone value)

-- of the member under this key, or of the others, none is made
pub record IsNoneWith (key : List ℕ) (IsNone : Data → Type 0) (NoneAre : Members → Type 0) (ms : Members)
    : Type 0 where
  pub under : Option Data
  pub others : Members
  pub not_there : get_member key others ≡ None
  pub are_members : ms ≡ with_put key under others
  pub is_none : IsMissing IsNone under ⊎ NoneAre others

-- no members
abbrev pub IsAll : Members → ⊤ → Type 0
IsAll ms found = ms ≡ no_members

abbrev pub AreSome : Members → Type 0
AreSome ms = ms ≢ no_members

-- An object with two members, one under the key, and a version

abbrev pub IsAny : Data → ⊤ → Type 0
IsAny value found = ⊤

abbrev pub IsVersioned : {X : Type 0} → List ℕ → (Data → X → Type 0) → Data → X → Type 0
IsVersioned key Is value x =
    IsObjectOf (IsMadeWith key Is (IsMadeWith (codes "version") IsAny IsAll)) value (x, (tt, tt))

abbrev pub IsNotVersioned : List ℕ → (Data → Type 0) → Data → Type 0
IsNotVersioned key IsNone value =
    IsNoObjectOf (IsNoneWith key IsNone (IsNoneWith (codes "version") (λ any. ⊥) AreSome)) value

-- What was read of members

-- what was read of the value under a key, if there is one
abbrev pub IsRead : {X : Type 0} → (Data → X → Type 0) → (Data → Type 0) → Option Data → Option X → Type 0
IsRead Is IsNone under None = IsMissing IsNone under
IsRead Is IsNone under (Some x) = (value : Data) × (under ≡ Some value) × Is value x

-- this was read of the member under a key, if there is one, and that holds of the others
module _ {X : Type 0} (key : List ℕ) (Is : Data → X → Type 0) (IsNone : Data → Type 0) where
  pub record HasUnder (HasOthers : Members → Type 0) (found : Option X) (ms : Members) : Type 0 where
    pub under : Option Data
    pub others : Members
    pub not_there : get_member key others ≡ None
    pub are_members : ms ≡ with_put key under others
    pub is_read : IsRead Is IsNone under found
    pub are_others : HasOthers others

-- whether there are no members
abbrev pub AreNone : Bool → Members → Type 0
AreNone true ms = ms ≡ no_members
AreNone false ms = ms ≢ no_members
