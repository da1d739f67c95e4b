-- What stands at the tokens of a text, and what is read of it.
use Rattle.std.specs.Prelude.{ℕ, ◌≡◌, ◌⊎◌, Bool, true, false, List, [], ◌∷◌, length, Option, Some, None, ⊤}
use Rattle.std.specs.List.{AllZip}
use Rattle.json.specs.Token.{Token}
use Rattle.json.specs.Json.{value, items, members}
use Rattle.serde_json.specs.Data.{Num, Data, boolean, number, string, array, object, Items, Members, no_members}
use Rattle.serde_json.specs.Find.{as_array, as_bool, as_number, as_object, as_str, as_u64}
use Rattle.serde_json.specs.Read.{of_json, of_items, of_members, converted, read}
use Rattle.serde_json.specs.View.{items_of}
use Rattle.json_reading.specs.declared.leaf.Leaf.{Leaf}
use Rattle.json_reading.specs.declared.leaf.Leaf.TheVariants as leaf
use Rattle.json_reading.specs.declared.stop.Stop.{Stop}
use Rattle.json_reading.specs.declared.stop.Stop.TheVariants.{NotJson, OutOfMemory}

-- What stands there

-- the value that stands at the tokens, with lists and objects nested no deeper than the number, and what follows it
abbrev pub value_at : ℕ → List Token → Option (Data × List Token)
value_at depth tokens = converted of_json (value depth tokens)

-- the items that stand there, up to the bracket that closes their list
abbrev pub items_at : ℕ → List Token → Option (Items × List Token)
items_at depth tokens = converted of_items (items (value depth) (length tokens) tokens)

-- the members that stand there, up to the brace that closes their object, put among those that were found before
abbrev pub members_at : ℕ → Members → List Token → Option (Members × List Token)
members_at depth found tokens = converted (λ ms. of_members ms found) (members (value depth) (length tokens) tokens)

-- What is read of it

-- what stands there was passed
abbrev pub Passes : {A : Type 0} → Option (A × List Token) → List Token → Type 0
Passes {A} standing new = (a : A) × (standing ≡ Some (a, new))

-- this was taken as that, or as nothing where it is none
abbrev pub Judges : {A X : Type 0} → (A → X → Type 0) → (A → Type 0) → A → Option X → Type 0
Judges Is IsNone a None = IsNone a
Judges Is IsNone a (Some x) = Is a x

-- nothing is this
abbrev pub Refutes : {A X : Type 0} → (A → X → Type 0) → A → Type 0
Refutes {A} {X} Is a = (x : X) → ¬ Is a x

-- the value that stands there was passed, and taken as this
module _ {X : Type 0} (Is : Data → X → Type 0) (IsNone : Data → Type 0) where
  pub record ReadsAs (standing : Option (Data × List Token)) (new : List Token) (found : Option X) : Type 0 where
    pub value : Data
    pub stands : standing ≡ Some (value, new)
    pub judged : Judges Is IsNone value found

-- one of the list is this
abbrev pub SomeIs : {A : Type 0} → (A → Type 0) → List A → Type 0
SomeIs P [] = ⊥
SomeIs P (a ∷ rest) = P a ⊎ SomeIs P rest

-- the items that stand there were passed, and taken as these
module _ {X : Type 0} (Is : Data → X → Type 0) (IsNone : Data → Type 0) where
  pub record ReadsItems (standing : Option (Items × List Token)) (new : List Token) (found : Option (List X))
      : Type 0 where
    pub values : List Data
    pub stands : standing ≡ Some (items_of values, new)
    pub judged : Judges (AllZip Is) (SomeIs IsNone) values found

-- a list of such items
abbrev pub IsListOf : {X : Type 0} → (Data → X → Type 0) → Data → List X → Type 0
IsListOf Is value xs = (values : List Data) × (value ≡ array (items_of values)) × AllZip Is values xs

-- no list, or one of which an item is none
abbrev pub IsNoList : (Data → Type 0) → Data → Type 0
IsNoList IsNone value =
    (as_array value ≡ None) ⊎ ((values : List Data) × (value ≡ array (items_of values)) × SomeIs IsNone values)

-- a value, as far as it is none that holds others
abbrev pub IsLeaf : Data → Leaf → Type 0
IsLeaf value (leaf.Text s) = value ≡ string s.now
IsLeaf value (leaf.Number n) = (x : Num) × (value ≡ number x) × (n ≡ as_u64 x)
IsLeaf value (leaf.Bool b) = value ≡ boolean b
IsLeaf value leaf.Other = (as_str value ≡ None) × (as_number value ≡ None) × (as_bool value ≡ None)

pub record ReadsLeaf (standing : Option (Data × List Token)) (new : List Token) (found : Leaf) : Type 0 where
  pub value : Data
  pub stands : standing ≡ Some (value, new)
  pub is_leaf : IsLeaf value found

-- the items of the value were read, where it is a list: what held of no items holds of them
abbrev pub IsListRead : (List Data → Type 0) → (List Data → Type 0) → Data → Bool → Type 0
IsListRead Held Holds value true = (ds : List Data) × (value ≡ array (items_of ds)) × (Held [] → Holds ds)
IsListRead Held Holds value false = as_array value ≡ None

module _ (Held Holds : List Data → Type 0) where
  pub record ReadsList (standing : Option (Data × List Token)) (new : List Token) (is_list : Bool) : Type 0 where
    pub value : Data
    pub stands : standing ≡ Some (value, new)
    pub is_read : IsListRead Held Holds value is_list

-- the members of the value were read, where it is an object: what held of no members holds of them
abbrev pub IsObjectRead : (Members → Type 0) → (Members → Type 0) → Data → Bool → Type 0
IsObjectRead Held Holds value true = (ms : Members) × (value ≡ object ms) × (Held no_members → Holds ms)
IsObjectRead Held Holds value false = as_object value ≡ None

module _ (Held Holds : Members → Type 0) where
  pub record ReadsObject (standing : Option (Data × List Token)) (new : List Token) (is_object : Bool) : Type 0 where
    pub value : Data
    pub stands : standing ≡ Some (value, new)
    pub is_read : IsObjectRead Held Holds value is_object

-- Why nothing is read

-- what stands there was not read, for this reason
abbrev pub Stops : {A : Type 0} → Option (A × List Token) → Stop → Type 0
Stops standing NotJson = standing ≡ None
Stops standing OutOfMemory = ⊤

-- a text was not read, for this reason
abbrev pub RefusesText : List ℕ → Stop → Type 0
RefusesText text NotJson = read text ≡ None
RefusesText text OutOfMemory = ⊤
