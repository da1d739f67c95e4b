-- Lists whose items are judged one by one, and objects by their keys.
use Rattle.std.specs.Prelude.{ℕ, ◌≡◌, ◌≢◌, ◌⊎◌, Bool, true, false, List, [], ◌∷◌, Option, Some, None, ⊤}
use Rattle.std.specs.Cmp.Lexicographic.{slice_cmp}
use Rattle.std.specs.Ordering.{nat_cmp}
use Rattle.std.specs.declared.cmp.Ordering.TheVariants.{Less}
use Rattle.serde_json.specs.Data.{Data, Members, no_members, member}
use Rattle.serde_json.specs.Find.{as_object, get_member}

-- the list, where all its items are such
abbrev pub kept : {X : Type 0} → Bool → List X → Option (List X)
kept true xs = Some xs
kept false xs = None

-- what was read of the value under a key, if there is one
abbrev pub IsUnder : {X : Type 0} → (Data → X → Type 0) → Option Data → Option X → Type 0
IsUnder {X} Is under None = (value : Data) (x : X) → under ≡ Some value → ¬ Is value x
IsUnder {X} Is under (Some x) = (value : Data) × (under ≡ Some value) × Is value x

-- the members, with that of the key before them, if there is one
abbrev pub with_member : List ℕ → Option Data → Members → Members
with_member key None ms = ms
with_member key (Some value) ms = member key value ms

-- the members under these keys
abbrev pub chosen : List (List ℕ) → (List ℕ → Option Data) → Members
chosen [] value_of = no_members
chosen (key ∷ keys) value_of = with_member key (value_of key) (chosen keys value_of)

abbrev pub IsNone : List ℕ → List (List ℕ) → Type 0
IsNone key [] = ⊤
IsNone key (k ∷ keys) = (key ≢ k) × IsNone key keys

abbrev pub IsOne : List ℕ → List (List ℕ) → Type 0
IsOne key [] = ⊥
IsOne key (k ∷ keys) = (key ≡ k) ⊎ IsOne key keys

-- whether there are members under other keys than these
abbrev pub HasOther : List (List ℕ) → Members → Bool → Type 0
HasOther keys ms true = (key : List ℕ) × (value : Data) × (get_member key ms ≡ Some value) × IsNone key keys
HasOther keys ms false = ms ≡ chosen keys (λ key. get_member key ms)

-- the keys rise
abbrev pub IsBelow : List ℕ → List (List ℕ) → Type 0
IsBelow key [] = ⊤
IsBelow key (k ∷ keys) = (slice_cmp nat_cmp key k ≡ Less) × IsBelow key keys

abbrev pub KeysRise : List (List ℕ) → Type 0
KeysRise [] = ⊤
KeysRise (key ∷ keys) = IsBelow key keys × KeysRise keys

abbrev pub or_none : Option Members → Members
or_none None = no_members
or_none (Some ms) = ms

-- the members of a value, or none
abbrev pub members_in : Data → Members
members_in value = or_none (as_object value)
