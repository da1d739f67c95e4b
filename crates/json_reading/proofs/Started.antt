-- What the first token of a value says.
use Rattle.std.proofs.Common.{◌≡◌, ℕ, ◌-◌, ◌<◌, List, [], ◌∷◌, Option, Some, None, option_map, ap, ap₂, ◌∙◌}
use Rattle.json.specs.Token.{Token}
use Rattle.json.specs.Json.{parse_map, value}
use Rattle.json.proofs.Grammar.{value_is}
use Rattle.serde_json.specs.Data.{Num, boolean, number, null, string, array, object, no_members}
use Rattle.serde_json.specs.Find.{as_u64}
use Rattle.serde_json.specs.Read.{of_json, converted, number_of}
use Rattle.json_reading.specs.Standing.{value_at, items_at, members_at}
use Rattle.json_reading.proofs.Turns.{list_there, object_there}

pub at_none : (depth : ℕ) (old : List Token) → old ≡ [] → value_at depth old ≡ None
at_none depth old e = ap (converted of_json) (ap (value depth) e ∙ value_is depth [])

pub at_list : (depth : ℕ) (old rest : List Token) → old ≡ Token.begin_array ∷ rest → 0 < depth
    → (0 < depth) × (value_at depth old ≡ parse_map array (items_at (depth - 1) rest))
at_list depth old rest e some = (some, ap (value_at depth) e ∙ list_there depth rest some)

pub at_object : (depth : ℕ) (old rest : List Token) → old ≡ Token.begin_object ∷ rest → 0 < depth
    → (0 < depth) × (value_at depth old ≡ parse_map object (members_at (depth - 1) no_members rest))
at_object depth old rest e some = (some, ap (value_at depth) e ∙ object_there depth rest some)

pub too_deep_list : (depth : ℕ) (old rest : List Token) → old ≡ Token.begin_array ∷ rest → depth ≡ 0
    → value_at depth old ≡ None
unfolding value
too_deep_list depth old rest e none = ap (converted of_json) (ap₂ value none e)

pub too_deep_object : (depth : ℕ) (old rest : List Token) → old ≡ Token.begin_object ∷ rest → depth ≡ 0
    → value_at depth old ≡ None
unfolding value
too_deep_object depth old rest e none = ap (converted of_json) (ap₂ value none e)

pub at_text : (depth : ℕ) (old rest : List Token) (s : List ℕ) → old ≡ Token.string s ∷ rest
    → value_at depth old ≡ Some (string s, rest)
at_text depth old rest s e = ap (converted of_json) (ap (value depth) e ∙ value_is depth (Token.string s ∷ rest))

pub at_boolean : (depth : ℕ) (old rest : List Token) (b : _) → old ≡ Token.boolean b ∷ rest
    → value_at depth old ≡ Some (boolean b, rest)
at_boolean depth old rest b e = ap (converted of_json) (ap (value depth) e ∙ value_is depth (Token.boolean b ∷ rest))

pub at_null : (depth : ℕ) (old rest : List Token) → old ≡ Token.null ∷ rest → value_at depth old ≡ Some (null, rest)
at_null depth old rest e = ap (converted of_json) (ap (value depth) e ∙ value_is depth (Token.null ∷ rest))

number_there : (depth : ℕ) (old rest : List Token) (s : List ℕ) (o : Option Num) → old ≡ Token.number s ∷ rest
    → number_of s ≡ o
    → value_at depth old ≡ option_map (λ d. (d, rest)) (option_map number o)
number_there depth old rest s o e is =
    ap (converted of_json) (ap (value depth) e ∙ value_is depth (Token.number s ∷ rest))
    ∙ ap (λ x. option_map (λ d. (d, rest)) (option_map number x)) is

pub at_number : (depth : ℕ) (old rest : List Token) (s : List ℕ) (n : Option ℕ) (o : Option Num)
    → old ≡ Token.number s ∷ rest
    → number_of s ≡ o
    → Some n ≡ option_map as_u64 o
    → (x : Num) × (value_at depth old ≡ Some (number x, rest)) × (n ≡ as_u64 x)
at_number depth old rest s n None e is same = absurd (cc)
at_number depth old rest s n (Some x) e is same =
    (x, number_there depth old rest s (Some x) e is, cc (same))

pub no_number : (depth : ℕ) (old rest : List Token) (s : List ℕ) (o : Option Num) → old ≡ Token.number s ∷ rest
    → number_of s ≡ o
    → None ≡ option_map as_u64 o
    → value_at depth old ≡ None
no_number depth old rest s None e is same = number_there depth old rest s None e is
no_number depth old rest s (Some x) e is same = absurd (cc)
