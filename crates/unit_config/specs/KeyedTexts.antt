-- Strings under keys, as entries one after the other, of which the last one of a key counts.
use Rattle.std.specs.Prelude.{ℕ, ◌≡◌, ◌↔◌, Bool, true, List, [], ◌∷◌, Option, Some, None, if◌then◌else◌, is_some, option_and_then, option_map, map, string_bytes, Contains}
use Rattle.std.specs.Cmp.Lexicographic.{slice_cmp}
use Rattle.std.specs.List.{list_all}
use Rattle.std.specs.List.Sorted.{IsStrictlySortedBy}
use Rattle.std.specs.Ordering.{nat_cmp}
use Rattle.std.specs.Str.{bytes_eq}
use Rattle.serde_json.specs.Data.{Members}
use Rattle.serde_json.specs.Find.{as_str, get_member}
use Rattle.unit_config.specs.declared.texts.KeyedText.{KeyedText}
use Rattle.unit_config.specs.declared.texts.Texts.{Texts}

-- what stands under a key: a string, or another value
pub record Keyed : Type 0 where
  pub key : List ℕ
  pub text : Option (List ℕ)

abbrev pub keyed_of : KeyedText → Keyed
keyed_of entry = record { key = string_bytes entry.key; text = option_map string_bytes entry.text }

-- the last entry of the key; else what was found before
abbrev pub last_from : Option Keyed → List ℕ → List Keyed → Option Keyed
last_from found key [] = found
last_from found key (entry ∷ entries) =
    last_from (if bytes_eq entry.key key then Some entry else found) key entries

abbrev pub last_of : List ℕ → List Keyed → Option Keyed
last_of = last_from None

abbrev pub text_of : Keyed → Option (List ℕ)
text_of entry = entry.text

-- the string under a key
abbrev pub text_at : List Keyed → List ℕ → Option (List ℕ)
text_at entries key = option_and_then text_of (last_of key entries)

abbrev pub texts_of : Texts → List ℕ → Option (List ℕ)
texts_of texts = text_at (map keyed_of texts.entries.items)

-- the keys under which strings stand, in the order of their bytes, each once
pub record AreKeys (texts : List ℕ → Option (List ℕ)) (keys : List (List ℕ)) : Type 0 where
  pub each : (key : List ℕ) → Contains keys key ↔ (is_some (texts key) ≡ true)
  pub ascend : IsStrictlySortedBy (slice_cmp nat_cmp) keys

-- the key of an entry, where a string stands under it
abbrev pub if_told : (List ℕ → Option (List ℕ)) → List ℕ → List (List ℕ)
if_told texts key = if is_some (texts key) then key ∷ [] else []

abbrev pub key_told : (List ℕ → Option (List ℕ)) → Keyed → List (List ℕ)
key_told texts entry = if_told texts entry.key

-- there is a string, or nothing
abbrev pub has_text : Option Keyed → Bool
has_text None = true
has_text (Some entry) = is_some entry.text

-- the entry is a string, or another of its key counts that is one
abbrev pub is_told : List Keyed → Keyed → Bool
is_told entries entry = if is_some entry.text then true else has_text (last_of entry.key entries)

abbrev pub are_told : List Keyed → Bool
are_told entries = list_all (is_told entries) entries

-- under each key of the members stands what the last entry of that key has
abbrev pub HasTexts : List Keyed → Members → Type 0
HasTexts entries ms =
    (key : List ℕ) → option_map text_of (last_of key entries) ≡ option_map as_str (get_member key ms)
