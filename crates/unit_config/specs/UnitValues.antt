-- What the go command tells a vet tool of a unit, and which value tells it. Of an object eight keys count, and others
-- are passed over. An object of `serde_json` has each key once: of equal keys of a text the last one counts. What the
-- keys mean says `golang.org/x/tools/go/analysis/unitchecker`, at its type `Config`.
use Rattle.std.specs.Prelude.{ℕ, ◌≡◌, ◌⊎◌, Bool, false, List, [], ◌∷◌, Option, Some, None, map, option_and_then, option_map, codes, string_bytes}
use Rattle.serde_json.specs.Data.{Data, Items, no_items, item, Members, object}
use Rattle.serde_json.specs.Find.{as_array, as_bool, as_object, as_str, get, get_member}
use Rattle.unit_config.specs.declared.unit.Unit.{Unit}
use Rattle.unit_config.specs.KeyedTexts.{texts_of}

-- strings under keys
abbrev pub Texts : Type 0
Texts = List ℕ → Option (List ℕ)

-- one unit
pub record UnitEntry : Type 0 where
  pub id : List ℕ
  pub folder : List ℕ
  pub path : List ℕ
  pub files : List (List ℕ)
  pub imports : Texts
  pub told : Texts
  pub is_silent : Bool
  pub output : List ℕ

abbrev pub unit_of : Unit → UnitEntry
unit_of u = record {
  id = string_bytes u.id;
  folder = string_bytes u.folder;
  path = string_bytes u.path;
  files = map string_bytes u.files.items;
  imports = texts_of u.imports;
  told = texts_of u.told;
  is_silent = u.is_silent;
  output = string_bytes u.output;
}

-- What stands under a key that counts, or is missing

-- a string that is not empty
abbrev pub filled : List ℕ → Option (List ℕ)
filled [] = None
filled (b ∷ bytes) = Some (b ∷ bytes)

abbrev pub filled_under : Option Data → Option (List ℕ)
filled_under under = option_and_then filled (option_and_then as_str under)

-- a list of strings; a missing one is empty
abbrev pub strings_of : Items → Option (List (List ℕ))
strings_of no_items = Some []
strings_of (item d ds) = option_and_then (λ s. option_map (λ rest. s ∷ rest) (strings_of ds)) (as_str d)

abbrev pub strings_in : Data → Option (List (List ℕ))
strings_in value = option_and_then strings_of (as_array value)

abbrev pub strings_under : Option Data → Option (List (List ℕ))
strings_under None = Some []
strings_under (Some value) = strings_in value

-- a truth value; a missing one is false
abbrev pub bool_under : Option Data → Option Bool
bool_under None = Some false
bool_under (Some value) = as_bool value

-- an object whose members are strings, and these are they
abbrev pub AreTexts : Data → Texts → Type 0
AreTexts value texts = (ms : Members) × (value ≡ object ms)
    × ((key : List ℕ) → option_map as_str (get_member key ms) ≡ option_map Some (texts key))

-- no object, or one that has a member which is no string
abbrev pub AreNoTexts : Data → Type 0
AreNoTexts value = (as_object value ≡ None)
    ⊎ ((ms : Members) × (value ≡ object ms)
    × (key : List ℕ) × (option_map as_str (get_member key ms) ≡ Some None))

-- such an object; a missing one has no members
abbrev pub AreTextsUnder : Option Data → Texts → Type 0
AreTextsUnder None texts = (key : List ℕ) → texts key ≡ None
AreTextsUnder (Some value) texts = AreTexts value texts

-- the value tells of this unit
pub record IsUnit (value : Data) (u : UnitEntry) : Type 0 where
  pub is_id : filled_under (get (codes "ID") value) ≡ Some u.id
  pub is_folder : filled_under (get (codes "Dir") value) ≡ Some u.folder
  pub is_path : filled_under (get (codes "ImportPath") value) ≡ Some u.path
  pub are_files : strings_under (get (codes "GoFiles") value) ≡ Some u.files
  pub are_imports : AreTextsUnder (get (codes "ImportMap") value) u.imports
  pub are_told : AreTextsUnder (get (codes "PackageVetx") value) u.told
  pub is_silent : bool_under (get (codes "VetxOnly") value) ≡ Some u.is_silent
  pub is_output : filled_under (get (codes "VetxOutput") value) ≡ Some u.output

-- it tells of none
abbrev pub IsNoUnit : Data → Type 0
IsNoUnit value = (u : UnitEntry) → ¬ IsUnit value u
