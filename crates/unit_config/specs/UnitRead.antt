-- What serves the proofs: what is read of the members of a unit.
use Rattle.std.specs.Prelude.{ℕ, ◌≡◌, Bool, List, Option, Some, None, ⊤, codes, map, option_map, string_bytes}
use Rattle.json.specs.Token.{Token}
use Rattle.serde_json.specs.Data.{Data, Members}
use Rattle.serde_json.specs.Find.{get_member}
use Rattle.json_reading.specs.declared.stop.Stop.{Stop}
use Rattle.json_reading.specs.declared.stop.Stop.TheVariants as stop
use Rattle.unit_config.specs.declared.fault.UnitFault.{UnitFault}
use Rattle.unit_config.specs.declared.fault.UnitFault.TheVariants.{NotJson, OutOfMemory}
use Rattle.unit_config.specs.declared.members.UnitMembers.{UnitMembers}
use Rattle.unit_config.specs.KeyedTexts.{texts_of}
use Rattle.unit_config.specs.UnitTexts.{IsNoJson}
use Rattle.unit_config.specs.UnitValues.{AreNoTexts, AreTextsUnder, Texts, UnitEntry, bool_under, filled_under, strings_under}

-- the value that stands there was passed, and this was found in it
abbrev pub ReadsIn : {X : Type 0} → (Data → X) → Option (Data × List Token) → List Token → X → Type 0
ReadsIn {X} find standing new found = (value : Data) × (standing ≡ Some (value, new)) × (found ≡ find value)

-- these texts were read of what stands under a key, if anything does
abbrev pub AreTextsRead : Option Data → Option Texts → Type 0
AreTextsRead under None = (value : Data) × (under ≡ Some value) × AreNoTexts value
AreTextsRead under (Some texts) = AreTextsUnder under texts

-- the members of an object from which these were read
module _ (id folder path output : Option (List ℕ)) (files : Option (List (List ℕ))) where
  pub record HasUnitMembers (imports told : Option Texts) (is_silent : Option Bool) (ms : Members) : Type 0 where
    pub id_under : id ≡ filled_under (get_member (codes "ID") ms)
    pub folder_under : folder ≡ filled_under (get_member (codes "Dir") ms)
    pub path_under : path ≡ filled_under (get_member (codes "ImportPath") ms)
    pub files_under : files ≡ strings_under (get_member (codes "GoFiles") ms)
    pub imports_under : AreTextsRead (get_member (codes "ImportMap") ms) imports
    pub told_under : AreTextsRead (get_member (codes "PackageVetx") ms) told
    pub silent_under : is_silent ≡ bool_under (get_member (codes "VetxOnly") ms)
    pub output_under : output ≡ filled_under (get_member (codes "VetxOutput") ms)

abbrev pub HasMembers : UnitMembers → Members → Type 0
HasMembers read = HasUnitMembers
    (option_map string_bytes read.id) (option_map string_bytes read.folder)
    (option_map string_bytes read.path) (option_map string_bytes read.output)
    (option_map (λ list. map string_bytes list.items) read.files)
    (option_map texts_of read.imports) (option_map texts_of read.told) read.is_silent

-- the unit of such an object
infixl 10 ◌>>=◌
abbrev pub ◌>>=◌ : {X Y : Type 0} → Option X → (X → Option Y) → Option Y
None >>= f = None
Some x >>= f = f x

unfoldable pub unit_with : Option (List ℕ) → Option (List ℕ) → Option (List ℕ) → Option (List ℕ)
    → Option (List (List ℕ))
    → Option Texts
    → Option Texts
    → Option Bool
    → Option UnitEntry
unit_with id folder path output files imports told is_silent = do
  i ← id
  f ← folder
  p ← path
  fs ← files
  is ← imports
  ts ← told
  s ← is_silent
  o ← output
  Some (record { id = i; folder = f; path = p; files = fs; imports = is; told = ts; is_silent = s; output = o })

abbrev pub RefusesBytes : List ℕ → Stop → Type 0
RefusesBytes bytes stop.NotJson = IsNoJson bytes
RefusesBytes bytes stop.OutOfMemory = ⊤

abbrev pub fault_of_stop : Stop → UnitFault
fault_of_stop stop.NotJson = NotJson
fault_of_stop stop.OutOfMemory = OutOfMemory
