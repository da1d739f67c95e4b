-- Bytes have one answer.
use Rattle.std.proofs.Common.{◌≡◌, inl, inr, ℕ, List, Option, Some, None, codes, option_map, refl, sym, ap, subst, ◌∙◌}
use Rattle.serde_json.specs.Data.{Data}
use Rattle.serde_json.specs.Find.{as_object, as_str, get, get_member}
use Rattle.unit_config.specs.declared.fault.UnitFault.{UnitFault}
use Rattle.unit_config.specs.declared.fault.UnitFault.TheVariants.{NotJson, WrongShape, OutOfMemory}
use Rattle.unit_config.specs.UnitLaws.{OneAnswer}
use Rattle.unit_config.specs.UnitTexts.{IsJsonOf, IsUnitFault, IsUnitText}
use Rattle.unit_config.specs.UnitValues.{Texts, UnitEntry, AreTextsUnder, IsUnit}
use Rattle.unit_config.proofs.UnitsRead.{none_some, some_same}

map_some : (a b : Option (List ℕ)) → option_map Some a ≡ option_map Some b → a ≡ b
map_some None None e = refl
map_some None (Some b) e = absurd (none_some e)
map_some (Some a) None e = absurd (none_some (sym e))
map_some (Some a) (Some b) e = some_same e

same_texts : (under : Option Data) (texts others : Texts) → AreTextsUnder under texts → AreTextsUnder under others
    → others ≡ texts
same_texts None texts others h k = λ i. λ key. (k key ∙ sym (h key)) i
same_texts (Some value) texts others h k =
    let same : k.0 ≡ h.0 = some_same (ap as_object (sym k.1 ∙ h.1)) in
    λ i. λ key. map_some (others key) (texts key)
    (sym (k.2 key) ∙ ap (λ ms. option_map as_str (get_member key ms)) same ∙ h.2 key) i

same_unit : (value : Data) (u other : UnitEntry) → IsUnit value u → IsUnit value other → other ≡ u
same_unit value u other h k = λ i. record {
  id = some_same (sym k.is_id ∙ h.is_id) i;
  folder = some_same (sym k.is_folder ∙ h.is_folder) i;
  path = some_same (sym k.is_path ∙ h.is_path) i;
  files = some_same (sym k.are_files ∙ h.are_files) i;
  imports = same_texts (get (codes "ImportMap") value) u.imports other.imports h.are_imports k.are_imports i;
  told = same_texts (get (codes "PackageVetx") value) u.told other.told h.are_told k.are_told i;
  is_silent = some_same (sym k.is_silent ∙ h.is_silent) i;
  output = some_same (sym k.is_output ∙ h.is_output) i;
}

same_value : (bytes : List ℕ) (v w : Data) → IsJsonOf bytes v → IsJsonOf bytes w → v ≡ w
same_value bytes v w h k = some_same (sym h.is_json ∙ k.is_json)

one_unit : (bytes : List ℕ) (u other : UnitEntry) → IsUnitText bytes u → IsUnitText bytes other → other ≡ u
one_unit bytes u other h k =
    same_unit h.value u other h.is_unit
    (subst (λ v. IsUnit v other) (same_value bytes k.value h.value k.is_json h.is_json) k.is_unit)

no_fault : (bytes : List ℕ) (u : UnitEntry) (fault : UnitFault) → IsUnitText bytes u → IsUnitFault bytes fault
    → fault ≡ OutOfMemory
no_fault bytes u NotJson h (inl other) = absurd (other h.is_json.is_utf8)
no_fault bytes u NotJson h (inr none) = absurd (none_some (sym none ∙ h.is_json.is_json))
no_fault bytes u WrongShape h is =
    absurd (is.2 u (subst (λ v. IsUnit v u) (same_value bytes h.value is.0 h.is_json is.1) h.is_unit))
no_fault bytes u OutOfMemory h is = refl

pub one_answer : OneAnswer
one_answer = record {
  one_unit = λ bytes u other h k. one_unit bytes u other h k;
  no_fault = λ bytes u fault h is. no_fault bytes u fault h is;
}
