-- The unit of an object with such members.
use Rattle.std.proofs.Common.{◌≡◌, inl, inr, ℕ, Bool, List, Option, Some, None, codes, option_map, refl, sym, ap, subst, ◌∙◌}
use Rattle.serde_json.specs.Data.{Data, object, Members}
use Rattle.serde_json.specs.Find.{as_object, as_str, get_member}
use Rattle.json_reading.specs.Standing.{Judges}
use Rattle.unit_config.specs.declared.unit.Unit.{Unit}
use Rattle.unit_config.specs.UnitRead.{AreTextsRead, HasUnitMembers, unit_with}
use Rattle.unit_config.specs.UnitValues.{Texts, UnitEntry, AreNoTexts, AreTexts, AreTextsUnder, IsNoUnit, IsUnit, filled_under, unit_of}
use Rattle.unit_config.proofs.StringsRead.{nothing_under}

pub some_same : {A : Type 0} {a b : A} → Some a ≡ Some b → a ≡ b
some_same e = cc

pub none_some : {A : Type 0} {a : A} → None ≡ Some a → ⊥
none_some e = absurd (cc)

-- Strings under keys

pub texts_judged : (value : Data) (found : Option Texts) → Judges AreTexts AreNoTexts value found
    → AreTextsRead (Some value) found
texts_judged value None h = (value, refl, h)
texts_judged value (Some texts) h = h

not_both : (o : Option (List ℕ)) → Some None ≡ option_map Some o → ⊥
not_both None e = absurd (none_some (sym e))
not_both (Some t) e = none_some (some_same e)

texts_or_not : (value : Data) (texts : Texts) → AreNoTexts value → AreTexts value texts → ⊥
texts_or_not value texts (inl none) are = none_some (sym none ∙ ap as_object are.1)
texts_or_not value texts (inr some) are =
    let same : some.0 ≡ are.0 = some_same (ap as_object (sym some.1 ∙ are.1)) in
    not_both (texts some.2)
    (sym some.3 ∙ ap (λ ms. option_map as_str (get_member some.2 ms)) same ∙ are.2 some.2)

no_texts : (under : Option Data) (texts : Texts) → AreTextsRead under None → AreTextsUnder under texts → ⊥
no_texts None texts none are = none_some none.1
no_texts (Some value) texts none are =
    texts_or_not value texts (subst AreNoTexts (sym (some_same none.1)) none.2) are

-- Units

module _ (ms : Members) where
  pub unit_made : (id folder path output : Option (List ℕ)) (files : Option (List (List ℕ))) (imports told : Option Texts) (is_silent : Option Bool) (u : UnitEntry)
      → unit_with id folder path output files imports told is_silent ≡ Some u
      → HasUnitMembers id folder path output files imports told is_silent ms
      → IsUnit (object ms) u
  unfolding unit_with
  unit_made None folder path output files imports told is_silent u e h = absurd (none_some e)
  unit_made (Some i) None path output files imports told is_silent u e h = absurd (none_some e)
  unit_made (Some i) (Some f) None output files imports told is_silent u e h = absurd (none_some e)
  unit_made (Some i) (Some f) (Some p) output None imports told is_silent u e h = absurd (none_some e)
  unit_made (Some i) (Some f) (Some p) output (Some fs) None told is_silent u e h = absurd (none_some e)
  unit_made (Some i) (Some f) (Some p) output (Some fs) (Some is) None is_silent u e h = absurd (none_some e)
  unit_made (Some i) (Some f) (Some p) output (Some fs) (Some is) (Some ts) None u e h = absurd (none_some e)
  unit_made (Some i) (Some f) (Some p) None (Some fs) (Some is) (Some ts) (Some s) u e h = absurd (none_some e)
  unit_made (Some i) (Some f) (Some p) (Some o) (Some fs) (Some is) (Some ts) (Some s) u e h =
      subst (IsUnit (object ms)) (some_same e) (record {
        is_id = sym h.id_under;
        is_folder = sym h.folder_under;
        is_path = sym h.path_under;
        are_files = sym h.files_under;
        are_imports = h.imports_under;
        are_told = h.told_under;
        is_silent = sym h.silent_under;
        is_output = sym h.output_under;
      })

  pub unit_none : (id folder path output : Option (List ℕ)) (files : Option (List (List ℕ))) (imports told : Option Texts) (is_silent : Option Bool) (u : UnitEntry)
      → unit_with id folder path output files imports told is_silent ≡ None
      → HasUnitMembers id folder path output files imports told is_silent ms
      → IsUnit (object ms) u
      → ⊥
  unfolding unit_with
  unit_none None folder path output files imports told is_silent u e h k = none_some (h.id_under ∙ k.is_id)
  unit_none (Some i) None path output files imports told is_silent u e h k =
      none_some (h.folder_under ∙ k.is_folder)
  unit_none (Some i) (Some f) None output files imports told is_silent u e h k =
      none_some (h.path_under ∙ k.is_path)
  unit_none (Some i) (Some f) (Some p) output None imports told is_silent u e h k =
      none_some (h.files_under ∙ k.are_files)
  unit_none (Some i) (Some f) (Some p) output (Some fs) None told is_silent u e h k =
      no_texts (get_member (codes "ImportMap") ms) u.imports h.imports_under k.are_imports
  unit_none (Some i) (Some f) (Some p) output (Some fs) (Some is) None is_silent u e h k =
      no_texts (get_member (codes "PackageVetx") ms) u.told h.told_under k.are_told
  unit_none (Some i) (Some f) (Some p) output (Some fs) (Some is) (Some ts) None u e h k =
      none_some (h.silent_under ∙ k.is_silent)
  unit_none (Some i) (Some f) (Some p) None (Some fs) (Some is) (Some ts) (Some s) u e h k =
      none_some (h.output_under ∙ k.is_output)
  unit_none (Some i) (Some f) (Some p) (Some o) (Some fs) (Some is) (Some ts) (Some s) u e h k =
      none_some (sym e)

  pub unit_judged : (id folder path output : Option (List ℕ)) (files : Option (List (List ℕ))) (imports told : Option Texts) (is_silent : Option Bool) (found : Option Unit)
      → option_map unit_of found ≡ unit_with id folder path output files imports told is_silent
      → HasUnitMembers id folder path output files imports told is_silent ms
      → Judges (λ v u. IsUnit v (unit_of u)) IsNoUnit (object ms) found
  unit_judged id folder path output files imports told is_silent None e h =
      λ u k. unit_none id folder path output files imports told is_silent u (sym e) h k
  unit_judged id folder path output files imports told is_silent (Some u) e h =
      unit_made id folder path output files imports told is_silent (unit_of u) (sym e) h

pub no_unit : (value : Data) → as_object value ≡ None → IsNoUnit value
no_unit value none u k =
    none_some (sym (ap filled_under (nothing_under (codes "ID") value none)) ∙ k.is_id)
