-- The packages of a text, read piece by piece.
use Rattle.std.proofs.Common.{◌≡◌, inl, inr, ℕ, ◌++◌, ◌∷◌, [], List, Option, Some, None, option_and_then, option_map, refl, sym, ap, subst, ◌∙◌}
use Rattle.std.specs.List.{AllZip}
use Rattle.serde_json.specs.Data.{Data}
use Rattle.json_reading.specs.Standing.{SomeIs}
use Rattle.json_reading.specs.declared.stop.Stop.{Stop}
use Rattle.json_reading.specs.declared.stop.Stop.TheVariants.{NotJson, OutOfMemory}
use Rattle.package_list.specs.ListedValues.{PackageEntry, package_in}
use Rattle.package_list.specs.ListRead.{both_lists, one_more, packages_in, AreJudged, RefusesPiece, RefusesPieces}
use Rattle.package_list.specs.ListTexts.{AreListedIn, AreValuesIn, IsJsonOf, IsNoJson, IsNoPackage, IsPackage}
use Rattle.package_list.specs.Pieces.{pieces}

-- what was found in the pieces before these, with what is found in these, is what the text lists
pub record Continues (text rest : List ℕ) (found : Option (List PackageEntry)) : Type 0 where
  pub completes : (values : List Data) → AreValuesIn rest values → AreJudged text (both_lists found (packages_in values))
  pub refuses : SomeIs IsNoJson (pieces rest) → SomeIs IsNoJson (pieces text)

from_none : (found : Option (List PackageEntry)) → both_lists (Some []) found ≡ found
from_none None = refl
from_none (Some entries) = refl

pub begins : (text : List ℕ) → Continues text text (Some [])
begins text = record {
  completes = λ values h. (values, h, from_none (packages_in values));
  refuses = λ h. h;
}

grouped : (xs : List PackageEntry) (e : PackageEntry) (ys : List PackageEntry) → (xs ++ e ∷ []) ++ ys ≡ xs ++ e ∷ ys
grouped [] e ys = refl
grouped (x ∷ xs) e ys = ap (λ zs. x ∷ zs) (grouped xs e ys)

then_rest : (found : Option (List PackageEntry)) (entry : Option PackageEntry) (rest : Option (List PackageEntry))
    → both_lists (one_more found entry) rest
    ≡ both_lists found (option_and_then (λ e. option_map (λ es. e ∷ es) rest) entry)
then_rest None entry rest = refl
then_rest (Some xs) None rest = refl
then_rest (Some xs) (Some e) None = refl
then_rest (Some xs) (Some e) (Some ys) = ap Some (grouped xs e ys)

module _ (text rest after piece : List ℕ) (found : Option (List PackageEntry)) (cut : pieces rest ≡ piece ∷ pieces after)
    (h : Continues text rest found) where
  pub goes_on : (value : Data) (entry : Option PackageEntry) (more : Option (List PackageEntry)) → IsJsonOf piece value
      → entry ≡ package_in value
      → more ≡ one_more found entry
      → Continues text after more
  goes_on value entry more is listed added = record {
    completes = λ values each.
        let all = h.completes (value ∷ values) (subst (λ ps. AllZip IsJsonOf ps (value ∷ values)) (sym cut) (is, each)) in (
          all.0,
          all.1,
          ap (λ o. both_lists o (packages_in values)) (added ∙ ap (one_more found) listed)
              ∙ then_rest found (package_in value) (packages_in values)
              ∙ all.2,
        );
    refuses = λ none. h.refuses (subst (SomeIs IsNoJson) (sym cut) (inr none));
  }

  pub refused : IsNoJson piece → SomeIs IsNoJson (pieces text)
  refused none = h.refuses (subst (SomeIs IsNoJson) (sym cut) (inl none))

  pub refused_so : (stop : Stop) → RefusesPiece piece stop → RefusesPieces text stop
  refused_so NotJson none = refused none
  refused_so OutOfMemory h = tt

none_after : (xs : List PackageEntry) → xs ++ [] ≡ xs
none_after [] = refl
none_after (x ∷ xs) = ap (λ ys. x ∷ ys) (none_after xs)

no_more : (found : Option (List PackageEntry)) → both_lists found (Some []) ≡ found
no_more None = refl
no_more (Some xs) = ap Some (none_after xs)

pub ends : (text rest : List ℕ) (found : Option (List PackageEntry)) → Continues text rest found → pieces rest ≡ []
    → AreJudged text found
ends text rest found h none =
    let all = h.completes [] (subst (λ ps. AllZip IsJsonOf ps []) (sym none) tt) in
    (all.0, all.1, sym (no_more found) ∙ all.2)

-- What was found, as what the text lists

some_none : {A : Type 0} {a : A} → Some a ≡ None → ⊥
some_none e = absurd (cc)

same_list : {xs ys : List PackageEntry} → Some xs ≡ Some ys → xs ≡ ys
same_list e = cc

each_more : (value : Data) (values : List Data) (entries : List PackageEntry) (entry : Option PackageEntry) (rest : Option (List PackageEntry))
    → package_in value ≡ entry
    → ((es : List PackageEntry) → rest ≡ Some es → AllZip IsPackage values es)
    → Some entries ≡ option_and_then (λ e. option_map (λ es. e ∷ es) rest) entry
    → AllZip IsPackage (value ∷ values) entries
each_more value values entries None rest is each e = absurd (some_none e)
each_more value values entries (Some x) None is each e = absurd (some_none e)
each_more value values entries (Some x) (Some xs) is each e =
    subst (AllZip IsPackage (value ∷ values)) (sym (same_list e)) (is, each xs refl)

each_is : (values : List Data) (entries : List PackageEntry) → Some entries ≡ packages_in values
    → AllZip IsPackage values entries
each_is [] entries e = subst (AllZip IsPackage []) (sym (same_list e)) tt
each_is (value ∷ values) entries e =
    each_more value values entries (package_in value) (packages_in values) refl (λ es h. each_is values es (sym h)) e

one_more_none : (value : Data) (values : List Data) (entry : Option PackageEntry) (rest : Option (List PackageEntry))
    → package_in value ≡ entry
    → (rest ≡ None → SomeIs IsNoPackage values)
    → None ≡ option_and_then (λ e. option_map (λ es. e ∷ es) rest) entry
    → SomeIs IsNoPackage (value ∷ values)
one_more_none value values None rest is other e = inl is
one_more_none value values (Some x) None is other e = inr (other refl)
one_more_none value values (Some x) (Some xs) is other e = absurd (some_none (sym e))

one_is_none : (values : List Data) → None ≡ packages_in values → SomeIs IsNoPackage values
one_is_none [] e = absurd (some_none (sym e))
one_is_none (value ∷ values) e =
    one_more_none value values (package_in value) (packages_in values) refl (λ h. one_is_none values (sym h)) e

pub listed : (text : List ℕ) (found : Option (List PackageEntry)) (entries : List PackageEntry) → AreJudged text found
    → found ≡ Some entries
    → AreListedIn text entries
listed text found entries h some = record {
  values = h.0;
  are_values = h.1;
  are_packages = each_is h.0 entries (sym some ∙ h.2);
}

pub not_listed : (text : List ℕ) (found : Option (List PackageEntry)) → AreJudged text found → found ≡ None
    → (values : List Data) × AreValuesIn text values × SomeIs IsNoPackage values
not_listed text found h none = (h.0, h.1, one_is_none h.0 (sym none ∙ h.2))
