-- A text keeps one package at most, which is in order; what is written reads back; and why a text keeps none.
use Rattle.std.proofs.Common.{◌≡◌, ◌≤◌, ◌⊎◌, inl, inr, ℕ, List, [], ◌∷◌, None, Some, map, refl, sym, ap, subst, ◌∙◌}
use Rattle.std.proofs.lemmas.List.Sorted.{IsPermutation-refl}
use Rattle.std.specs.List.{AllByRecursion, AllZip}
use Rattle.serde_json.specs.Data.{Data, object, depth}
use Rattle.serde_json.specs.Read.{read}
use Rattle.json_reading.specs.Keyed.{members_in}
use Rattle.json_reading.specs.Standing.{Refutes}
use Rattle.table_json.specs.Tables.{HasOrder}
use Rattle.table_json.specs.TableTexts.{version_of}
use Rattle.table_json.specs.TableValues.{function_value as facts_value}
use Rattle.table_json.proofs.Arranged.{each_permuted}
use Rattle.table_json.proofs.TableLaws.{newer_in_order, function_back as facts_back}
use Rattle.table_json.proofs.ValueParts.{some_same}
use Rattle.vetx_json.specs.declared.fault.VetxFault.{VetxFault}
use Rattle.vetx_json.specs.declared.fault.VetxFault.TheVariants.{WrongShape, OutOfMemory}
use Rattle.vetx_json.specs.KeptUnits.{FunctionEntry, UnlessEntry, VetxEntry, facts_of, IsInOrder}
use Rattle.vetx_json.specs.Parts.{HasFits, HasUnlessFits, HasVersion, HasVetxFits}
use Rattle.vetx_json.specs.VetxTexts.{IsVetxFault, IsVetxText}
use Rattle.vetx_json.specs.VetxValues.{function_value, unless_value, vetx_value, IsFunctionValue, IsUnlessValue, IsVetxValue}
use Rattle.vetx_json.proofs.VetxRead.{one_vetx}
use Rattle.vetx_json.proofs.Writing.{vetx-depth}

-- What is written reads back

each_unless_back : (us : List UnlessEntry) → AllByRecursion HasUnlessFits us → AllZip IsUnlessValue (map unless_value us) us
each_unless_back [] fits = tt
each_unless_back (u ∷ us) fits =
    (record { is_value = refl; given_fits = fits.0.given_fits; error_fits = fits.0.error_fits }, each_unless_back us fits.1)

function_back : (f : FunctionEntry) → HasOrder f.facts → HasFits f → IsFunctionValue (function_value f) f
function_back f order fits = record {
  facts = members_in (facts_value f.facts);
  unless = map unless_value f.unless;
  are_facts = facts_back f.facts order fits.facts_fit;
  is_value = refl;
  results_fit = fits.results_fit;
  are_unless = each_unless_back f.unless fits.unless_fit;
}

each_back : (fs : List FunctionEntry) → AllByRecursion (λ f. HasOrder (facts_of f)) fs → AllByRecursion HasFits fs
    → AllZip IsFunctionValue (map function_value fs) fs
each_back [] order fits = tt
each_back (f ∷ fs) order fits = (function_back f order.0 fits.0, each_back fs order.1 fits.1)

vetx_back : (v : VetxEntry) → HasVetxFits v → IsInOrder v → IsVetxValue (vetx_value v) v
vetx_back v fits order = record {
  functions = map function_value v.functions;
  is_value = refl;
  edition_fits = fits.edition_fits;
  are_functions = record {
    given = v.functions;
    each = each_back v.functions order.each_in_order fits.functions_fit;
    arranged = record { same = IsPermutation-refl v.functions; rise = order.names_rise };
  };
}

pub text_back : (value : Data) (v : VetxEntry) (text : List ℕ) → value ≡ vetx_value v → HasVetxFits v
    → (depth value ≤ 127 → read text ≡ Some value)
    → IsInOrder v
    → IsVetxText text v
text_back value v text is fits reads order = record {
  value = value;
  is_json = reads (subst (λ d. depth d ≤ 127) (sym is) (vetx-depth v));
  is_vetx = subst (λ d. IsVetxValue d v) (sym is) (vetx_back v fits order);
}

-- What is read is in order

each_in_order : (values : List Data) (given : List FunctionEntry) → AllZip IsFunctionValue values given
    → AllByRecursion (λ f. HasOrder (facts_of f)) given
each_in_order [] [] h = tt
each_in_order [] (f ∷ fs) h = absurd h
each_in_order (v ∷ values) [] h = absurd h
each_in_order (v ∷ values) (f ∷ fs) h =
    (newer_in_order (object h.0.facts) f.facts h.0.are_facts, each_in_order values fs h.1)

pub in_order : (value : Data) (v : VetxEntry) → IsVetxValue value v → IsInOrder v
in_order value v h =
    let are = h.are_functions in
    record {
      names_rise = are.arranged.rise;
      each_in_order =
          each_permuted (λ f. HasOrder (facts_of f)) are.given v.functions are.arranged.same
          (each_in_order h.functions are.given are.each);
    }

-- A text keeps one package at most

-- the value of a text that keeps a package
there : (text : List ℕ) (value : Data) → read text ≡ Some value → (v : VetxEntry) → IsVetxText text v
    → IsVetxValue value v
there text value e v k =
    subst (λ d. IsVetxValue d v) (some_same k.value value (sym k.is_json ∙ e)) k.is_vetx

pub no_other : (text : List ℕ) (value : Data) (v other : VetxEntry) → read text ≡ Some value → IsVetxValue value v
    → IsVetxText text other
    → other ≡ v
no_other text value v other e h k = one_vetx value other v (there text value e other k) h

pub one_of_text : (text : List ℕ) (v w : VetxEntry) → IsVetxText text v → IsVetxText text w → v ≡ w
one_of_text text v w h k = no_other text k.value w v k.is_json k.is_vetx h

-- A text whose value was refuted keeps no package

module _ (text : List ℕ) (value : Data) (e : read text ≡ Some value) (none : Refutes IsVetxValue value) where
  -- so whatever fault is told, there is no package for which it had to be memory
  pub only_memory : (fault : VetxFault) (v : VetxEntry) → IsVetxText text v → fault ≡ OutOfMemory
  only_memory fault v k = absurd (none v (there text value e v k))

  -- with the version of this format, or none, its shape is wrong
  pub wrong_shape : (version : _) → HasVersion text version → (version ≡ None) ⊎ (version ≡ Some 1)
      → IsVetxFault text WrongShape
  wrong_shape version h (inl missing) = (h.0, h.1, inl (sym h.2 ∙ missing))
  wrong_shape version h (inr first) =
      (value, e, inr (ap version_of (some_same value h.0 (sym e ∙ h.1)) ∙ sym h.2 ∙ first, none))
