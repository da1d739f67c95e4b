-- What is read of strings, of lists of them, and of anything that is found in a value.
use Rattle.std.proofs.Common.{◌≡◌, inl, inr, ℕ, List, [], ◌∷◌, Option, Some, None, Vec, String, Global, map, option_and_then, option_map, string_bytes, refl, sym, ap, ◌∙◌}
use Rattle.std.specs.List.{AllZip}
use Rattle.json.specs.Token.{Token}
use Rattle.serde_json.specs.Data.{Data, null, boolean, number, string, array, object}
use Rattle.serde_json.specs.Find.{as_object, as_str, get}
use Rattle.serde_json.specs.View.{items_of}
use Rattle.json_reading.specs.Standing.{IsListOf, IsNoList, Judges, ReadsAs, SomeIs}
use Rattle.unit_config.specs.UnitValues.{strings_in, strings_of}
use Rattle.unit_config.specs.UnitRead.{ReadsIn}

-- What is found in a value, seen as something else

module _ {V X : Type 0} (seen : V → X) (find : Data → Option X) where
  pub judged : (value : Data) (found : Option V) → option_map seen found ≡ find value
      → Judges (λ d v. find d ≡ Some (seen v)) (λ d. find d ≡ None) value found
  judged value None e = sym e
  judged value (Some v) e = sym e

  pub found_in : (value : Data) (found : Option V)
      → Judges (λ d v. find d ≡ Some (seen v)) (λ d. find d ≡ None) value found
      → option_map seen found ≡ find value
  found_in value None h = sym h
  found_in value (Some v) h = sym h

  pub read_as : (standing : Option (Data × List Token)) (new : List Token) (found : Option V)
      → ReadsIn find standing new (option_map seen found)
      → ReadsAs (λ d v. find d ≡ Some (seen v)) (λ d. find d ≡ None) standing new found
  read_as standing new found h = record { value = h.0; stands = h.1; judged = judged h.0 found h.2 }

-- Lists of strings

abbrev IsString : Data → String Global → Type 0
IsString value text = as_str value ≡ Some (string_bytes text)

abbrev IsNoString : Data → Type 0
IsNoString value = as_str value ≡ None

abbrev with_rest : Option (List (List ℕ)) → Option (List ℕ) → Option (List (List ℕ))
with_rest rest text = option_and_then (λ s. option_map (λ ss. s ∷ ss) rest) text

items_there : (ds : List Data) (texts : List (String Global)) → AllZip IsString ds texts
    → Some (map string_bytes texts) ≡ strings_of (items_of ds)
items_there [] [] h = refl
items_there [] (t ∷ texts) h = absurd h
items_there (d ∷ ds) [] h = absurd h
items_there (d ∷ ds) (t ∷ texts) h =
    let rest = items_there ds texts h.1 in λ i. with_rest (rest i) (sym h.0 i)

none_with : (o : Option (List ℕ)) → None ≡ with_rest None o
none_with None = refl
none_with (Some s) = refl

one_is_none : (ds : List Data) → SomeIs IsNoString ds → None ≡ strings_of (items_of ds)
one_is_none [] h = absurd h
one_is_none (d ∷ ds) (inl h) = λ i. with_rest (strings_of (items_of ds)) (sym h i)
one_is_none (d ∷ ds) (inr h) =
    let rest = one_is_none ds h in none_with (as_str d) ∙ (λ i. with_rest (rest i) (as_str d))

strings_found : (value : Data) (found : Option (Vec (String Global) Global))
    → Judges (IsListOf IsString) (IsNoList IsNoString) value (option_map (λ list. list.items) found)
    → option_map (λ list. map string_bytes list.items) found ≡ strings_in value
strings_found value None (inl e) = λ i. option_and_then strings_of (sym e i)
strings_found value None (inr h) = one_is_none h.0 h.2 ∙ sym (ap strings_in h.1)
strings_found value (Some list) h = items_there h.0 list.items h.2 ∙ sym (ap strings_in h.1)

pub strings_read : (standing : Option (Data × List Token)) (new : List Token) (found : Option (Vec (String Global) Global))
    → ReadsAs (IsListOf IsString) (IsNoList IsNoString) standing new (option_map (λ list. list.items) found)
    → ReadsIn strings_in standing new (option_map (λ list. map string_bytes list.items) found)
strings_read standing new found read = (read.value, read.stands, strings_found read.value found read.judged)

-- What is no object has nothing under a key

some_none : {A : Type 0} {a : A} → Some a ≡ None → ⊥
some_none e = absurd (cc)

pub nothing_under : (key : List ℕ) (value : Data) → as_object value ≡ None → get key value ≡ None
nothing_under key null e = refl
nothing_under key (boolean b) e = refl
nothing_under key (number n) e = refl
nothing_under key (string s) e = refl
nothing_under key (array ds) e = refl
nothing_under key (object ms) e = absurd (some_none e)
