-- What is read of texts and lists of values.
use Rattle.std.proofs.Common.{◌≡◌, inl, inr, ℕ, List, [], ◌∷◌, Option, Some, None, IfSome, IfNone, map, option_map, refl, sym, ap, subst, ◌∙◌}
use Rattle.std.specs.List.{AllZip}
use Rattle.std.specs.Ordering.{nat_cmp}
use Rattle.json.specs.Token.{Token}
use Rattle.serde_json.specs.Data.{Data, array}
use Rattle.serde_json.specs.Find.{as_array}
use Rattle.serde_json.specs.View.{items_of}
use Rattle.json_reading.specs.Standing.{IsListOf, IsNoList, Judges, ReadsAs, Refutes, SomeIs}
use Rattle.table_json.specs.MembersRead.{IsListWith, IsValueOf}
use Rattle.table_json.specs.Parts.{all_of}
use Rattle.table_json.specs.Tables.{IsArranged}
use Rattle.table_json.specs.TableValues.{AllFit, AreValuesOf}
use Rattle.table_json.proofs.Readings.{none_some, not_kept}
use Rattle.table_json.proofs.ValueParts.{same_items, some_same, all_there, Finds}

-- What was read, seen as something else

module _ {A V X : Type 0} (Is : A → X → Type 0) (seen : V → X) where
  pub judged_as : (a : A) (found : Option V) → IfSome found (λ v. Is a (seen v)) → IfNone found (Refutes Is a)
      → Judges Is (Refutes Is) a (option_map seen found)
  judged_as a None some none = none
  judged_as a (Some v) some none = some

  pub seen_back : (IsNone : A → Type 0) (a : A) (found : Option V) → Judges Is IsNone a (option_map seen found)
      → Judges (λ x v. Is x (seen v)) IsNone a found
  seen_back IsNone a None h = h
  seen_back IsNone a (Some v) h = h

  pub zip_seen : (xs : List A) (vs : List V) → AllZip (λ a v. Is a (seen v)) xs vs → AllZip Is xs (map seen vs)
  zip_seen [] [] h = tt
  zip_seen [] (v ∷ vs) h = absurd h
  zip_seen (a ∷ xs) [] h = absurd h
  zip_seen (a ∷ xs) (v ∷ vs) h = (h.0, zip_seen xs vs h.1)

-- Lists of values

module _ {X : Type 0} (Is : Data → X → Type 0) where
  pub none_zip : (values : List Data) → SomeIs (Refutes Is) values → (xs : List X) → ¬ AllZip Is values xs
  none_zip [] h xs = absurd h
  none_zip (v ∷ values) h [] = λ k. k
  none_zip (v ∷ values) (inl h) (x ∷ xs) = λ k. h x k.0
  none_zip (v ∷ values) (inr h) (x ∷ xs) = λ k. none_zip values h xs k.1

pub array_same : (ds es : List Data) → array (items_of ds) ≡ array (items_of es) → ds ≡ es
array_same ds es e = same_items ds es (some_same (items_of ds) (items_of es) (ap as_array e))

-- the list that was read is kept in another form
module _ {X Y : Type 0} (Is : Data → X → Type 0) (Are : List Data → Y → Type 0) where
  -- no list of such items is of the kind that is kept
  pub no_list : ((values : List Data) → SomeIs (Refutes Is) values → Refutes Are values)
      → (value : Data)
      → IsNoList (Refutes Is) value
      → Refutes (IsListWith Are) value
  no_list none value (inl e) =
      λ y is. none_some (as_array value) (items_of is.0) e (ap as_array is.1)
  no_list none value (inr h) =
      λ y is. none h.0 h.2 y (subst (λ vs. Are vs y) (array_same is.0 h.0 (sym is.1 ∙ h.1)) is.2)

  pub list_kept : (value : Data) (values : List Data) (found : Option Y) → value ≡ array (items_of values)
      → Judges Are (Refutes Are) values found
      → Judges (IsListWith Are) (Refutes (IsListWith Are)) value found
  list_kept value values None e h =
      λ y is. h y (subst (λ vs. Are vs y) (array_same is.0 values (sym is.1 ∙ e)) is.2)
  list_kept value values (Some y) e h = (values, e, h)

-- Lists of values by position

module _ {A : Type 0} (value_of : A → Data) (position : A → ℕ) (find : Data → Option A) (finds : Finds value_of position find) where
  zip_values : (values : List Data) (given : List A) → AllZip (IsValueOf value_of position) values given
      → (values ≡ map value_of given) × AllFit position given
  zip_values [] [] h = (refl, tt)
  zip_values [] (a ∷ given) h = absurd h
  zip_values (v ∷ values) [] h = absurd h
  zip_values (v ∷ values) (a ∷ given) h =
      let rest = zip_values values given h.1 in ((λ i. h.0.0 i ∷ rest.0 i), (h.0.1, rest.1))

  values_zip : (given : List A) → AllFit position given → AllZip (IsValueOf value_of position) (map value_of given) given
  values_zip [] h = tt
  values_zip (a ∷ given) h = ((refl, h.0), values_zip given h.1)

  pub none_of_values : (values : List Data) → SomeIs (Refutes (IsValueOf value_of position)) values
      → Refutes (AreValuesOf value_of position) values
  none_of_values values h = λ kept is.
      none_zip (IsValueOf value_of position) values h is.given
      (subst (λ vs. AllZip (IsValueOf value_of position) vs is.given) (sym is.are_values) (values_zip is.given is.fit))

  arranged : (values : List Data) (given : List A) (found : Option (List A))
      → (values ≡ map value_of given)
      → AllFit position given
      → Judges (IsArranged nat_cmp position) (Refutes (IsArranged nat_cmp position)) given found
      → Judges (AreValuesOf value_of position) (Refutes (AreValuesOf value_of position)) values found
  arranged values given None e fit h =
      not_kept value_of position find finds values given (ap (all_of find) e ∙ all_there value_of position find finds given fit) h
  arranged values given (Some kept) e fit h =
      record { given = given; are_values = e; fit = fit; arranged = h }

  pub values_kept : (standing : Option (Data × List Token)) (new : List Token) (given : List A) (found : Option (List A))
      → ReadsAs (IsListOf (IsValueOf value_of position)) (IsNoList (Refutes (IsValueOf value_of position))) standing new (Some given)
      → Judges (IsArranged nat_cmp position) (Refutes (IsArranged nat_cmp position)) given found
      → ReadsAs (IsListWith (AreValuesOf value_of position)) (Refutes (IsListWith (AreValuesOf value_of position))) standing new found
  values_kept standing new given found read h =
      let zipped = zip_values read.judged.0 given read.judged.2 in
      record {
        value = read.value;
        stands = read.stands;
        judged =
            list_kept (IsValueOf value_of position) (AreValuesOf value_of position) read.value read.judged.0 found
            read.judged.1 (arranged read.judged.0 given found zipped.0 zipped.1 h);
      }

  pub no_values : (standing : Option (Data × List Token)) (new : List Token)
      → ReadsAs (IsListOf (IsValueOf value_of position)) (IsNoList (Refutes (IsValueOf value_of position))) standing new None
      → ReadsAs (IsListWith (AreValuesOf value_of position)) (Refutes (IsListWith (AreValuesOf value_of position))) standing new None
  no_values standing new read = record {
    value = read.value;
    stands = read.stands;
    judged =
        no_list (IsValueOf value_of position) (AreValuesOf value_of position) none_of_values read.value read.judged;
  }
