-- What is read of the masks of all nodes.
use Rattle.std.proofs.Common.{◌≡◌, inl, inr, Bool, true, false, ℕ, ◌∷◌, [], ◌++◌, List, Option, Some, None, Vec, Global, refl, sym, subst}
use Rattle.std.specs.List.{AllZip}
use Rattle.json.specs.Token.{Token}
use Rattle.serde_json.specs.Data.{Data, array}
use Rattle.serde_json.specs.Find.{as_array}
use Rattle.serde_json.specs.View.{items_of}
use Rattle.json_reading.specs.Standing.{Judges, ReadsAs, Refutes}
use Rattle.json_reading.proofs.ListsRead.{judged_more, last_is}
use Rattle.table_json.proofs.ValuesRead.{no_list, none_zip}
use Rattle.certificate_json.specs.CertificateValues.{AreMasks}
use Rattle.certificate_json.specs.MembersRead.{AreStates, HasRows}

abbrev AreMasksOf : Data → Vec ℕ Global → Type 0
AreMasksOf value masks = AreMasks value masks.items

-- One node more

module _ (values : List Data) (value : Data) (are_rows : Bool) (rows : List (List ℕ)) (h : HasRows are_rows rows values) where
  pub row_more : (found : Option (Vec ℕ Global)) (masks : Vec ℕ Global) (rows_then : List (List ℕ))
      → Judges AreMasksOf (Refutes AreMasks) value found
      → found ≡ Some masks
      → rows_then ≡ rows ++ masks.items ∷ []
      → HasRows are_rows rows_then (values ++ value ∷ [])
  row_more found masks rows_then read is more =
      judged_more AreMasks (Refutes AreMasks) values are_rows rows rows_then value masks.items h
      (subst (Judges AreMasksOf (Refutes AreMasks) value) is read) more

  pub no_row : (found : Option (Vec ℕ Global)) → Judges AreMasksOf (Refutes AreMasks) value found
      → found ≡ None
      → HasRows false rows (values ++ value ∷ [])
  no_row found read is =
      last_is AreMasks (Refutes AreMasks) values value
      (subst (Judges AreMasksOf (Refutes AreMasks) value) is read)

-- All nodes

pub no_rows : (rows : List (List ℕ)) → rows ≡ [] → HasRows true rows []
no_rows rows none = subst (λ rs. AllZip AreMasks [] rs) (sym none) tt

module _ (standing : Option (Data × List Token)) (new : List Token) where
  pub states_read : (values : List Data) (are_rows : Bool) (rows : List (List ℕ)) → HasRows are_rows rows values
      → are_rows ≡ true
      → standing ≡ Some (array (items_of values), new)
      → ReadsAs AreStates (Refutes AreStates) standing new (Some rows)
  states_read values true rows h is stands =
      record { value = array (items_of values); stands = stands; judged = (values, refl, h) }
  states_read values false rows h is stands = absurd (cc)

  pub other_items : (values : List Data) (are_rows : Bool) (rows : List (List ℕ)) → HasRows are_rows rows values
      → are_rows ≡ false
      → standing ≡ Some (array (items_of values), new)
      → ReadsAs AreStates (Refutes AreStates) standing new None
  other_items values true rows h is stands = absurd (cc)
  other_items values false rows h is stands =
      record {
        value = array (items_of values);
        stands = stands;
        judged = no_list AreMasks (AllZip AreMasks) (none_zip AreMasks) (array (items_of values)) (inr (values, refl, h));
      }

  pub no_states : (value : Data) → standing ≡ Some (value, new) → as_array value ≡ None
      → ReadsAs AreStates (Refutes AreStates) standing new None
  no_states value stands none = record {
    value = value;
    stands = stands;
    judged = no_list AreMasks (AllZip AreMasks) (none_zip AreMasks) value (inl none);
  }
