-- Objects whose members, and lists whose items go into one place.
use Rattle.std.proofs.Common.{◌≡◌, [], Bool, true, false, List, Option, Some, None, ap, subst, ◌∙◌}
use Rattle.json.specs.Token.{Token}
use Rattle.serde_json.specs.Data.{Data, array, object, Members, no_members}
use Rattle.serde_json.specs.Find.{as_array, as_object}
use Rattle.serde_json.specs.View.{items_of}
use Rattle.json_reading.specs.Standing.{IsListRead, IsObjectRead, ReadsList, ReadsObject}

module _ (Held Holds : Members → Type 0) (standing : Option (Data × List Token)) (new : List Token) (is_object : Bool) where
  -- the value is an object, of whose members what is kept holds
  pub object_read : ReadsObject Held Holds standing new is_object → is_object ≡ true → Held no_members
      → (ms : Members) × (standing ≡ Some (object ms, new)) × Holds ms
  object_read read is first =
      let of = subst (IsObjectRead Held Holds read.value) is read.is_read in
      (of.0, read.stands ∙ ap (λ d. Some (d, new)) of.1, of.2 first)

  pub no_object_read : ReadsObject Held Holds standing new is_object → is_object ≡ false
      → (value : Data) × (standing ≡ Some (value, new)) × (as_object value ≡ None)
  no_object_read read is =
      (read.value, read.stands, subst (IsObjectRead Held Holds read.value) is read.is_read)

module _ (Held Holds : List Data → Type 0) (standing : Option (Data × List Token)) (new : List Token) (is_list : Bool) where
  -- the value is a list, of whose items what is kept holds
  pub list_read : ReadsList Held Holds standing new is_list → is_list ≡ true → Held []
      → (ds : List Data) × (standing ≡ Some (array (items_of ds), new)) × Holds ds
  list_read read is first =
      let of = subst (IsListRead Held Holds read.value) is read.is_read in
      (of.0, read.stands ∙ ap (λ d. Some (d, new)) of.1, of.2 first)

  pub no_list_read : ReadsList Held Holds standing new is_list → is_list ≡ false
      → (value : Data) × (standing ≡ Some (value, new)) × (as_array value ≡ None)
  no_list_read read is =
      (read.value, read.stands, subst (IsListRead Held Holds read.value) is read.is_read)
