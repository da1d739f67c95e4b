-- The text of a table in order is that of this table, and of no other; and why a text is none.
use Rattle.std.proofs.Common.{◌≡◌, ◌≤◌, inl, inr, ℕ, true, List, [], ◌∷◌, Some, None, map, refl, sym, ap, subst, ◌∙◌}
use Rattle.std.proofs.lemmas.List.Sorted.{IsPermutation-refl}
use Rattle.std.specs.List.{AllByRecursion, AllZip}
use Rattle.std.specs.List.Sorted.{IsStrictlySortedBy}
use Rattle.std.specs.Ordering.{nat_cmp}
use Rattle.serde_json.specs.Data.{Data, depth}
use Rattle.serde_json.specs.Read.{read}
use Rattle.table_json.specs.declared.fault.TableFault.{TableFault}
use Rattle.table_json.specs.declared.fault.TableFault.TheVariants.{NotJson, WrongVersion, WrongShape, OutOfMemory}
use Rattle.table_json.specs.declared.table.Version.{Version}
use Rattle.table_json.specs.declared.table.Version.TheVariants.{Older, Newer}
use Rattle.table_json.specs.Parts.{HasFits}
use Rattle.table_json.specs.Tables.{Entry, are_apart, itself, HasOrder, IsInOrder, Rise}
use Rattle.table_json.specs.TableTexts.{version_of, HasKnownVersion, HasWrongShape, HasWrongVersion, IsTableFault, IsTableText}
use Rattle.table_json.specs.TableValues.{whole, parameter_value, function_value, table_value, AreFunctionsOf, IsFunctionIn, IsFunctionValue, IsOlderFunctionValue, IsTableValue}
use Rattle.table_json.proofs.Arranged.{each_permuted}
use Rattle.table_json.proofs.Readings.{known, none_some, one_table, version_there}
use Rattle.table_json.proofs.ValueParts.{some_same}
use Rattle.table_json.proofs.Writing.{table-depth}

-- What is written reads back

pub function_back : (f : Entry) → HasOrder f → HasFits f → IsFunctionValue (function_value f) f
function_back f order fits = record {
  gives = map whole f.gives;
  causes = map whole f.causes;
  params = map parameter_value f.params;
  is_value = refl;
  are_gives = record {
    given = f.gives;
    are_values = refl;
    fit = fits.gives_fit;
    arranged = record { same = IsPermutation-refl f.gives; rise = order.gives_rise };
  };
  are_causes = record {
    given = f.causes;
    are_values = refl;
    fit = fits.causes_fit;
    arranged = record { same = IsPermutation-refl f.causes; rise = order.causes_rise };
  };
  apart = order.apart;
  are_params = record {
    given = f.params;
    are_values = refl;
    fit = fits.params_fit;
    arranged = record { same = IsPermutation-refl f.params; rise = order.params_rise };
  };
}

functions_back : (fs : List Entry) → AllByRecursion HasOrder fs → AllByRecursion HasFits fs
    → AllZip IsFunctionValue (map function_value fs) fs
functions_back [] order fits = tt
functions_back (f ∷ fs) order fits = (function_back f order.0 fits.0, functions_back fs order.1 fits.1)

pub list_back : (table : List Entry) → IsInOrder table → AllByRecursion HasFits table
    → AreFunctionsOf IsFunctionValue (map function_value table) table
list_back table order fits = record {
  given = table;
  each = functions_back table order.each_in_order fits;
  arranged = record { same = IsPermutation-refl table; rise = order.names_rise };
}

table_back : (table : List Entry) → IsInOrder table → AllByRecursion HasFits table
    → IsTableValue (table_value table) table
table_back table order fits =
    inl (record { functions = map function_value table; is_value = refl; are_functions = list_back table order fits })

pub text_back : (value : Data) (table : List Entry) (text : List ℕ) → value ≡ table_value table
    → AllByRecursion HasFits table
    → (depth value ≤ 127 → read text ≡ Some value)
    → IsInOrder table
    → IsTableText text table
text_back value table text is fits reads order = record {
  value = value;
  is_json = reads (subst (λ v. depth v ≤ 127) (sym is) (table-depth table));
  is_table = subst (λ v. IsTableValue v table) (sym is) (table_back table order fits);
}

-- What is read is in order

pub newer_in_order : (value : Data) (f : Entry) → IsFunctionValue value f → HasOrder f
newer_in_order value f h = record {
  gives_rise = h.are_gives.arranged.rise;
  causes_rise = h.are_causes.arranged.rise;
  apart = h.apart;
  params_rise = h.are_params.arranged.rise;
}

none_apart : (gives : List ℕ) → are_apart gives [] ≡ true
none_apart [] = refl
none_apart (n ∷ gives) = none_apart gives

none_rise : Rise nat_cmp itself []
unfolding IsStrictlySortedBy
none_rise = tt

older_in_order : (value : Data) (f : Entry) → IsOlderFunctionValue value f → HasOrder f
older_in_order value f h = record {
  gives_rise = h.are_gives.arranged.rise;
  causes_rise = subst (Rise nat_cmp itself) (sym h.no_causes) none_rise;
  apart = ap (are_apart f.gives) h.no_causes ∙ none_apart f.gives;
  params_rise = h.are_params.arranged.rise;
}

module _ (IsFunction : Data → Entry → Type 0) (each : (value : Data) (f : Entry) → IsFunction value f → HasOrder f) where
  each_in_order : (values : List Data) (given : List Entry) → AllZip IsFunction values given
      → AllByRecursion HasOrder given
  each_in_order [] [] h = tt
  each_in_order [] (f ∷ fs) h = absurd h
  each_in_order (v ∷ values) [] h = absurd h
  each_in_order (v ∷ values) (f ∷ fs) h = (each v f h.0, each_in_order values fs h.1)

  in_order_of : (values : List Data) (table : List Entry) → AreFunctionsOf IsFunction values table → IsInOrder table
  in_order_of values table h = record {
    names_rise = h.arranged.rise;
    each_in_order = each_permuted HasOrder h.given table h.arranged.same (each_in_order values h.given h.each);
  }

pub list_in_order : (version : Version) (values : List Data) (table : List Entry)
    → AreFunctionsOf (IsFunctionIn version) values table
    → IsInOrder table
list_in_order Older = in_order_of IsOlderFunctionValue older_in_order
list_in_order Newer = in_order_of IsFunctionValue newer_in_order

pub in_order : (value : Data) (table : List Entry) → IsTableValue value table → IsInOrder table
in_order value table (inl h) = list_in_order Newer h.functions table h.are_functions
in_order value table (inr h) = list_in_order Older h.functions table h.are_functions

-- A text is that of one table at most

pub no_other : (text : List ℕ) (value : Data) (table other : List Entry) → read text ≡ Some value
    → IsTableValue value table
    → IsTableText text other
    → other ≡ table
no_other text value table other e h k =
    let same = some_same k.value value (sym k.is_json ∙ e) in
    one_table value other table (subst (λ v. IsTableValue v other) same k.is_table) h

-- A text that is a table's is read, unless memory is refused

known_version : (value : Data) (table : List Entry) → IsTableValue value table → HasKnownVersion value
known_version value table (inl h) = known Newer value (version_there Newer value table h)
known_version value table (inr h) = known Older value (version_there Older value table h)

pub not_wrong_version : (value : Data) → HasKnownVersion value → HasWrongVersion value → ⊥
not_wrong_version value (inl e) h = h.2 (some_same h.0 1 (sym h.1 ∙ e))
not_wrong_version value (inr e) h = h.3 (some_same h.0 2 (sym h.1 ∙ e))

pub not_none : (value : Data) → HasKnownVersion value → version_of value ≡ None → ⊥
not_none value (inl e) none = none_some (version_of value) 1 none e
not_none value (inr e) none = none_some (version_of value) 2 none e

not_wrong_shape : (value : Data) (table : List Entry) → IsTableValue value table → HasWrongShape value → ⊥
not_wrong_shape value table h (inl none) = not_none value (known_version value table h) none
not_wrong_shape value table h (inr no_table) = no_table.1 table h

pub only_memory : (text : List ℕ) (fault : TableFault) → IsTableFault text fault → (table : List Entry)
    → IsTableText text table
    → fault ≡ OutOfMemory
only_memory text NotJson h table k = absurd (none_some (read text) k.value h k.is_json)
only_memory text WrongVersion h table k =
    let is = subst (λ v. IsTableValue v table) (some_same k.value h.0 (sym k.is_json ∙ h.1)) k.is_table in
    absurd (not_wrong_version h.0 (known_version h.0 table is) h.2)
only_memory text WrongShape h table k =
    let is = subst (λ v. IsTableValue v table) (some_same k.value h.0 (sym k.is_json ∙ h.1)) k.is_table in
    absurd (not_wrong_shape h.0 table is h.2)
only_memory text OutOfMemory h table k = refl
