-- Lists, functions and tables, from what is found in their values.
use Rattle.std.proofs.Common.{◌≡◌, inl, inr, ℕ, List, Option, Some, None, refl, sym, ap, subst, ◌∙◌}
use Rattle.std.proofs.lemmas.Cmp.{nat_cmp_total, nat_list_cmp_total}
use Rattle.std.specs.Ordering.{nat_cmp}
use Rattle.serde_json.specs.Data.{Data, Items}
use Rattle.serde_json.specs.View.{items_of}
use Rattle.table_json.specs.declared.fault.TableFault.{TableFault}
use Rattle.table_json.specs.declared.fault.TableFault.TheVariants.{NotJson, WrongVersion, WrongShape, OutOfMemory}
use Rattle.table_json.specs.declared.table.Version.{Version}
use Rattle.table_json.specs.declared.table.Version.TheVariants.{Older, Newer}
use Rattle.table_json.specs.Parts.{all_of, function_in, functions_in, older_function_in, parameter_in, position_in, IsValueFault, Refuses}
use Rattle.table_json.specs.Tables.{Entry, itself, name_of, position_of, IsArranged}
use Rattle.table_json.specs.TableTexts.{version_of, HasKnownVersion, HasWrongShape}
use Rattle.table_json.specs.TableValues.{number_of, whole, parameter_value, AreFunctionsOf, AreValuesOf, IsFunctionIn, IsFunctionValue, IsOlderFunctionValue, IsTableIn, IsTableValue}
use Rattle.table_json.proofs.Arranged.{one_arrangement}
use Rattle.table_json.proofs.OneList.{one_arranged}
use Rattle.table_json.proofs.ValueParts.{Finds, finds_positions, finds_parameters, all_there, function_there, older_function_there, functions_there, same_items, some_same, version_fits}

-- The values of a list

module _ {A : Type 0} (value_of : A → Data) (position : A → ℕ) (find : Data → Option A) (finds : Finds value_of position find) where
  all_found : (values : List Data) (kept : List A) (h : AreValuesOf value_of position values kept)
      → all_of find values ≡ Some h.given
  all_found values kept h = ap (all_of find) h.are_values ∙ all_there value_of position find finds h.given h.fit

  pub not_kept : (values : List Data) (given : List A) → all_of find values ≡ Some given
      → ((other : List A) → ¬ IsArranged nat_cmp position given other)
      → (kept : List A)
      → ¬ AreValuesOf value_of position values kept
  not_kept values given e none kept h =
      let same = some_same h.given given (sym (all_found values kept h) ∙ e) in
      none kept (subst (λ g. IsArranged nat_cmp position g kept) same h.arranged)

  pub one_kept : (values : List Data) (a b : List A) → AreValuesOf value_of position values a
      → AreValuesOf value_of position values b
      → a ≡ b
  one_kept values a b h k =
      let same = some_same h.given k.given (sym (all_found values a h) ∙ all_found values b k) in
      one_arrangement nat_cmp_total position k.given a b
      (subst (λ g. IsArranged nat_cmp position g a) same h.arranged) k.arranged

-- Functions of the newer version

pub record HasParts (gives causes params : List Data) (f : Entry) : Type 0 where
  pub are_gives : AreValuesOf whole itself gives f.gives
  pub are_causes : AreValuesOf whole itself causes f.causes
  pub are_params : AreValuesOf parameter_value position_of params f.params

pub parts_of : (value : Data) (name : List ℕ) (gives causes params : List Data) (f : Entry)
    → function_in value ≡ Some (name, items_of gives, items_of causes, items_of params)
    → IsFunctionValue value f
    → HasParts gives causes params f
parts_of value name gives causes params f e h =
    let same =
    some_same {A = List ℕ × Items × Items × Items} (f.name, items_of h.gives, items_of h.causes, items_of h.params) (name, items_of gives, items_of causes, items_of params)
    (sym (function_there f.name h.gives h.causes h.params) ∙ (ap function_in (sym h.is_value) ∙ e)) in
    record {
      are_gives =
          subst (λ vs. AreValuesOf whole itself vs f.gives) (same_items h.gives gives (ap (λ p. p.1) same)) h.are_gives;
      are_causes =
          subst (λ vs. AreValuesOf whole itself vs f.causes) (same_items h.causes causes (ap (λ p. p.2) same))
          h.are_causes;
      are_params =
          subst (λ vs. AreValuesOf parameter_value position_of vs f.params)
          (same_items h.params params (ap (λ p. p.3) same)) h.are_params;
    }

pub none_some : {A : Type 0} (o : Option A) (a : A) → o ≡ None → o ≡ Some a → ⊥
none_some o a e h = cc

one_name : (value : Data) (f g : Entry) (h : IsFunctionValue value f) (k : IsFunctionValue value g) → f.name ≡ g.name
one_name value f g h k =
    ap (λ p. p.0)
    (some_same {A = List ℕ × Items × Items × Items} (f.name, items_of h.gives, items_of h.causes, items_of h.params) (g.name, items_of k.gives, items_of k.causes, items_of k.params)
    (sym (function_there f.name h.gives h.causes h.params)
    ∙ (ap function_in (sym h.is_value ∙ k.is_value) ∙ function_there g.name k.gives k.causes k.params)))

pub one_function : (value : Data) (f g : Entry) → IsFunctionValue value f → IsFunctionValue value g → f ≡ g
one_function value f g h k =
    let found = ap function_in k.is_value ∙ function_there g.name k.gives k.causes k.params in
    let parts = parts_of value g.name k.gives k.causes k.params f found h in
    let gives = one_kept whole itself position_in finds_positions k.gives f.gives g.gives parts.are_gives k.are_gives in
    let causes =
    one_kept whole itself position_in finds_positions k.causes f.causes g.causes parts.are_causes k.are_causes in
    let params =
    one_kept parameter_value position_of parameter_in finds_parameters k.params f.params g.params parts.are_params
    k.are_params in
    let name = one_name value f g h k in
    λ i. record { name = name i; gives = gives i; causes = causes i; params = params i }

-- Functions of the older version

pub record HasOlderParts (gives params : List Data) (f : Entry) : Type 0 where
  pub are_gives : AreValuesOf whole itself gives f.gives
  pub are_params : AreValuesOf parameter_value position_of params f.params

pub older_parts_of : (value : Data) (name : List ℕ) (gives params : List Data) (f : Entry)
    → older_function_in value ≡ Some (name, items_of gives, items_of params)
    → IsOlderFunctionValue value f
    → HasOlderParts gives params f
older_parts_of value name gives params f e h =
    let same =
    some_same {A = List ℕ × Items × Items} (f.name, items_of h.gives, items_of h.params) (name, items_of gives, items_of params)
    (sym (older_function_there f.name h.gives h.params) ∙ (ap older_function_in (sym h.is_value) ∙ e)) in
    record {
      are_gives =
          subst (λ vs. AreValuesOf whole itself vs f.gives) (same_items h.gives gives (ap (λ p. p.1) same)) h.are_gives;
      are_params =
          subst (λ vs. AreValuesOf parameter_value position_of vs f.params)
          (same_items h.params params (ap (λ p. p.2) same)) h.are_params;
    }

one_older_name : (value : Data) (f g : Entry) (h : IsOlderFunctionValue value f) (k : IsOlderFunctionValue value g)
    → f.name ≡ g.name
one_older_name value f g h k =
    ap (λ p. p.0)
    (some_same {A = List ℕ × Items × Items} (f.name, items_of h.gives, items_of h.params) (g.name, items_of k.gives, items_of k.params)
    (sym (older_function_there f.name h.gives h.params)
    ∙ (ap older_function_in (sym h.is_value ∙ k.is_value) ∙ older_function_there g.name k.gives k.params)))

one_older_function : (value : Data) (f g : Entry) → IsOlderFunctionValue value f → IsOlderFunctionValue value g → f ≡ g
one_older_function value f g h k =
    let found = ap older_function_in k.is_value ∙ older_function_there g.name k.gives k.params in
    let parts = older_parts_of value g.name k.gives k.params f found h in
    let gives = one_kept whole itself position_in finds_positions k.gives f.gives g.gives parts.are_gives k.are_gives in
    let params =
    one_kept parameter_value position_of parameter_in finds_parameters k.params f.params g.params parts.are_params
    k.are_params in
    let name = one_older_name value f g h k in
    let causes = h.no_causes ∙ sym k.no_causes in
    λ i. record { name = name i; gives = gives i; causes = causes i; params = params i }

-- Lists of functions, and tables of one version

pub one_in : (version : Version) (value : Data) (f g : Entry) → IsFunctionIn version value f → IsFunctionIn version value g
    → f ≡ g
one_in Older = one_older_function
one_in Newer = one_function

-- a list of values is that of one list of functions at most
pub one_functions : (version : Version) (values : List Data) (a b : List Entry)
    → AreFunctionsOf (IsFunctionIn version) values a
    → AreFunctionsOf (IsFunctionIn version) values b
    → a ≡ b
one_functions version = one_arranged nat_list_cmp_total name_of (IsFunctionIn version) (one_in version)

pub functions_of : (version : Version) (value : Data) (functions : List Data) (table : List Entry)
    → functions_in value ≡ Some (items_of functions)
    → IsTableIn (number_of version) (IsFunctionIn version) value table
    → AreFunctionsOf (IsFunctionIn version) functions table
functions_of version value functions table e h =
    let same =
    same_items h.functions functions
    (some_same (items_of h.functions) (items_of functions)
    (sym (functions_there (number_of version) h.functions) ∙ (ap functions_in (sym h.is_value) ∙ e))) in
    subst (λ vs. AreFunctionsOf (IsFunctionIn version) vs table) same h.are_functions

-- There is one table of a value

one_table_in : (version : Version) (value : Data) (a b : List Entry)
    → IsTableIn (number_of version) (IsFunctionIn version) value a
    → IsTableIn (number_of version) (IsFunctionIn version) value b
    → a ≡ b
one_table_in version value a b h k =
    let found = ap functions_in k.is_value ∙ functions_there (number_of version) k.functions in
    one_functions version k.functions a b (functions_of version value k.functions a found h) k.are_functions

pub version_there : (version : Version) (value : Data) (table : List Entry)
    → IsTableIn (number_of version) (IsFunctionIn version) value table
    → version_of value ≡ Some (number_of version)
version_there version value table h = ap version_of h.is_value ∙ version_fits version

-- no value is one of both versions
pub not_both : (value : Data) → version_of value ≡ Some 1 → version_of value ≡ Some 2 → ⊥
not_both value e h = cc (some_same 1 2 (sym e ∙ h))

pub one_table : (value : Data) (a b : List Entry) → IsTableValue value a → IsTableValue value b → a ≡ b
one_table value a b (inl h) (inl k) = one_table_in Newer value a b h k
one_table value a b (inr h) (inr k) = one_table_in Older value a b h k
one_table value a b (inl h) (inr k) =
    absurd (not_both value (version_there Older value b k) (version_there Newer value a h))
one_table value a b (inr h) (inl k) =
    absurd (not_both value (version_there Older value a h) (version_there Newer value b k))

-- Which version is read

-- a value has one version at most
pub one_version : (value : Data) (v w : Version) → version_of value ≡ Some (number_of v)
    → version_of value ≡ Some (number_of w)
    → v ≡ w
one_version value Older Older e h = refl
one_version value Older Newer e h = absurd (not_both value e h)
one_version value Newer Older e h = absurd (not_both value h e)
one_version value Newer Newer e h = refl

pub known : (version : Version) (value : Data) → version_of value ≡ Some (number_of version) → HasKnownVersion value
known Older value e = inl e
known Newer value e = inr e

-- where the version is right, what is refused in that version is refused in any
module _ {A : Type 0} (IsIn : Version → Data → A → Type 0)
    (version_in : (version : Version) (value : Data) (a : A) → IsIn version value a
    → version_of value ≡ Some (number_of version))
    (HasWrong : Data → Type 0)
    (none_in : (value : Data) → HasKnownVersion value → ((version : Version) (a : A) → ¬ IsIn version value a)
    → HasWrong value) where
  pub refused_in : (version : Version) (value : Data) (fault : TableFault)
      → version_of value ≡ Some (number_of version)
      → Refuses (IsIn version value) fault
      → IsValueFault HasWrong value fault
  refused_in version value NotJson e h = h
  refused_in version value WrongVersion e h = absurd h
  refused_in version value WrongShape e h = none_in value (known version value e) no
    where
      no : (v : Version) (a : A) → ¬ IsIn v value a
      no v a k = h a (subst (λ u. IsIn u value a) (one_version value v version (version_in v value a k) e) k)
  refused_in version value OutOfMemory e h = tt

-- a table of that version
abbrev IsTableOf : Version → Data → List Entry → Type 0
IsTableOf version = IsTableIn (number_of version) (IsFunctionIn version)

pub table_in : (version : Version) (value : Data) (table : List Entry) → IsTableOf version value table
    → IsTableValue value table
table_in Older value table h = inr h
table_in Newer value table h = inl h

pub refused_table : (version : Version) (value : Data) (fault : TableFault)
    → version_of value ≡ Some (number_of version)
    → Refuses (IsTableOf version value) fault
    → IsValueFault HasWrongShape value fault
refused_table = refused_in IsTableOf version_there HasWrongShape none_in
  where
    none_in : (value : Data) → HasKnownVersion value
        → ((version : Version) (table : List Entry) → ¬ IsTableOf version value table)
        → HasWrongShape value
    none_in value is_known none =
        inr (is_known, λ table h. elim h [ inl newer ↦ none Newer table newer | inr older ↦ none Older table older ])
