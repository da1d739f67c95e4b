-- What is read of the members of a function.
use Rattle.std.proofs.Common.{◌≡◌, inl, inr, ℕ, Bool, true, false, List, [], Option, Some, None, is_some, option_map, option_and_then, if◌then◌else◌, codes, true≢false, refl, sym, ap, subst, ◌∙◌}
use Rattle.std.specs.List.{list_all}
use Rattle.json.specs.Token.{Token}
use Rattle.serde_json.specs.Data.{Data, string, object, Members, no_members, put}
use Rattle.serde_json.specs.Find.{as_object, get_member}
use Rattle.json_reading.specs.Keyed.{chosen, members_in, with_member, IsUnder, KeysRise}
use Rattle.json_reading.specs.Made.{IsNoObjectOf, IsObjectOf}
use Rattle.json_reading.specs.Standing.{Judges, ReadsAs, Refutes}
use Rattle.json_reading.proofs.ObjectKeys.{differs, set, kept, none_under, under_value, other_kept, other_put, has_no_other}
use Rattle.table_json.specs.MembersRead.{entry_with, function_keys, newer_with, older_with, ArePositions, AreParameters, HasFunctionMembers, IsText}
use Rattle.table_json.specs.Tables.{Entry, are_apart, entry_of, itself, position_of}
use Rattle.table_json.specs.TableValues.{is_older, list, parameter_value, whole, function_with, older_function_with, AreValuesOf, IsFunctionIn, IsFunctionValue, IsOlderFunctionValue}
use Rattle.table_json.specs.declared.table.Function.{Function}
use Rattle.table_json.specs.declared.table.Parameter.{Parameter}
use Rattle.table_json.specs.declared.table.Version.{Version}
use Rattle.table_json.specs.declared.table.Version.TheVariants.{Older, Newer}
use Rattle.table_json.proofs.Readings.{one_kept}
use Rattle.table_json.proofs.ParametersRead.{same_value, none_here, none_there}
use Rattle.table_json.proofs.ValueParts.{finds_positions, finds_parameters}
use Rattle.table_json.proofs.ValuesRead.{array_same}
use Rattle.table_json.specs.Parts.{position_in, parameter_in}

-- Putting one more member

keys_rise : KeysRise function_keys
keys_rise = ((refl, (refl, (refl, tt))), ((refl, (refl, tt)), ((refl, tt), (tt, tt))))

causes_gives : codes "causes" ≡ codes "gives" → ⊥
causes_gives = differs (codes "causes") (codes "gives") refl

causes_name : codes "causes" ≡ codes "name" → ⊥
causes_name = differs (codes "causes") (codes "name") refl

causes_params : codes "causes" ≡ codes "params" → ⊥
causes_params = differs (codes "causes") (codes "params") refl

gives_name : codes "gives" ≡ codes "name" → ⊥
gives_name = differs (codes "gives") (codes "name") refl

gives_params : codes "gives" ≡ codes "params" → ⊥
gives_params = differs (codes "gives") (codes "params") refl

name_params : codes "name" ≡ codes "params" → ⊥
name_params = differs (codes "name") (codes "params") refl

module _ (key : List ℕ) (value : Data) (ms : Members) (has_other has_causes : Bool) (causes gives name : Option (List ℕ)) (params : Option (List Parameter))
    (h : HasFunctionMembers has_other has_causes causes gives name params ms) where
  pub causes_put : (found : Option (List ℕ)) → key ≡ codes "causes" → Judges ArePositions (Refutes ArePositions) value found
      → HasFunctionMembers has_other true found gives name params (put key value ms)
  causes_put found same read = record {
    others = other_kept function_keys key value ms has_other keys_rise (inl same) h.others;
    causes_under =
        set (λ o. IsUnder ArePositions o found) (codes "causes") key value ms same (under_value ArePositions value found read);
    causes_there = set (λ o. true ≡ is_some o) (codes "causes") key value ms same refl;
    gives_under =
        kept (λ o. IsUnder ArePositions o gives) (codes "gives") key value ms (λ e. causes_gives (sym same ∙ e)) h.gives_under;
    name_under =
        kept (λ o. IsUnder IsText o name) (codes "name") key value ms (λ e. causes_name (sym same ∙ e)) h.name_under;
    params_under =
        kept (λ o. IsUnder AreParameters o params) (codes "params") key value ms (λ e. causes_params (sym same ∙ e)) h.params_under;
  }

  pub gives_put : (found : Option (List ℕ)) → key ≡ codes "gives" → Judges ArePositions (Refutes ArePositions) value found
      → HasFunctionMembers has_other has_causes causes found name params (put key value ms)
  gives_put found same read = record {
    others = other_kept function_keys key value ms has_other keys_rise (inr (inl same)) h.others;
    causes_under =
        kept (λ o. IsUnder ArePositions o causes) (codes "causes") key value ms (λ e. causes_gives (sym e ∙ same)) h.causes_under;
    causes_there =
        kept (λ o. has_causes ≡ is_some o) (codes "causes") key value ms (λ e. causes_gives (sym e ∙ same)) h.causes_there;
    gives_under =
        set (λ o. IsUnder ArePositions o found) (codes "gives") key value ms same (under_value ArePositions value found read);
    name_under =
        kept (λ o. IsUnder IsText o name) (codes "name") key value ms (λ e. gives_name (sym same ∙ e)) h.name_under;
    params_under =
        kept (λ o. IsUnder AreParameters o params) (codes "params") key value ms (λ e. gives_params (sym same ∙ e)) h.params_under;
  }

  pub name_put : (found : Option (List ℕ)) → key ≡ codes "name" → Judges IsText (Refutes IsText) value found
      → HasFunctionMembers has_other has_causes causes gives found params (put key value ms)
  name_put found same read = record {
    others = other_kept function_keys key value ms has_other keys_rise (inr (inr (inl same))) h.others;
    causes_under =
        kept (λ o. IsUnder ArePositions o causes) (codes "causes") key value ms (λ e. causes_name (sym e ∙ same)) h.causes_under;
    causes_there =
        kept (λ o. has_causes ≡ is_some o) (codes "causes") key value ms (λ e. causes_name (sym e ∙ same)) h.causes_there;
    gives_under =
        kept (λ o. IsUnder ArePositions o gives) (codes "gives") key value ms (λ e. gives_name (sym e ∙ same)) h.gives_under;
    name_under =
        set (λ o. IsUnder IsText o found) (codes "name") key value ms same (under_value IsText value found read);
    params_under =
        kept (λ o. IsUnder AreParameters o params) (codes "params") key value ms (λ e. name_params (sym same ∙ e)) h.params_under;
  }

  pub params_put : (found : Option (List Parameter)) → key ≡ codes "params" → Judges AreParameters (Refutes AreParameters) value found
      → HasFunctionMembers has_other has_causes causes gives name found (put key value ms)
  params_put found same read = record {
    others = other_kept function_keys key value ms has_other keys_rise (inr (inr (inr (inl same)))) h.others;
    causes_under =
        kept (λ o. IsUnder ArePositions o causes) (codes "causes") key value ms (λ e. causes_params (sym e ∙ same)) h.causes_under;
    causes_there =
        kept (λ o. has_causes ≡ is_some o) (codes "causes") key value ms (λ e. causes_params (sym e ∙ same)) h.causes_there;
    gives_under =
        kept (λ o. IsUnder ArePositions o gives) (codes "gives") key value ms (λ e. gives_params (sym e ∙ same)) h.gives_under;
    name_under =
        kept (λ o. IsUnder IsText o name) (codes "name") key value ms (λ e. name_params (sym e ∙ same)) h.name_under;
    params_under =
        set (λ o. IsUnder AreParameters o found) (codes "params") key value ms same (under_value AreParameters value found read);
  }

  pub unknown_put : (key ≡ codes "causes" → ⊥) → (key ≡ codes "gives" → ⊥) → (key ≡ codes "name" → ⊥) → (key ≡ codes "params" → ⊥) → HasFunctionMembers true has_causes causes gives name params (put key value ms)
  unknown_put no_causes no_gives no_name no_params = record {
    others = other_put function_keys key value ms (no_causes, (no_gives, (no_name, (no_params, tt))));
    causes_there = kept (λ o. has_causes ≡ is_some o) (codes "causes") key value ms no_causes h.causes_there;
    causes_under = kept (λ o. IsUnder ArePositions o causes) (codes "causes") key value ms no_causes h.causes_under;
    gives_under = kept (λ o. IsUnder ArePositions o gives) (codes "gives") key value ms no_gives h.gives_under;
    name_under = kept (λ o. IsUnder IsText o name) (codes "name") key value ms no_name h.name_under;
    params_under = kept (λ o. IsUnder AreParameters o params) (codes "params") key value ms no_params h.params_under;
  }

pub no_function_members : HasFunctionMembers false false None None None None no_members
no_function_members = record {
  others = refl;
  causes_there = refl;
  causes_under = none_under ArePositions;
  gives_under = none_under ArePositions;
  name_under = none_under IsText;
  params_under = none_under AreParameters;
}

-- The function of an object with such members

lists_same : (vs ws : List Data) (o : Option Data) → o ≡ Some (list vs) → o ≡ Some (list ws) → vs ≡ ws
lists_same vs ws o e h = array_same vs ws (same_value (sym e ∙ h))

-- what was read of a list of positions is what stands for them
one_positions : (o : Option Data) (vs : List Data) (found kept_ones : List ℕ) → IsUnder ArePositions o (Some found)
    → o ≡ Some (list vs)
    → AreValuesOf whole itself vs kept_ones
    → found ≡ kept_ones
one_positions o vs found kept_ones under e are =
    one_kept whole itself position_in finds_positions vs found kept_ones
    (subst (λ ws. AreValuesOf whole itself ws found)
    (lists_same under.2.0 vs o (under.1 ∙ ap Some under.2.1) e) under.2.2) are

one_parameters : (o : Option Data) (vs : List Data) (found kept_ones : List Parameter)
    → IsUnder AreParameters o (Some found)
    → o ≡ Some (list vs)
    → AreValuesOf parameter_value position_of vs kept_ones
    → found ≡ kept_ones
one_parameters o vs found kept_ones under e are =
    one_kept parameter_value position_of parameter_in finds_parameters vs found kept_ones
    (subst (λ ws. AreValuesOf parameter_value position_of ws found)
    (lists_same under.2.0 vs o (under.1 ∙ ap Some under.2.1) e) under.2.2) are

module _ (ms : Members) where
  all_of_four : (causes gives name params : Option Data) → ms ≡ chosen function_keys (λ key. get_member key ms)
      → get_member (codes "causes") ms ≡ causes
      → get_member (codes "gives") ms ≡ gives
      → get_member (codes "name") ms ≡ name
      → get_member (codes "params") ms ≡ params
      → ms ≡ with_member (codes "causes") causes (with_member (codes "gives") gives
      (with_member (codes "name") name (with_member (codes "params") params no_members)))
  all_of_four causes gives name params others e f g h =
      others
      ∙ (λ i. with_member (codes "causes") (e i) (with_member (codes "gives") (f i)
      (with_member (codes "name") (g i) (with_member (codes "params") (h i) no_members))))

  -- Newer

  module _ (f : Entry) (is : IsFunctionValue (object ms) f) where
    newer_are : (key : List ℕ) → get_member key ms ≡ get_member key (members_in (function_with f.name is.gives is.causes is.params))
    newer_are key = ap (λ v. get_member key (members_in v)) is.is_value

    newer_chosen : ms ≡ chosen function_keys (λ key. get_member key (members_in (function_with f.name is.gives is.causes is.params)))
    newer_chosen = ap members_in is.is_value

    no_newer : (apart : Bool) (causes gives : List ℕ) → are_apart gives causes ≡ apart
        → IsUnder ArePositions (get_member (codes "causes") ms) (Some causes)
        → IsUnder ArePositions (get_member (codes "gives") ms) (Some gives)
        → apart ≡ true
    no_newer apart causes gives e c g =
        sym e
        ∙ (λ i. are_apart (one_positions _ is.gives gives f.gives g (newer_are (codes "gives")) is.are_gives i)
        (one_positions _ is.causes causes f.causes c (newer_are (codes "causes")) is.are_causes i))
        ∙ is.apart

  newer_rest : (apart : Bool) (has_causes : Bool) (causes gives : List ℕ) (name : Option (List ℕ)) (params : Option (List Parameter))
      → are_apart gives causes ≡ apart
      → HasFunctionMembers false has_causes (Some causes) (Some gives) name params ms
      → Judges IsFunctionValue (Refutes IsFunctionValue) (object ms)
      (if apart then option_and_then (λ n. option_map (λ p. entry_with causes gives n p) params) name else None)
  newer_rest false has_causes causes gives name params e h = λ f is.
      true≢false (sym (no_newer f is false causes gives e h.causes_under h.gives_under))
  newer_rest true has_causes causes gives None params e h = λ f is.
      h.name_under (string f.name) f.name (newer_are f is (codes "name")) refl
  newer_rest true has_causes causes gives (Some n) None e h = λ f is.
      h.params_under (list is.params) f.params (newer_are f is (codes "params")) (is.params, refl, is.are_params)
  newer_rest true has_causes causes gives (Some n) (Some p) e h = record {
    gives = h.gives_under.2.0;
    causes = h.causes_under.2.0;
    params = h.params_under.2.0;
    is_value =
        ap object (all_of_four _ _ _ _ h.others (h.causes_under.1 ∙ ap Some h.causes_under.2.1)
        (h.gives_under.1 ∙ ap Some h.gives_under.2.1) (h.name_under.1 ∙ ap Some h.name_under.2)
        (h.params_under.1 ∙ ap Some h.params_under.2.1));
    are_gives = h.gives_under.2.2;
    are_causes = h.causes_under.2.2;
    apart = e;
    are_params = h.params_under.2.2;
  }

  pub newer_judged : (has_other has_causes : Bool) (causes gives name : Option (List ℕ)) (params : Option (List Parameter))
      → HasFunctionMembers has_other has_causes causes gives name params ms
      → Judges IsFunctionValue (Refutes IsFunctionValue) (object ms) (newer_with has_other causes gives name params)
  unfolding newer_with
  newer_judged true has_causes causes gives name params h = λ f is.
      has_no_other function_keys ms
      (λ key. get_member key (members_in (function_with f.name is.gives is.causes is.params))) (newer_chosen f is) h.others
  newer_judged false has_causes None gives name params h = λ f is.
      h.causes_under (list is.causes) f.causes (newer_are f is (codes "causes")) (is.causes, refl, is.are_causes)
  newer_judged false has_causes (Some c) None name params h = λ f is.
      h.gives_under (list is.gives) f.gives (newer_are f is (codes "gives")) (is.gives, refl, is.are_gives)
  newer_judged false has_causes (Some c) (Some g) name params h =
      newer_rest (are_apart g c) has_causes c g name params refl h

  -- Older

  module _ (f : Entry) (is : IsOlderFunctionValue (object ms) f) where
    older_are : (key : List ℕ) → get_member key ms ≡ get_member key (members_in (older_function_with f.name is.gives is.params))
    older_are key = ap (λ v. get_member key (members_in v)) is.is_value

    older_chosen : ms ≡ chosen function_keys (λ key. get_member key (members_in (older_function_with f.name is.gives is.params)))
    older_chosen = ap members_in is.is_value

  older_rest : (older : Bool) (causes gives name : Option (List ℕ)) (params : List Parameter)
      → list_all is_older params ≡ older
      → HasFunctionMembers false false causes gives name (Some params) ms
      → Judges IsOlderFunctionValue (Refutes IsOlderFunctionValue) (object ms)
      (if older then option_and_then (λ g. option_map (λ n. entry_with [] g n params) name) gives else None)
  older_rest false causes gives name params e h = λ f is.
      let same = one_parameters _ is.params params f.params h.params_under (older_are f is (codes "params")) is.are_params in
      true≢false (sym is.are_older ∙ ap (list_all is_older) (sym same) ∙ e)
  older_rest true causes None name params e h = λ f is.
      h.gives_under (list is.gives) f.gives (older_are f is (codes "gives")) (is.gives, refl, is.are_gives)
  older_rest true causes (Some g) None params e h = λ f is.
      h.name_under (string f.name) f.name (older_are f is (codes "name")) refl
  older_rest true causes (Some g) (Some n) params e h = record {
    gives = h.gives_under.2.0;
    params = h.params_under.2.0;
    is_value =
        ap object (all_of_four _ _ _ _ h.others (none_there _ h.causes_there)
        (h.gives_under.1 ∙ ap Some h.gives_under.2.1) (h.name_under.1 ∙ ap Some h.name_under.2)
        (h.params_under.1 ∙ ap Some h.params_under.2.1));
    are_gives = h.gives_under.2.2;
    no_causes = refl;
    are_params = h.params_under.2.2;
    are_older = e;
  }

  pub older_judged : (has_other has_causes : Bool) (causes gives name : Option (List ℕ)) (params : Option (List Parameter))
      → HasFunctionMembers has_other has_causes causes gives name params ms
      → Judges IsOlderFunctionValue (Refutes IsOlderFunctionValue) (object ms)
      (older_with has_other has_causes gives name params)
  unfolding older_with
  older_judged true has_causes causes gives name params h = λ f is.
      has_no_other function_keys ms
      (λ key. get_member key (members_in (older_function_with f.name is.gives is.params))) (older_chosen f is) h.others
  older_judged false true causes gives name params h = λ f is.
      true≢false (h.causes_there ∙ ap is_some (older_are f is (codes "causes")))
  older_judged false false causes gives name None h = λ f is.
      h.params_under (list is.params) f.params (older_are f is (codes "params")) (is.params, refl, is.are_params)
  older_judged false false causes gives name (Some p) h =
      older_rest (list_all is_older p) causes gives name p refl h

pub no_function_in : (version : Version) (value : Data) → as_object value ≡ None → Refutes (IsFunctionIn version) value
no_function_in Older value e f = λ is. none_here (as_object value) _ e (ap as_object is.is_value)
no_function_in Newer value e f = λ is. none_here (as_object value) _ e (ap as_object is.is_value)

-- Functions of a list

at_object : (version : Version) (ms : Members) (found : Option Function)
    → Judges (IsFunctionIn version) (Refutes (IsFunctionIn version)) (object ms) (option_map entry_of found)
    → Judges (λ m f. IsFunctionIn version (object m) (entry_of f)) (λ m. Refutes (IsFunctionIn version) (object m)) ms found
at_object version ms None h = h
at_object version ms (Some f) h = h

-- what is made of the members that were read in a version
pub function_made : (begun version v : Version) (ms : Members) (found : Option Function) → version ≡ v → version ≡ begun
    → Judges (IsFunctionIn v) (Refutes (IsFunctionIn v)) (object ms) (option_map entry_of found)
    → Judges (λ m f. IsFunctionIn begun (object m) (entry_of f)) (λ m. Refutes (IsFunctionIn begun) (object m)) ms found
function_made begun version v ms found is same h =
    at_object begun ms found
    (subst (λ w. Judges (IsFunctionIn w) (Refutes (IsFunctionIn w)) (object ms) (option_map entry_of found))
    (sym is ∙ same) h)

module _ (begun : Version) where
  abbrev IsObject : Data → Function → Type 0
  IsObject = IsObjectOf (λ m f. IsFunctionIn begun (object m) (entry_of f))

  abbrev IsNoObject : Data → Type 0
  IsNoObject = IsNoObjectOf (λ m. Refutes (IsFunctionIn begun) (object m))

  of_object : (value : Data) (found : Option Function) → Judges IsObject IsNoObject value found
      → Judges (λ d f. IsFunctionIn begun d (entry_of f)) (Refutes (IsFunctionIn begun)) value found
  of_object value None (inl none) = no_function_in begun value none
  of_object value None (inr none) = subst (Refutes (IsFunctionIn begun)) (sym none.1) none.2
  of_object value (Some f) is = subst (λ d. IsFunctionIn begun d (entry_of f)) (sym is.1) is.2

  pub function_read : (version : Version) (standing : Option (Data × List Token)) (new : List Token) (found : Option Function)
      → begun ≡ version
      → ReadsAs IsObject IsNoObject standing new found
      → ReadsAs (λ d f. IsFunctionIn version d (entry_of f)) (Refutes (IsFunctionIn version)) standing new found
  function_read version standing new found same read = record {
    value = read.value;
    stands = read.stands;
    judged =
        subst (λ v. Judges (λ d f. IsFunctionIn v d (entry_of f)) (Refutes (IsFunctionIn v)) read.value found) same
        (of_object read.value found read.judged);
  }
