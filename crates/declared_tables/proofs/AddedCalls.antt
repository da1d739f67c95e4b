-- Functions and their calls, added one by one: the first function of a name counts.
use Rattle.std.proofs.Common.{◌≡◌, ℕ, ◌+◌, ◌<◌, Bool, true, false, ◌&&◌, ◌||◌, not, if◌then◌else◌, List, ◌∷◌, drop, get_or, length, map, Option, Some, None, option_map, is_some, bytes_eq, refl, sym, ap, ◌∙◌}
use Rattle.std.specs.List.{list_any}
use Rattle.std.proofs.lemmas.Bool.{false≢true, true≢false}
use Rattle.std.proofs.lemmas.Bool.Decides.{same_from_decides}
use Rattle.std.proofs.lemmas.List.{drop_more}
use Rattle.std.proofs.lemmas.Slice.Eq.{bytes_eq-Decides}
use Rattle.table_json.specs.declared.table.Parameter.{Parameter}
use Rattle.facts.specs.declared.table.Table.{Table}
use Rattle.facts.specs.FactViews.{facts_by_name}
use Rattle.called_parameters.specs.declared.called.Called.{Called}
use Rattle.called_parameters.specs.Called.{is_called}
use Rattle.meaning.specs.FunctionFacts.{FunctionFacts}
use Rattle.meaning.specs.OuterBlocks.{or_else}
use Rattle.first_values.specs.ValuesByName.{only_at}
use Rattle.names.proofs.Adding.{or_else-none}
use Rattle.declared_json.specs.declared.outside.DeclaredFunction.{DeclaredFunction}
use Rattle.declared_json.specs.DeclaredPackages.{FunctionEntry, function_of}
use Rattle.declared_tables.specs.AddedFunctions.{AddsFunction}
use Rattle.declared_tables.specs.DeclaredTables.{calls_in, facts_of, function_in, is_called_at}

or_false : (t : Bool) → t ≡ (t || false)
or_false true = refl
or_false false = refl

-- the first of those that are left
pub item_next : {A : Type 0} (xs : List A) (i : ℕ) (x : A) → i < length xs → x ≡ get_or xs i x
    → drop i xs ≡ x ∷ drop (i + 1) xs
item_next xs i x within is = drop_more xs i x within ∙ ap (λ y. y ∷ drop (i + 1) xs) (sym is)

-- Parameters of one function

both_or : (b t c rest : Bool) → ((b || (t && c)) || (t && rest)) ≡ (b || (t && (c || rest)))
both_or true t c rest = refl
both_or false true c rest = refl
both_or false false c rest = refl

none_or : (b t : Bool) → b ≡ (b || (t && false))
none_or true t = refl
none_or false true = refl
none_or false false = refl

-- one parameter more was added
pub call_next : (k : ℕ) (params : List Parameter) (i : ℕ) (p : Parameter) → i < length params → p ≡ get_or params i p
    → (after before t whole : Bool) → after ≡ (before || (t && is_called_at k p))
    → (before || (t && list_any (is_called_at k) (drop i params))) ≡ whole
    → (after || (t && list_any (is_called_at k) (drop (i + 1) params))) ≡ whole
call_next k params i p within is after before t whole added so_far =
    let rest = list_any (is_called_at k) (drop (i + 1) params) in
    ap (λ b. b || (t && rest)) added
    ∙ (both_or before t (is_called_at k p) rest
    ∙ (ap (λ ps. before || (t && list_any (is_called_at k) ps)) (sym (item_next params i p within is)) ∙ so_far))

-- none is left
pub call_last : (now t rest whole : Bool) → rest ≡ false → (now || (t && rest)) ≡ whole → now ≡ whole
call_last now t rest whole none so_far = none_or now t ∙ (ap (λ r. now || (t && r)) (sym none) ∙ so_far)

-- One function

turned : (a b : List ℕ) → bytes_eq a b ≡ bytes_eq b a
turned a b =
    same_from_decides (bytes_eq a b) (bytes_eq b a) (bytes_eq-Decides a b)
    (λ e. sym ((bytes_eq-Decides b a).0 e), λ e. (bytes_eq-Decides b a).1 (sym e))

fact_stays : {A : Type 0} (known : Option A) (t : Bool) (x : A) → (t ≡ true → is_some known ≡ true)
    → known ≡ or_else known (if t then Some x else None)
fact_stays None true x there = absurd (false≢true (there refl))
fact_stays None false x there = refl
fact_stays (Some a) t x there = refl

call_stays : {A : Type 0} (known : Option A) (t b c : Bool) → (t ≡ true → is_some known ≡ true)
    → b ≡ (b || (t && (not (is_some known) && c)))
call_stays None true b c there = absurd (false≢true (there refl))
call_stays None false b c there = or_false b
call_stays (Some a) true b c there = or_false b
call_stays (Some a) false b c there = or_false b

call_added : {A : Type 0} (known : Option A) (t b c : Bool) → (t ≡ true → is_some known ≡ false)
    → (b || (t && c)) ≡ (b || (t && (not (is_some known) && c)))
call_added None t b c new = refl
call_added (Some a) true b c new = absurd (true≢false (new refl))
call_added (Some a) false b c new = refl

-- whether there are facts of the function's name
some_there : (f : FunctionEntry) (facts : Table) (some : Bool) → is_some (facts_by_name facts f.facts.name) ≡ some
    → (name : List ℕ) → bytes_eq f.facts.name name ≡ true
    → is_some (facts_by_name facts name) ≡ some
some_there f facts some is name same =
    ap (λ n. is_some (facts_by_name facts n)) (sym ((bytes_eq-Decides f.facts.name name).0 same)) ∙ is

pub not_added : (f : FunctionEntry) (facts : Table) (calls : Called) (text : List ℕ) → text ≡ f.facts.name
    → is_some (facts_by_name facts text) ≡ true
    → AddsFunction f facts calls facts calls
not_added f facts calls text same is = record {
  are_facts = λ name.
      fact_stays (facts_by_name facts name) (bytes_eq f.facts.name name) (facts_of f) (some_there f facts true there name);
  are_calls = λ name k.
      call_stays (facts_by_name facts name) (bytes_eq f.facts.name name) (is_called calls name k)
      (list_any (is_called_at k) f.facts.params) (some_there f facts true there name);
}
  where
    there : is_some (facts_by_name facts f.facts.name) ≡ true
    there = ap (λ n. is_some (facts_by_name facts n)) (sym same) ∙ is

pub is_added : (f : FunctionEntry) (facts facts_after : Table) (calls calls_after : Called)
    → (text : List ℕ) → text ≡ f.facts.name
    → is_some (facts_by_name facts text) ≡ false
    → (kept : FunctionFacts) → kept ≡ facts_of f
    → (params : List Parameter) → params ≡ f.facts.params
    → ((name : List ℕ) → facts_by_name facts_after name ≡ or_else (facts_by_name facts name) (only_at text kept name))
    → ((name : List ℕ) (k : ℕ)
    → is_called calls_after name k
    ≡ (is_called calls name k || (bytes_eq name text && list_any (is_called_at k) params)))
    → AddsFunction f facts calls facts_after calls_after
is_added f facts facts_after calls calls_after text same is kept is_kept params are_params are_facts are_calls = record {
  are_facts = λ name.
      are_facts name ∙ (λ i. or_else (facts_by_name facts name) (only_at (same i) (is_kept i) name));
  are_calls = λ name k.
      are_calls name k
      ∙ ((λ i. is_called calls name k || (bytes_eq name (same i) && list_any (is_called_at k) (are_params i)))
      ∙ (ap (λ t. is_called calls name k || (t && list_any (is_called_at k) f.facts.params)) (turned name f.facts.name)
      ∙ call_added (facts_by_name facts name) (bytes_eq f.facts.name name) (is_called calls name k)
      (list_any (is_called_at k) f.facts.params) (some_there f facts false new name)));
}
  where
    new : is_some (facts_by_name facts f.facts.name) ≡ false
    new = ap (λ n. is_some (facts_by_name facts n)) (sym same) ∙ is

-- Functions one after the other

pub fact_step : {A B : Type 0} (g : A → B) (known : Option B) (t : Bool) (f : A) (rest : Option A)
    → or_else (or_else known (if t then Some (g f) else None)) (option_map g rest)
    ≡ or_else known (option_map g (if t then Some f else rest))
fact_step g (Some b) t f rest = refl
fact_step g None true f rest = refl
fact_step g None false f rest = refl

call_step : {A B : Type 0} (h : Option A → Bool) (known : Option B) (x : B) (t b : Bool) (f : A) (rest : Option A)
    → ((b || (t && (not (is_some known) && h (Some f))))
    || (not (is_some (or_else known (if t then Some x else None))) && h rest))
    ≡ (b || (not (is_some known) && h (if t then Some f else rest)))
call_step h (Some y) x true b f rest = sym (or_false (b || false))
call_step h (Some y) x false b f rest = sym (or_false (b || false))
call_step h None x true b f rest = sym (or_false (b || h (Some f)))
call_step h None x false b f rest = ap (λ c. c || h rest) (sym (or_false b))

module _ (functions : List DeclaredFunction) (i : ℕ) (x : DeclaredFunction) (within : i < length functions)
    (is_x : x ≡ get_or functions i x) (facts facts_after : Table) (calls calls_after : Called)
    (adds : AddsFunction (function_of x) facts calls facts_after calls_after) (name : List ℕ)
  where
    abbrev f : FunctionEntry
    f = function_of x

    abbrev before : List FunctionEntry
    before = map function_of (drop i functions)

    abbrev rest : List FunctionEntry
    rest = map function_of (drop (i + 1) functions)

    is : before ≡ f ∷ rest
    is = ap (map function_of) (item_next functions i x within is_x)

    pub fact_next : (whole : Option FunctionFacts)
        → or_else (facts_by_name facts name) (option_map facts_of (function_in before name)) ≡ whole
        → or_else (facts_by_name facts_after name) (option_map facts_of (function_in rest name)) ≡ whole
    fact_next whole so_far =
        ap (λ o. or_else o (option_map facts_of (function_in rest name))) (adds.are_facts name)
        ∙ (fact_step facts_of (facts_by_name facts name) (bytes_eq f.facts.name name) f (function_in rest name)
        ∙ (ap (λ fs. or_else (facts_by_name facts name) (option_map facts_of (function_in fs name))) (sym is) ∙ so_far))

    pub flag_next : (k : ℕ) (whole : Bool)
        → (is_called calls name k || (not (is_some (facts_by_name facts name)) && calls_in (function_in before name) k)) ≡ whole
        → (is_called calls_after name k
        || (not (is_some (facts_by_name facts_after name)) && calls_in (function_in rest name) k))
        ≡ whole
    flag_next k whole so_far =
        ap (λ b. b || (not (is_some (facts_by_name facts_after name)) && calls_in (function_in rest name) k))
        (adds.are_calls name k)
        ∙ (ap (λ o.
        (is_called calls name k
        || (bytes_eq f.facts.name name && (not (is_some (facts_by_name facts name)) && list_any (is_called_at k) f.facts.params)))
        || (not (is_some o) && calls_in (function_in rest name) k)) (adds.are_facts name)
        ∙ (call_step (λ o. calls_in o k) (facts_by_name facts name) (facts_of f) (bytes_eq f.facts.name name)
        (is_called calls name k) f (function_in rest name)
        ∙ (ap (λ fs. is_called calls name k
        || (not (is_some (facts_by_name facts name)) && calls_in (function_in fs name) k)) (sym is)
        ∙ so_far)))

-- nothing was added yet
pub fact_first : (now whole : Option FunctionFacts) → now ≡ None → or_else now whole ≡ whole
fact_first now whole none = ap (λ o. or_else o whole) none

pub flag_first : (known : Option FunctionFacts) (now whole : Bool) → known ≡ None → now ≡ false
    → (now || (not (is_some known) && whole)) ≡ whole
flag_first known now whole none is i = is i || (not (is_some (none i)) && whole)

-- none is left
pub fact_last : (now left whole : Option FunctionFacts) → left ≡ None → or_else now left ≡ whole → now ≡ whole
fact_last now left whole none so_far = sym (or_else-none now) ∙ (ap (or_else now) (sym none) ∙ so_far)
