-- Functions that are added to a table one by one: the first of a name has the facts.
use Rattle.std.proofs.Common.{◌≡◌, ℕ, ◌+◌, ◌<◌, Bool, true, false, ◌||◌, List, ◌∷◌, drop, get_or, length, map, Option, option_map, bytes_eq, refl, sym, ap, ◌∙◌}
use Rattle.std.specs.List.{list_any}
use Rattle.facts.specs.declared.table.Table.{Table}
use Rattle.facts.specs.FactViews.{facts_by_name}
use Rattle.called_parameters.specs.declared.called.Called.{Called}
use Rattle.called_parameters.specs.Called.{is_called}
use Rattle.meaning.specs.FunctionFacts.{FunctionFacts}
use Rattle.meaning.specs.OuterBlocks.{or_else}
use Rattle.declared_tables.proofs.AddedCalls.{fact_step, item_next}
use Rattle.vetx_json.specs.declared.functions.KeptFunction.{KeptFunction}
use Rattle.vetx_json.specs.KeptUnits.{FunctionEntry, function_of}
use Rattle.vetx_tables.specs.KeptParts.{AddsKept}
use Rattle.vetx_tables.specs.KeptTables.{calls_at, facts_again, function_in}

or_later : (a b c : Bool) → ((a || b) || c) ≡ (a || (b || c))
or_later true b c = refl
or_later false b c = refl

pub or_none : (a : Bool) → a ≡ (a || false)
or_none true = refl
or_none false = refl

module _ (functions : List KeptFunction) (i : ℕ) (x : KeptFunction) (within : i < length functions)
    (is_x : x ≡ get_or functions i x) (facts facts_after : Table) (calls calls_after : Called)
    (adds : AddsKept (function_of x) facts calls facts_after calls_after) (name : List ℕ)
  where
    abbrev f : FunctionEntry
    f = function_of x

    abbrev before : List FunctionEntry
    before = map function_of (drop i functions)

    abbrev rest : List FunctionEntry
    rest = map function_of (drop (i + 1) functions)

    is : before ≡ f ∷ rest
    is = ap (map function_of) (item_next functions i x within is_x)

    pub fact_more : (whole : Option FunctionFacts)
        → or_else (facts_by_name facts name) (option_map facts_again (function_in before name)) ≡ whole
        → or_else (facts_by_name facts_after name) (option_map facts_again (function_in rest name)) ≡ whole
    fact_more whole so_far =
        ap (λ o. or_else o (option_map facts_again (function_in rest name))) (adds.are_facts name)
        ∙ (fact_step facts_again (facts_by_name facts name) (bytes_eq f.facts.name name) f (function_in rest name)
        ∙ (ap (λ fs. or_else (facts_by_name facts name) (option_map facts_again (function_in fs name))) (sym is)
        ∙ so_far))

    pub call_more : (k : ℕ) (whole : Bool)
        → (is_called calls name k || list_any (calls_at name k) before) ≡ whole
        → (is_called calls_after name k || list_any (calls_at name k) rest) ≡ whole
    call_more k whole so_far =
        ap (λ b. b || list_any (calls_at name k) rest) (adds.are_calls name k)
        ∙ (or_later (is_called calls name k) (calls_at name k f) (list_any (calls_at name k) rest)
        ∙ (ap (λ fs. is_called calls name k || list_any (calls_at name k) fs) (sym is) ∙ so_far))
