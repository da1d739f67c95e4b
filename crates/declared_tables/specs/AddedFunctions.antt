-- What serves the proofs: what a function adds to what is declared before it. Of two functions of one name the first
-- counts.
use Rattle.std.specs.Prelude.{ℕ, ◌≡◌, ◌&&◌, ◌||◌, not, Bool, List, Option, is_some}
use Rattle.std.specs.List.{list_any}
use Rattle.std.specs.Str.{bytes_eq}
use Rattle.facts.specs.declared.table.Table.{Table}
use Rattle.facts.specs.FactViews.{facts_by_name}
use Rattle.called_parameters.specs.declared.called.Called.{Called}
use Rattle.called_parameters.specs.Called.{is_called}
use Rattle.meaning.specs.FunctionFacts.{FunctionFacts}
use Rattle.meaning.specs.OuterBlocks.{or_else}
use Rattle.first_values.specs.ValuesByName.{only_at}
use Rattle.declared_json.specs.DeclaredPackages.{FunctionEntry}
use Rattle.declared_tables.specs.DeclaredTables.{facts_of, is_called_at}

-- the function has that name, there are no facts of that name yet, and it is declared to call its parameter there
abbrev pub adds_call : Option FunctionFacts → FunctionEntry → List ℕ → ℕ → Bool
adds_call known f name k =
    bytes_eq f.facts.name name && (not (is_some known) && list_any (is_called_at k) f.facts.params)

-- the second are the facts and calls with those of the function
pub record AddsFunction
    (f : FunctionEntry) (facts : Table) (calls : Called) (facts_after : Table) (calls_after : Called)
    : Type 0 where
  pub are_facts : (name : List ℕ)
      → facts_by_name facts_after name ≡ or_else (facts_by_name facts name) (only_at f.facts.name (facts_of f) name)
  pub are_calls : (name : List ℕ) (k : ℕ)
      → is_called calls_after name k ≡ (is_called calls name k || adds_call (facts_by_name facts name) f name k)
