-- What serves the proofs: faults, functions that give, and what a function adds to a table.
use Rattle.std.specs.Prelude.{ℕ, ◌≡◌, ◌||◌, nat_lt, Bool, false, List, length, ⊤}
use Rattle.facts.specs.declared.table.Table.{Table}
use Rattle.facts.specs.FactViews.{facts_by_name}
use Rattle.called_parameters.specs.declared.called.Called.{Called}
use Rattle.called_parameters.specs.Called.{is_called}
use Rattle.first_values.specs.ValuesByName.{only_at}
use Rattle.meaning.specs.OuterBlocks.{or_else}
use Rattle.vetx_json.specs.KeptUnits.{FunctionEntry}
use Rattle.vetx_tables.specs.declared.fault.KeptFault.{KeptFault}
use Rattle.vetx_tables.specs.declared.fault.KeptFault.TheVariants.{TooLarge, OutOfMemory}
use Rattle.vetx_tables.specs.KeptTables.{calls_at, facts_again}

-- why nothing is kept of something, by whether its numbers fit
abbrev pub IsFaultOf : Bool → KeptFault → Type 0
IsFaultOf fit TooLarge = fit ≡ false
IsFaultOf fit OutOfMemory = ⊤

-- it gives a cancel function, of whatever type
abbrev pub is_giver : FunctionEntry → Bool
is_giver f = nat_lt 0 (length f.facts.gives) || nat_lt 0 (length f.facts.causes)

-- the second are the facts and calls with those of the function; of two functions of one name the first has the facts
pub record AddsKept (f : FunctionEntry) (facts : Table) (calls : Called) (facts_after : Table) (calls_after : Called)
    : Type 0 where
  pub are_facts : (name : List ℕ)
      → facts_by_name facts_after name ≡ or_else (facts_by_name facts name) (only_at f.facts.name (facts_again f) name)
  pub are_calls : (name : List ℕ) (k : ℕ)
      → is_called calls_after name k ≡ (is_called calls name k || calls_at name k f)
