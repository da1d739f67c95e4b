-- What is declared of packages that are not given, as the tables by which their callers know them: what is declared of
-- a function is taken for what its signature says, and for what it is known to call.
use Rattle.std.specs.Prelude.{ℕ, ◌==◌, ◌&&◌, Bool, true, false, if◌then◌else◌, List, [], ◌∷◌, ◌++◌, map, Option, Some, None, option_map}
use Rattle.std.specs.List.{list_any}
use Rattle.std.specs.Str.{bytes_eq}
use Rattle.table_json.specs.declared.table.Parameter.{Parameter}
use Rattle.table_json.specs.declared.table.Parameter.TheVariants.{Cancel, Cause, Group}
use Rattle.declared_json.specs.DeclaredPackages.{FunctionEntry, PackageEntry, table_at}
use Rattle.meaning.specs.FunctionFacts.{CancelType, plain, with_cause, cancel_type, group_type, TrackedParameter, CancelResult, FunctionFacts}
use Rattle.meaning_reports.specs.Loaded.{PackageTable, Tables, no_table}
use Rattle.facts.specs.FactViews.{facts_by_name}
use Rattle.called_parameters.specs.Called.{is_called}
use Rattle.first_values.specs.ValuesByName.{value_of}
use Rattle.declared_tables.specs.declared.tables.DeclaredTables.{DeclaredTables}
use Rattle.declared_tables.specs.declared.tables.PackageTable.{PackageTable as KeptTable}

-- What is declared of a function

-- the results at these positions are cancel functions of that type
abbrev pub results_of : CancelType → List ℕ → List CancelResult
results_of t positions = map (λ n. record { position = n; type = t }) positions

abbrev pub parameter_of : Parameter → TrackedParameter
parameter_of (Cancel at calls) = record { position = at; typed = cancel_type plain }
parameter_of (Cause at calls) = record { position = at; typed = cancel_type with_cause }
parameter_of (Group at) = record { position = at; typed = group_type }

abbrev pub facts_of : FunctionEntry → FunctionFacts
facts_of f = record {
  parameters = map parameter_of f.facts.params;
  gives = results_of plain f.facts.gives ++ results_of with_cause f.facts.causes;
  results = f.results;
  unless = [];
}

-- the parameter has that position, and is declared to be called before its function returns
abbrev pub is_called_at : ℕ → Parameter → Bool
is_called_at k (Cancel at calls) = calls && (k == at)
is_called_at k (Cause at calls) = calls && (k == at)
is_called_at k (Group at) = false

-- The tables

-- the first function of that name
abbrev pub function_in : List FunctionEntry → List ℕ → Option FunctionEntry
function_in [] name = None
function_in (f ∷ fs) name = if bytes_eq f.facts.name name then Some f else function_in fs name

abbrev pub calls_in : Option FunctionEntry → ℕ → Bool
calls_in None k = false
calls_in (Some f) k = list_any (is_called_at k) f.facts.params

abbrev pub table_of : List FunctionEntry → PackageTable
table_of fs = record {
  signatures = λ name. option_map facts_of (function_in fs name);
  calls = λ name k. calls_in (function_in fs name) k;
  is_told = true;
}

abbrev pub table_declared : Option (List FunctionEntry) → PackageTable
table_declared None = no_table
table_declared (Some fs) = table_of fs

-- for each path what is declared of the functions of its package: nothing, where nothing is declared of it
abbrev pub declared_tables : List PackageEntry → Tables
declared_tables packages path = table_declared (table_at path packages)

-- What the program keeps

abbrev pub table_view : KeptTable → PackageTable
table_view t = record { signatures = facts_by_name t.signatures; calls = is_called t.called; is_told = t.is_told }

abbrev pub table_if_any : Option KeptTable → PackageTable
table_if_any None = no_table
table_if_any (Some t) = table_view t

-- what is kept for each path
abbrev pub declared_view : DeclaredTables → Tables
declared_view kept path = table_if_any (value_of kept.packages path)
