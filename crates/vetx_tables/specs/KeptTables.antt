-- What is kept of the table of a package for those that import it, and the table that is made of it again.
use Rattle.std.specs.Prelude.{ℕ, ◌+◌, ◌&&◌, Bool, true, if◌then◌else◌, nat_lt, List, [], ◌∷◌, ◌++◌, take, drop, map, Option, Some, None, is_some, option_map}
use Rattle.std.specs.List.{list_all, list_any}
use Rattle.std.specs.Str.{bytes_eq}
use Rattle.meaning.specs.FunctionFacts.{with_cause, plain, TrackedParameter, CancelResult, Unless, FunctionFacts}
use Rattle.meaning_reports.specs.Loaded.{PackageTable}
use Rattle.table_json.specs.TableValues.{if_fits}
use Rattle.table_json.specs.WrittenTables.{says_something}
use Rattle.declared_tables.specs.DeclaredTables.{is_called_at, parameter_of, results_of}
use Rattle.plain_tables.specs.Tables.{entry_told}
use Rattle.vetx_json.specs.KeptUnits.{FunctionEntry, UnlessEntry}

-- What is kept

abbrev pub unless_kept : Unless → UnlessEntry
unless_kept u = record { given = u.given; error = u.error }

-- what is kept of the function of that name, of whose parameters these are known to be called
abbrev pub function_kept : (ℕ → Bool) → List ℕ → FunctionFacts → FunctionEntry
function_kept calls name facts = record {
  facts = entry_told calls name facts;
  results = facts.results;
  unless = map unless_kept facts.unless;
}

abbrev pub kept_if : (ℕ → Bool) → List ℕ → Option FunctionFacts → List FunctionEntry
kept_if calls name None = []
kept_if calls name (Some facts) = function_kept calls name facts ∷ []

-- what is kept of the function of that name: all that is known of it, also where nothing is tracked
abbrev pub kept_for : PackageTable → List ℕ → List FunctionEntry
kept_for table name = kept_if (table.calls name) name (table.signatures name)

-- Its numbers are below 2^32

abbrev pub fits : ℕ → Bool
fits n = is_some (if_fits n)

abbrev pub parameter_fits : TrackedParameter → Bool
parameter_fits p = fits p.position

abbrev pub result_fits : CancelResult → Bool
result_fits r = fits r.position

abbrev pub unless_fits : Unless → Bool
unless_fits u = fits u.given && fits u.error

abbrev pub facts_fit : FunctionFacts → Bool
facts_fit f =
    list_all parameter_fits f.parameters
    && (list_all result_fits f.gives && (fits f.results && list_all unless_fits f.unless))

abbrev pub fit_if_known : Option FunctionFacts → Bool
fit_if_known None = true
fit_if_known (Some facts) = facts_fit facts

abbrev pub function_fits : PackageTable → List ℕ → Bool
function_fits table name = fit_if_known (table.signatures name)

-- What is made of it again

-- how many of the positions, from the first on, are below that one
abbrev pub count_below : ℕ → List ℕ → ℕ
count_below n [] = 0
count_below n (m ∷ ms) = if nat_lt m n then 1 + count_below n ms else 0

-- the results at positions of both types, by their positions; those of each type rise
abbrev pub results_by_position : List ℕ → List ℕ → List CancelResult
results_by_position gives [] = results_of plain gives
results_by_position gives (n ∷ causes) =
    results_of plain (take (count_below n gives) gives)
    ++ record { position = n; type = with_cause } ∷ results_by_position (drop (count_below n gives) gives) causes

abbrev pub unless_again : UnlessEntry → Unless
unless_again u = record { given = u.given; error = u.error }

abbrev pub facts_again : FunctionEntry → FunctionFacts
facts_again f = record {
  parameters = map parameter_of f.facts.params;
  gives = results_by_position f.facts.gives f.facts.causes;
  results = f.results;
  unless = map unless_again f.unless;
}

-- the first function of that name
abbrev pub function_in : List FunctionEntry → List ℕ → Option FunctionEntry
function_in [] name = None
function_in (f ∷ fs) name = if bytes_eq f.facts.name name then Some f else function_in fs name

-- the function has that name, and is known to call its parameter there
abbrev pub calls_at : List ℕ → ℕ → FunctionEntry → Bool
calls_at name k f = bytes_eq name f.facts.name && list_any (is_called_at k) f.facts.params

-- it has a parameter or a result that is tracked
abbrev pub tells_something : FunctionEntry → Bool
tells_something f = says_something f.facts

abbrev pub table_again : List FunctionEntry → PackageTable
table_again fs = record {
  signatures = λ name. option_map facts_again (function_in fs name);
  calls = λ name k. list_any (calls_at name k) fs;
  is_told = list_any tells_something fs;
}
