-- What is known of Go's library, as a text with a line for each function: so another set has another text.
use Rattle.std.specs.Prelude.{ℕ, ◌+◌, Bool, true, false, List, [], ◌∷◌, ◌++◌, codes, flat_map}
use Rattle.table_json.specs.declared.table.Parameter.{Parameter}
use Rattle.table_json.specs.declared.table.Parameter.TheVariants.{Cancel, Cause, Group}
use Rattle.declared_json.specs.DeclaredPackages.{FunctionEntry, PackageEntry}
use Rattle.library_facts.specs.Library.{library_entries}

-- the numbers of the library are below ten
abbrev pub digit : ℕ → List ℕ
digit n = (48 + n) ∷ []

abbrev pub called_text : Bool → List ℕ
called_text true = codes " calls "
called_text false = codes " takes "

abbrev pub parameter_text : Parameter → List ℕ
parameter_text (Cancel at calls) = called_text calls ++ digit at
parameter_text (Cause at calls) = codes " with a cause" ++ called_text calls ++ digit at
parameter_text (Group at) = codes " group " ++ digit at

abbrev pub results_text : List ℕ → List ℕ → List ℕ
results_text kind positions = flat_map (λ n. kind ++ digit n) positions

-- `PATH.NAME calls 0 of 1`: of so many results
abbrev pub function_text : List ℕ → FunctionEntry → List ℕ
function_text path f =
    path ++ (codes "." ++ (f.facts.name ++ (results_text (codes " gives ") f.facts.gives
    ++ (results_text (codes " gives with a cause ") f.facts.causes ++ (flat_map parameter_text f.facts.params
    ++ (codes " of " ++ (digit f.results ++ codes "\n")))))))

abbrev pub entry_text : PackageEntry → List ℕ
entry_text p = flat_map (function_text p.path) p.functions

abbrev pub library_text : List ℕ
library_text = flat_map entry_text library_entries
