-- What the program keeps of the parameters that functions are known to call, and what it stands for.
use Rattle.std.specs.Prelude.{ℕ, ◌==◌, ◌&&◌, Bool, false, List, Option, Some, None, option_map}
use Rattle.std.specs.Str.{bytes_eq}
use Rattle.indexmap.specs.IndexSet.{contains_by}
use Rattle.first_values.specs.ValuesByName.{value_of}
use Rattle.meaning_packages.specs.CallsFlags.{Flags}
use Rattle.called_parameters.specs.declared.called.FunctionParameter.{FunctionParameter}
use Rattle.called_parameters.specs.declared.called.Called.{Called}
use Rattle.called_parameters.specs.declared.called.ImportedCalls.{ImportedCalls}

abbrev pub is_parameter : List ℕ → ℕ → FunctionParameter → Bool
is_parameter name k p = bytes_eq name p.name.now && (k == p.position)

-- the function of that name is known to call its parameter at that position
abbrev pub is_called : Called → Flags
is_called called name k = contains_by (is_parameter name k) called.parameters

abbrev pub is_called_in : Option Called → Flags
is_called_in None name k = false
is_called_in (Some called) name k = is_called called name k

-- the functions of the package of that path
abbrev pub called_by_path : ImportedCalls → List ℕ → Option Called
called_by_path imported path = option_map (λ c. c.now) (value_of imported.packages path)

abbrev pub flags_by_path : ImportedCalls → List ℕ → Flags
flags_by_path imported path = is_called_in (called_by_path imported path)
