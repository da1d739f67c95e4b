-- What serves the proofs: what is read of the members of objects.
use Rattle.std.specs.Prelude.{ℕ, ◌&&◌, Bool, List, Option, Some, None, if◌then◌else◌}
use Rattle.serde_json.specs.Data.{Data}
use Rattle.table_json.specs.MembersRead.{IsListWith}
use Rattle.table_json.specs.Tables.{Entry}
use Rattle.declared_json.specs.DeclaredPackages.{FunctionEntry, are_below}
use Rattle.declared_json.specs.DeclaredValues.{AreDeclaredOf}

abbrev pub AreDeclaredIn : Data → List FunctionEntry → Type 0
AreDeclaredIn = IsListWith AreDeclaredOf

abbrev pub declared_entry : Entry → ℕ → FunctionEntry
declared_entry facts results = record { facts = facts; results = results }

abbrev pub fits_results : Entry → ℕ → Bool
fits_results facts results = are_below results facts.gives && are_below results facts.causes

-- the function with these facts and so many results
unfoldable pub declared_with : Entry → ℕ → Option FunctionEntry
declared_with facts results = if fits_results facts results then Some (declared_entry facts results) else None
