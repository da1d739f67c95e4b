-- Which tables may have a function that gives a cancel function, by a flag that is kept with each. It is false only
-- where none gives.
use Rattle.std.specs.Prelude.{ℕ, ◌≡◌, ◌||◌, nat_lt, Bool, false, List, length, Some}
use Rattle.first_values.specs.ValuesByName.{value_of}
use Rattle.first_values.specs.declared.FirstValues.{FirstValues}
use Rattle.declared_json.specs.DeclaredPackages.{FunctionEntry}
use Rattle.silent_files.specs.SilentPackages.{GiveNone}
use Rattle.declared_tables.specs.DeclaredTables.{table_view}
use Rattle.declared_tables.specs.declared.tables.DeclaredTables.{DeclaredTables}
use Rattle.declared_tables.specs.declared.tables.PackageTable.{PackageTable as KeptTable}

-- it is declared to give a cancel function, of whatever type
abbrev pub is_giver : FunctionEntry → Bool
is_giver f = nat_lt 0 (length f.facts.gives) || nat_lt 0 (length f.facts.causes)

-- where the flag says so, no function of the table gives
abbrev pub MarksGivers : KeptTable → Type 0
MarksGivers t = t.gives ≡ false → GiveNone (table_view t).signatures

-- each of these tables has its flag
abbrev pub AreMarked : FirstValues KeptTable → Type 0
AreMarked packages = (path : List ℕ) (t : KeptTable) → value_of packages path ≡ Some t → MarksGivers t

abbrev pub AllMarkGivers : DeclaredTables → Type 0
AllMarkGivers kept = AreMarked kept.packages
