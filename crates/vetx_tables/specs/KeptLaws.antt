-- What is kept of a table that was judged by: functions in order, of which that table is made again.
use Rattle.std.specs.Prelude.{ℕ, ◌≡◌, false, List, ⊤}
use Rattle.std.specs.List.{AllByRecursion}
use Rattle.table_json.specs.Tables.{HasOrder, Rise, by_bytes}
use Rattle.meaning_reports.specs.Loaded.{PackageTable}
use Rattle.vetx_json.specs.KeptUnits.{FunctionEntry, facts_of, name_of}
use Rattle.vetx_tables.specs.declared.fault.KeptFault.{KeptFault}
use Rattle.vetx_tables.specs.declared.fault.KeptFault.TheVariants.{TooLarge, OutOfMemory}
use Rattle.vetx_tables.specs.KeptTables.{function_fits, table_again}

-- the names of the functions rise, each is in order, and the table that is made of them is this one
pub record AreKept (table : PackageTable) (functions : List FunctionEntry) : Type 0 where
  pub names_rise : Rise by_bytes name_of functions
  pub each_in_order : AllByRecursion (λ f. HasOrder (facts_of f)) functions
  pub is_again : table_again functions ≡ table

-- why nothing is kept: a number of a function is not below 2^32, or memory was refused
abbrev pub IsKeptFault : PackageTable → KeptFault → Type 0
IsKeptFault table TooLarge = (name : List ℕ) × (function_fits table name ≡ false)
IsKeptFault table OutOfMemory = ⊤
