-- What serves the proof of the promise: what the paths of a body rely on, and that functions and literals keep it. The
-- promise itself says `IsWaitingFor`, of a goroutine that waits for a group.
use Rattle.std.specs.Prelude.{◌≡◌, ℕ, Bool, true, List, Some, slice_get, Contains}
use Rattle.meaning.specs.FunctionFacts.{cancel, group}
use Rattle.meaning.specs.Uses.{Callee}
use Rattle.meaning.specs.BodyEvents.{Variable, own_parameter, captured}
use Rattle.meaning.specs.Classes.{Promises}
use Rattle.meaning_packages.specs.PathFaults.{paths_of, KeepsCall}
use Rattle.meaning_packages.specs.Credits.{Credits, AreFairCredits, Settles, no_calls, promises_in}
use Rattle.meaning_packages.specs.CallsFlags.{is_function, calls_by}
use Rattle.meaning_reports.specs.Loaded.{LoadedPackage, imported_flags}
use Rattle.meaning_reports.specs.UsedImports.{HandsThere}
use Rattle.meaning_runs.specs.Bodies.{Program, Body, variables_in, IsLiteralIn, IsFunction}
use Rattle.meaning_runs.specs.Steps.{HasNoBody, is_declared_to_call}

-- what the package of the body relies on of functions: its own flags, and those of what it imports
abbrev pub calls_in : Program → LoadedPackage → Callee → ℕ → Bool
calls_in p loaded = calls_by (p.tables loaded.path).calls (imported_flags loaded p.tables)

-- the variable is a parameter of the body that its package's table says it calls, and the body's paths keep it
pub record IsFlagged (p : Program) (b : Body) (v : Variable) : Type 0 where
  pub loaded : LoadedPackage
  pub name : List ℕ
  pub position : ℕ
  pub is_package : slice_get p.packages b.home ≡ Some loaded
  pub has_name : is_function name b.place ≡ true
  pub is_flag : (p.tables loaded.path).calls name position ≡ true
  pub is_of_body : Contains (variables_in b) v
  pub is_parameter : v.role ≡ own_parameter position
  pub is_cancel_variable : v.kind ≡ cancel
  pub credits : Credits
  pub are_fair : AreFairCredits b.file credits
  pub keeps : KeepsCall (paths_of b.file (promises_in (calls_in p loaded) credits b.place.at) b.place) v

-- the literal captures the variable, and its paths settle it, under some fair credits
pub record IsCreditedWith (literal : Body) (v : Variable) : Type 0 where
  pub credits : Credits
  pub are_fair : AreFairCredits literal.file credits
  pub is_of_body : Contains (variables_in literal) v
  pub is_captured : v.role ≡ captured
  pub is_cancel_variable : v.kind ≡ cancel
  pub settles : Settles (paths_of literal.file (promises_in no_calls credits literal.place.at) literal.place) v

-- the literal captures the group, and none of its lists that comes to a return leaves the group live, under some fair
-- credits
pub record IsWaitingFor (literal : Body) (g : Variable) : Type 0 where
  pub credits : Credits
  pub are_fair : AreFairCredits literal.file credits
  pub is_of_body : Contains (variables_in literal) g
  pub is_captured : g.role ≡ captured
  pub is_group_variable : g.kind ≡ group
  pub settles : Settles (paths_of literal.file (promises_in no_calls credits literal.place.at) literal.place) g

-- The function that the body names is known to call that parameter: each body that it has is, and where it has none, so
-- it is declared.
pub record TakesUp (p : Program) (b : Body) (f : Callee) (k : ℕ) : Type 0 where
  pub each : (c : Body) → IsFunction p b f c → (v : Variable) × IsFlagged p c v × (v.role ≡ own_parameter k)
  pub is_declared : HasNoBody p b f → is_declared_to_call p f k ≡ true

-- What is relied on of functions and of literals in the body holds of them: of the functions to which a body of its
-- file passes something, since of others nothing has to hold.
pub record AreTakenUp (p : Program) (b : Body) (relies : Promises) : Type 0 where
  pub functions : (f : Callee) (k : ℕ) → HandsThere b.file f → relies.calls f k ≡ true → TakesUp p b f k
  pub literals : (v : Variable) (literal : Body)
      → Contains (variables_in b) v
      → v.kind ≡ cancel
      → IsLiteralIn b literal
      → relies.credits literal.place.at v.number ≡ true
      → (w : Variable) × IsCreditedWith literal w × (w.number ≡ v.number)
  pub waits : (g : Variable) (literal : Body)
      → Contains (variables_in b) g
      → g.kind ≡ group
      → IsLiteralIn b literal
      → relies.credits literal.place.at g.number ≡ true
      → (w : Variable) × IsWaitingFor literal w × (w.number ≡ g.number)
