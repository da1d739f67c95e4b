-- What the invariant asks for of bindings.
use Rattle.std.specs.Prelude.{◌≡◌, ℕ, true, List, Contains}
use Rattle.meaning.specs.Code.{Occurrence}
use Rattle.meaning.specs.Lists.{Reaches}
use Rattle.meaning.specs.FunctionFacts.{VariableKind, cancel}
use Rattle.meaning.specs.Uses.{VariableAt, Event}
use Rattle.meaning.specs.BodyEvents.{Variable, own_parameter}
use Rattle.meaning_packages.specs.PathFaults.{BindsCancel, is_declared}
use Rattle.meaning_runs.specs.Bodies.{Program, Body, IsOf, code_of, variables_in}

-- a variable of that kind that the body declares, and that the event binds; it is no parameter
pub record BindsVariable (kind : VariableKind) (b : Body) (u : VariableAt) : Type 0 where
  pub variable : Variable
  pub is_of_body : Contains (variables_in b) variable
  pub is_it : variable.number ≡ u.number
  pub is_of_kind : variable.kind ≡ kind
  pub is_declared_here : is_declared variable.role ≡ true
  pub is_no_parameter : (v : Variable) (k : ℕ)
      → Contains (variables_in b) v
      → v.number ≡ u.number
      → v.role ≡ own_parameter k
      → ⊥

abbrev pub BindsOwn : Body → VariableAt → Type 0
BindsOwn = BindsVariable cancel

pub record BindsItsOwn (p : Program) : Type 0 where
  pub each : (b : Body) (t : List (Occurrence Event)) (o : Occurrence Event) (u : VariableAt)
      → IsOf p b
      → Reaches (code_of b) t o
      → BindsCancel o.event u
      → BindsOwn b u
