-- By which variables a body can start work in a group, as names alone say it, and what the rules of uses give of them.
use Rattle.std.specs.Prelude.{◌≡◌, ℕ, ◌<◌, ◌==◌, ◌&&◌, Bool, true, false, List, Option, Some, None, Contains}
use Rattle.std.specs.List.{list_any}
use Rattle.meaning.specs.Code.{Occurrence}
use Rattle.meaning.specs.Lists.{Reaches}
use Rattle.meaning.specs.FunctionFacts.{group}
use Rattle.meaning.specs.Tracked.{GroupState}
use Rattle.meaning.specs.Uses.{Callee, VariableAt, Event, lend, make, defer_literal, go_literal, go}
use Rattle.meaning.specs.BodyEvents.{Variable, is_parameter}
use Rattle.meaning_packages.specs.PathFaults.{is_declared}
use Rattle.meaning_runs.specs.Bodies.{Program, Body, IsOf, IsOutermost, IsLiteralIn, IsFunction, Escapes, code_of, variables_in, is_parameter_of, is_captured_by}
use Rattle.meaning_runs.specs.World.{is_declaration}
use Rattle.meaning_runs.specs.Steps.{Starts}
use Rattle.meaning_runs.proofs.Bindings.{Binds}
use Rattle.meaning_runs.proofs.GroupDuties.{is_mentioned}
use Rattle.meaning_runs.proofs.GroupHomes.{home_in}

-- a tracked variable of that number is declared in the body, and is no parameter
abbrev pub is_declared_in : Body → ℕ → Bool
is_declared_in b number = list_any (λ v. (v.number == number) && is_declared v.role) (variables_in b)

-- a group variable that the body declares, and that is no parameter
pub record IsOwnGroup (b : Body) (v : Variable) : Type 0 where
  pub is_of_body : Contains (variables_in b) v
  pub is_group_variable : v.kind ≡ group
  pub is_declared_here : is_declared v.role ≡ true

pub record IsGroupParameter (b : Body) (v : Variable) : Type 0 where
  pub is_of_body : Contains (variables_in b) v
  pub is_group_variable : v.kind ≡ group
  pub is_parameter_here : is_parameter v.role ≡ true

-- work may be started by the body in the group that the variable holds: it is declared here, or is a parameter, or
-- starts the body itself
pub data Startable (b : Body) (number : ℕ) : Type 0 where
  by_own : (v : Variable) → IsOwnGroup b v → v.number ≡ number → Startable b number
  by_parameter : (v : Variable) → IsGroupParameter b v → v.number ≡ number → Startable b number
  by_home : home_in b ≡ Some number → Startable b number

-- the variable's group may be lent by the body
pub data Lendable (b : Body) (number : ℕ) : Type 0 where
  own_lent : (v : Variable) → IsOwnGroup b v → v.number ≡ number → Lendable b number
  parameter_lent : (v : Variable) → IsGroupParameter b v → v.number ≡ number → Lendable b number

-- What names and the rules of uses give, with no look at paths.
pub record BodiesAreWellUsed (p : Program) : Type 0 where
  -- what is bound is declared in the body; where a literal mentions it, there alone
  pub binds_own : (b : Body) (t : List (Occurrence Event)) (o : Occurrence Event) (u : VariableAt)
      → IsOf p b
      → Reaches (code_of b) t o
      → Binds o.event u
      → (is_declared_in b u.number ≡ true) × (is_mentioned b.file u.number ≡ true → is_declaration u ≡ true)
  pub makes_own : (b : Body) (t : List (Occurrence Event)) (o : Occurrence Event) (u : VariableAt) (state : GroupState)
      → IsOf p b
      → Reaches (code_of b) t o
      → o.event ≡ make u state
      → (v : Variable) × IsOwnGroup b v × (v.number ≡ u.number)
  pub starts_in : (b : Body) (t : List (Occurrence Event)) (o : Occurrence Event) (v : ℕ) (literal : Option ℕ)
      → IsOf p b
      → Reaches (code_of b) t o
      → Starts o.event v literal
      → Startable b v
  -- a literal that is started has that variable as its home
  pub has_home : (b : Body) (t : List (Occurrence Event)) (o : Occurrence Event) (v at : ℕ) (literal : Body)
      → IsOf p b
      → Reaches (code_of b) t o
      → Starts o.event v (Some at)
      → IsLiteralIn b literal
      → literal.place.at ≡ at
      → home_in literal ≡ Some v
  pub lends_own : (b : Body) (t : List (Occurrence Event)) (o : Occurrence Event) (v position : ℕ) (f : Callee)
      → IsOf p b
      → Reaches (code_of b) t o
      → o.event ≡ lend v f position
      → Lendable b v
  -- a literal need not mention its home
  pub home_is_elsewhere : (b : Body) (v : ℕ)
      → IsOf p b
      → home_in b ≡ Some v
      → (is_declared_in b v ≡ false) × (is_parameter_of b v ≡ false)
  pub function_has_no_home : (caller b : Body) (f : Callee) → IsFunction p caller f b → home_in b ≡ None
  pub outermost_has_no_home : (b : Body) → IsOf p b → IsOutermost b → home_in b ≡ None
  pub deferred_has_no_home : (b : Body) (t : List (Occurrence Event)) (o : Occurrence Event) (at : ℕ) (literal : Body)
      → IsOf p b
      → Reaches (code_of b) t o
      → o.event ≡ defer_literal at
      → IsLiteralIn b literal
      → literal.place.at ≡ at
      → home_in literal ≡ None
  pub gone_has_no_home : (b : Body) (t : List (Occurrence Event)) (o : Occurrence Event) (at : ℕ) (literal : Body)
      → IsOf p b
      → Reaches (code_of b) t o
      → o.event ≡ go (go_literal at)
      → IsLiteralIn b literal
      → literal.place.at ≡ at
      → home_in literal ≡ None
  pub escaped_has_no_home : (b literal : Body) → IsOf p b → Escapes b literal → home_in literal ≡ None
  -- a literal begins behind the body in which it stands
  pub begins_behind : (b literal : Body) → IsOf p b → IsLiteralIn b literal → b.place.at < literal.place.at
  -- what a literal captures it, or a literal in it, mentions
  pub captured_is_mentioned : (b literal : Body) (v : ℕ)
      → IsOf p b
      → IsLiteralIn b literal
      → is_captured_by literal v ≡ true
      → is_mentioned b.file v ≡ true
