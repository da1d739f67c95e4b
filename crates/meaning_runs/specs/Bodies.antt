-- The bodies that a run goes through: those of the functions, methods and literals of the packages that were given, or
-- of some of them.
-- (The Go specification, "Import declarations", "Function declarations", "Function literals", "Calls".)
use Rattle.std.specs.Prelude.{ℕ, ◌≡◌, ◌==◌, ◌&&◌, Bool, true, false, List, [], Option, Some, None, slice_get, Contains}
use Rattle.std.specs.List.{list_any}
use Rattle.meaning.specs.Code.{Code}
use Rattle.meaning.specs.StatementCode.{body_code}
use Rattle.meaning.specs.Mentions.{BodyPlace, opens}
use Rattle.meaning.specs.Tracked.{Placed, outer}
use Rattle.meaning.specs.Uses.{Callee, Event, start, try, Seen, is_body, is_deferred, go_literal, go}
use Rattle.meaning.specs.BodyEvents.{Variable, VariableRole, own_parameter, own_receiver, declared_in_body, captured, is_parameter, mark_events, sites_of, variables_of, bodies_of}
use Rattle.meaning_packages.specs.PathFaults.{block_of}
use Rattle.meaning_packages.specs.CallsFlags.{is_function}
use Rattle.imports.specs.Ranks.{Chain}
use Rattle.meaning_reports.specs.Loaded.{LoadedPackage, Tables, import_list, seen_files}

-- The packages that were given, what is known of functions (which tells what variables their callers track), what is
-- declared of packages that were not given, which is taken for true, the place of the one that is looked at, and the
-- places of those whose bodies run. What others do, the environment does.
pub record Program : Type 0 where
  pub packages : List LoadedPackage
  pub tables : Tables
  pub declared : Tables
  pub looked_at : ℕ
  pub are_run : ℕ → Bool

-- it is the place of the package that is looked at, or of one that this imports, at once or through others
abbrev pub IsBelow : Program → ℕ → Type 0
IsBelow p home = Chain (import_list p.packages) p.looked_at home

abbrev pub IsRun : Program → ℕ → Type 0
IsRun p home = p.are_run home ≡ true

-- a body, the file in which it stands, and the place of its package
pub record Body : Type 0 where
  pub home : ℕ
  pub file : Seen
  pub place : BodyPlace

pub record IsOf (p : Program) (b : Body) : Type 0 where
  pub loaded : LoadedPackage
  pub is_package : slice_get p.packages b.home ≡ Some loaded
  pub is_run : IsRun p b.home
  pub is_file : Contains (seen_files p.packages p.tables loaded) b.file
  pub is_body : Contains (bodies_of b.file) b.place

-- the events that it may go through
abbrev pub code_of : Body → Code Event
code_of b = body_code (sites_of b.file b.place.at) (block_of b.place)

abbrev pub variables_in : Body → List Variable
variables_in b = variables_of b.file b.place.at

-- a tracked variable of that number is a parameter of the body, or its receiver
abbrev pub is_parameter_of : Body → ℕ → Bool
is_parameter_of b number = list_any (λ v. (v.number == number) && is_parameter v.role) (variables_in b)

abbrev pub is_captured : VariableRole → Bool
is_captured (own_parameter k) = false
is_captured own_receiver = false
is_captured declared_in_body = false
is_captured captured = true

-- a tracked variable of that number is declared in a body around this one, and is mentioned in this one or in a literal
-- in it
abbrev pub is_captured_by : Body → ℕ → Bool
is_captured_by b number = list_any (λ v. (v.number == number) && is_captured v.role) (variables_in b)

-- the body stands in no other: that of a function, of a method, or of a literal outside all functions
pub record IsOutermost (b : Body) : Type 0 where
  pub mark : Placed
  pub is_of_file : Contains b.file.marks mark
  pub opens_it : mark.mark ≡ opens b.place
  pub stands_in_none : outer mark.bodies ≡ []

-- the literal stands in the body, and in no other literal there
pub record IsLiteralIn (b literal : Body) : Type 0 where
  pub mark : Placed
  pub is_of_file : Contains b.file.marks mark
  pub opens_it : mark.mark ≡ opens literal.place
  pub stands_in_it : is_body b.place.at (outer mark.bodies) ≡ true
  pub same_file : literal.file ≡ b.file
  pub same_home : literal.home ≡ b.home

-- the event starts the literal at that offset, in a group or under `go`, or tries to
abbrev pub starts_it : ℕ → Event → Bool
starts_it at (go (go_literal literal)) = literal == at
starts_it at (start v (Some literal)) = literal == at
starts_it at (try v (Some literal)) = literal == at
starts_it at e = false

-- so does an event of the body, on a path or not
abbrev pub is_started_in : Body → ℕ → Bool
is_started_in b at =
    list_any (λ p. is_body b.place.at p.bodies && list_any (starts_it at) (mark_events b.file p.bodies p.mark))
    b.file.marks

-- The literal in the body goes to whoever gets its value: it is not called under `defer`, and neither a group nor, in
-- the second edition, a `go` statement starts it. (One that is started by something else is among these.)
pub record Escapes (b literal : Body) : Type 0 where
  pub is_literal : IsLiteralIn b literal
  pub is_not_deferred : is_deferred literal.place ≡ false
  pub is_not_started : is_started_in b literal.place.at ≡ false

-- The package that a path names in a file of the package at `home`; without a path it is that at `home` itself.
abbrev pub IsNamed : Program → ℕ → Option (List ℕ) → ℕ → Type 0
IsNamed p home None place = place ≡ home
IsNamed p home (Some path) place =
    (named : LoadedPackage) × (slice_get p.packages place ≡ Some named) × (named.path ≡ path)

-- the body is that of the function which a call in the caller's body names
pub record IsFunction (p : Program) (caller : Body) (f : Callee) (b : Body) : Type 0 where
  pub is_of : IsOf p b
  pub is_of_package : IsNamed p caller.home f.path b.home
  pub has_name : is_function f.name b.place ≡ true
