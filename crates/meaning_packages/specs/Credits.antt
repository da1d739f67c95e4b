-- Which literals may be relied on for the variables that they capture. A literal that a group starts, or that is
-- called under `defer`, is relied on for a cancel variable if each list that comes to one of its returns leaves the
-- variable safe, and one under `defer` for a group if none leaves the group live. So a literal of which no return is
-- reached is relied on for all that it captures, and one with too many variables, or with a `goto`, for nothing. A
-- literal relies on the literals in it, which begin after its `func`. Of functions nothing is asked: no literal passes
-- a variable that it captures. In the second edition a literal under `go` is relied on so too, but only if some return
-- of it is reached; and none is relied on for a variable that it binds, or a literal in it.
-- (The Go specification, "Defer statements", "Go statements"; the documentation of `golang.org/x/sync/errgroup`.)
use Rattle.std.specs.Prelude.{ℕ, ◌≡◌, ◌↔◌, ◌==◌, Bool, true, false, not, ◌&&◌, if◌then◌else◌, List, [], ◌∷◌, Option, Some, None, Contains, nat_lt}
use Rattle.std.specs.List.{list_any}
use Rattle.tree.specs.declared.edition.Edition.{Edition}
use Rattle.tree.specs.declared.edition.Edition.TheVariants.{First, Second}
use Rattle.meaning.specs.Code.{Occurrence}
use Rattle.meaning.specs.FunctionFacts.{VariableKind, cancel, group}
use Rattle.meaning.specs.Mentions.{BodyPlace, Role, exposed, left, Mark, mentions}
use Rattle.meaning.specs.Tracked.{live, idle, variable_of, is_variable}
use Rattle.meaning.specs.Uses.{Callee, Handed, Event, Seen, goes_off}
use Rattle.meaning.specs.BodyEvents.{Variable, captured, bodies_of, is_around, variables_of, unfollowed_faults}
use Rattle.meaning.specs.Classes.{Promises, CancelClass, unset, opened, kept, safe, pending, GroupClass, unmade, in_state, awaited}
use Rattle.meaning_packages.specs.PathFaults.{Paths, cancel_class, group_class, ComesToReturn, ComesBack, paths_of}

-- Bodies of a file

-- the first of these whose `func` has that offset
abbrev pub body_at : ℕ → List BodyPlace → Option BodyPlace
body_at at [] = None
body_at at (b ∷ bs) = if b.at == at then Some b else body_at at bs

-- Credits

-- for each literal, by the offset of its `func`, and each variable, by its number
abbrev pub Credits : Type 0
Credits = ℕ → ℕ → Bool

-- those of the literals that begin after the offset
abbrev pub begun_after : ℕ → Credits → Credits
begun_after at credits literal number = nat_lt at literal && credits literal number

-- what the body at an offset relies on
abbrev pub promises_in : (Callee → ℕ → Bool) → Credits → ℕ → Promises
promises_in calls credits at = record { calls = calls; credits = begun_after at credits }

-- no function is known to call anything
abbrev pub no_calls : Callee → ℕ → Bool
no_calls f k = false

abbrev pub is_safe : CancelClass → Bool
is_safe unset = false
is_safe opened = false
is_safe kept = false
is_safe safe = true
is_safe (pending g) = false

abbrev pub is_live : GroupClass → Bool
is_live unmade = false
is_live (in_state idle) = false
is_live (in_state live) = true
is_live awaited = false

-- the list leaves the cancel variable safe, or the group not live
abbrev pub is_settled : Paths → Variable → List (Occurrence Event) → VariableKind → Bool
is_settled b v t cancel = is_safe (cancel_class b v t)
is_settled b v t group = not (is_live (group_class b v t))

-- each list that comes to a return does so
pub record Settles (b : Paths) (v : Variable) : Type 0 where
  pub at_returns : (handed : List Handed) (t : List (Occurrence Event)) (o : Occurrence Event)
      → ComesToReturn b t o handed
      → is_settled b v t v.kind ≡ true

-- the name may get another value there
abbrev pub may_set : Role → Bool
may_set exposed = true
may_set (left k row) = true
may_set role = false

-- the literal at that offset, or one in it, binds the variable of that number
abbrev pub binds_there : Seen → ℕ → ℕ → List BodyPlace → Mark → Bool
binds_there seen literal number bodies (mentions m) =
    is_around literal bodies && (is_variable (variable_of seen.known m) number && may_set m.role)
binds_there seen literal number bodies mark = false

abbrev pub binds_captured : Edition → Seen → ℕ → ℕ → Bool
binds_captured First seen literal number = false
binds_captured Second seen literal number =
    list_any (λ p. binds_there seen literal number p.bodies p.mark) seen.marks

-- a goroutine that never returns settles nothing
abbrev pub MayComeBack : Edition → Bool → Paths → Type 0
MayComeBack Second true b = ComesBack b
MayComeBack e goes_off b = Unit {0}

-- the literal at that offset captures the variable of that number, and settles it under these credits
pub record IsCredited (seen : Seen) (credits : Credits) (literal number : ℕ) : Type 0 where
  pub body : BodyPlace
  pub variable : Variable
  pub is_there : body_at literal (bodies_of seen) ≡ Some body
  pub is_followed : unfollowed_faults seen body ≡ []
  pub is_of_body : Contains (variables_of seen literal) variable
  pub is_captured : variable.role ≡ captured
  pub is_it : variable.number ≡ number
  pub binds_none : binds_captured seen.known.edition seen literal number ≡ false
  pub comes_back : MayComeBack seen.known.edition (goes_off body.literal)
      (paths_of seen (promises_in no_calls credits literal) body)
  pub settles : Settles (paths_of seen (promises_in no_calls credits literal) body) variable

-- all credits of a file: there is one such table
pub record AreFullCredits (seen : Seen) (credits : Credits) : Type 0 where
  pub each : (literal number : ℕ) → (credits literal number ≡ true) ↔ IsCredited seen credits literal number

-- Credits that hold under themselves. They may leave out some of an inner literal's, and so have some of an outer one's
-- that the full credits have not.
pub record AreFairCredits (seen : Seen) (credits : Credits) : Type 0 where
  pub each : (literal number : ℕ) → credits literal number ≡ true → IsCredited seen credits literal number
