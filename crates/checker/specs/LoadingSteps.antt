-- What the program keeps of a row that it makes a state of, and one mask more.
use Rattle.std.specs.Prelude.{ℕ, ◌≡◌, ◌+◌, List}
use Rattle.meaning.specs.BodyEvents.{Variable}
use Rattle.meaning.specs.FunctionFacts.{VariableKind, cancel, group}
use Rattle.bodies.specs.States.{first_bit, mask_bits, Sets}
use Rattle.checker.specs.declared.loaded.Loading.{Loading}
use Rattle.checker.specs.Loaded.{place_of, AreLoaded}

-- how many masks of that kind there are
abbrev pub count_in : VariableKind → Loading → ℕ
count_in cancel s = s.cancels
count_in group s = s.groups

-- one more, if the kinds are the same
abbrev pub more_if : VariableKind → VariableKind → ℕ → ℕ
more_if cancel cancel n = n + 1
more_if cancel group n = n
more_if group cancel n = n
more_if group group n = n + 1

-- the mask of the next variable of that kind is added
pub record Adds (kind : VariableKind) (mask : ℕ) (a b : Loading) : Type 0 where
  pub cancels : b.cancels ≡ more_if cancel kind a.cancels
  pub groups : b.groups ≡ more_if group kind a.groups
  pub sets : Sets (first_bit kind (count_in kind a)) (mask_bits kind) mask a.state.words b.state.words

-- the masks of the first of these variables
pub record LoadedSoFar (vs : List Variable) (masks : List ℕ) (count : ℕ) (s : Loading) : Type 0 where
  pub cancels : s.cancels ≡ place_of cancel vs count
  pub groups : s.groups ≡ place_of group vs count
  pub are_loaded : AreLoaded vs masks count s.state.words
