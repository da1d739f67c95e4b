-- What a code can do by its moves, one after another: these events, and then this code is left.
use Rattle.std.specs.Prelude.{◌≡◌, List, [], ◌∷◌, ◌++◌, Some, None}
use Rattle.meaning.specs.Code.{Occurrence, Code, skip, leave}
use Rattle.meaning.specs.Lists.{Exit, stopped, falls, leaves, Lists}
use Rattle.meaning_runs.specs.Moves.{Moves}

pub data Does {E : Type 0} : Code E → List (Occurrence E) → Code E → Type 0 where
  stays : {c : Code E} → Does c [] c
  silently : {c d e : Code E} {t : List (Occurrence E)} → Moves c None d → Does d t e → Does c t e
  by_event : {c d e : Code E} {o : Occurrence E} {t : List (Occurrence E)}
      → Moves c (Some o) d
      → Does d t e
      → Does c (o ∷ t) e

-- what is left where a list ends so
abbrev pub IsLeft : {E : Type 0} → Exit → Code E → Type 0
IsLeft stopped d = Unit {0}
IsLeft falls d = d ≡ skip
IsLeft (leaves w) d = d ≡ leave w

-- the code can do the list, and then what is left fits the exit
pub record CanDo {E : Type 0} (c : Code E) (t : List (Occurrence E)) (x : Exit) : Type 0 where
  pub rest : Code E
  pub does_it : Does c t rest
  pub is_left : IsLeft x rest

-- The moves of a code leave none of its lists out, and do no other.
pub record MovesAreLists (E : Type 0) : Type 0 where
  -- each list that the code may go through is done by its moves
  pub each_is_done : (c : Code E) (t : List (Occurrence E)) (x : Exit) → Lists c t x → CanDo c t x
  -- what its moves do, and then a list of what is left, is a list of the code
  pub no_other : (c d : Code E) (t u : List (Occurrence E)) (x : Exit) → Does c t d → Lists d u x → Lists c (t ++ u) x
