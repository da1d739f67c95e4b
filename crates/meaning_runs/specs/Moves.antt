-- Code goes on by one event, or by none, to what is left of it. A branch may go either way, and a loop turns as often
-- as it likes. (The Go specification, "Statements".)
use Rattle.std.specs.Prelude.{◌≢◌, Option, Some, None}
use Rattle.meaning.specs.Code.{Occurrence, Way, Code, skip, does, leave, then_code, either, repeats, up_to}

pub data Moves {E : Type 0} : Code E → Option (Occurrence E) → Code E → Type 0 where
  happens : {o : Occurrence E} → Moves (does o) (Some o) skip
  first_moves : {a b rest : Code E} {o : Option (Occurrence E)}
      → Moves a o rest
      → Moves (then_code a b) o (then_code rest b)
  first_is_done : {b : Code E} → Moves (then_code skip b) None b
  first_leaves : {w : Way} {b : Code E} → Moves (then_code (leave w) b) None (leave w)
  picks_first : {a b : Code E} → Moves (either a b) None a
  picks_second : {a b : Code E} → Moves (either a b) None b
  turns : {a : Code E} → Moves (repeats a) None (then_code a (repeats a))
  inside : {w : Way} {a rest : Code E} {o : Option (Occurrence E)} → Moves a o rest → Moves (up_to w a) o (up_to w rest)
  gets_there : {w : Way} → Moves (up_to w (leave w)) None skip
  goes_past : {w v : Way} → w ≢ v → Moves (up_to w (leave v)) None (leave v)
  gets_out : {w : Way} → Moves (up_to w skip) None skip
