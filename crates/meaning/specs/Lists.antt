-- The lists of events that a code may go through, and how it is left after them. A list with the exit
-- `stopped` is a beginning: nothing follows yet. A loop repeats freely and every branch is possible. A list
-- reaches an occurrence that can come next after it. (The Go specification, "Statements".)
use Rattle.std.specs.Prelude.{◌≡◌, ◌≢◌, List, [], ◌∷◌, ◌++◌}
use Rattle.meaning.specs.Code.{Occurrence, Way, Code, skip, does, leave, then_code, either, repeats, up_to}

pub data Exit : Type 0 where
  stopped : Exit
  falls : Exit
  leaves : Way → Exit

pub data Lists {E : Type 0} : Code E → List (Occurrence E) → Exit → Type 0 where
  not_begun : {c : Code E} → Lists c [] stopped
  skipped : Lists skip [] falls
  done : {o : Occurrence E} → Lists (does o) (o ∷ []) falls
  just_done : {o : Occurrence E} → Lists (does o) (o ∷ []) stopped
  left : {w : Way} → Lists (leave w) [] (leaves w)
  ends_in_first : {a b : Code E} {t : List (Occurrence E)} {x : Exit}
      → Lists a t x
      → x ≢ falls
      → Lists (then_code a b) t x
  goes_on : {a b : Code E} {t u r : List (Occurrence E)} {x : Exit}
      → Lists a t falls
      → Lists b u x
      → r ≡ t ++ u
      → Lists (then_code a b) r x
  in_first : {a b : Code E} {t : List (Occurrence E)} {x : Exit} → Lists a t x → Lists (either a b) t x
  in_second : {a b : Code E} {t : List (Occurrence E)} {x : Exit} → Lists b t x → Lists (either a b) t x
  ends_in_turn : {a : Code E} {t : List (Occurrence E)} {x : Exit} → Lists a t x → x ≢ falls → Lists (repeats a) t x
  turns_again : {a : Code E} {t u r : List (Occurrence E)} {x : Exit}
      → Lists a t falls
      → Lists (repeats a) u x
      → r ≡ t ++ u
      → Lists (repeats a) r x
  arrives : {w : Way} {a : Code E} {t : List (Occurrence E)} → Lists a t (leaves w) → Lists (up_to w a) t falls
  passes : {w : Way} {a : Code E} {t : List (Occurrence E)} {x : Exit}
      → Lists a t x
      → x ≢ leaves w
      → Lists (up_to w a) t x

-- after the list, the occurrence can come next
abbrev pub Reaches : {E : Type 0} → Code E → List (Occurrence E) → Occurrence E → Type 0
Reaches c t o = Lists c (t ++ o ∷ []) stopped
