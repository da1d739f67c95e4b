-- What printing a text leaves on a writer, and when a write was refused.
use Rattle.std.specs.Prelude.{◌≡◌, ℕ, Bool, true, false, ◌||◌, List, ◌++◌, Option, Result, Ok, Err}
use Rattle.std.specs.Io.KnownBytes.{Appends}
use Rattle.folders.specs.declared.fault.Fault.{Fault}
use Rattle.folders.specs.declared.fault.Fault.TheVariants.{CannotWrite}

-- a beginning of the text was written, and nothing else
pub record AppendsFront (old new : Option (List ℕ)) (text : List ℕ) : Type 0 where
  pub front : List ℕ
  pub rest : List ℕ
  pub is_front : text ≡ front ++ rest
  pub written : Appends old new front

-- whether a write was refused, after a write with this result
abbrev pub refused_after : {T E : Type 0} → Bool → Result T E → Bool
refused_after before (Ok done) = before
refused_after before (Err why) = true

abbrev pub is_of_writing : Fault → Bool
is_of_writing CannotWrite = true
is_of_writing _ = false

-- whether a write was refused, after a call that may end with a fault: one was, just where its fault is that of writing
abbrev pub refused_by : {T : Type 0} → Bool → Result T Fault → Bool
refused_by before (Ok done) = before
refused_by before (Err fault) = before || is_of_writing fault
