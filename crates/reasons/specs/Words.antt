-- What happens on the way to a fault, and how it is told.
use Rattle.std.specs.Prelude.{ℕ, List, codes}

pub data Word : Type 0 where
  -- the variable is bound
  obtained : Word
  made : Word
  -- work of a group begins
  started : Word
  -- the block of an `if` is entered, or not
  holds : Word
  does_not_hold : Word
  -- a turn of a loop begins, or none
  goes_on : Word
  ends : Word
  -- a clause of a `switch` or `select` is entered, or none
  entered : Word
  none_entered : Word

abbrev pub word_text : Word → List ℕ
word_text obtained = codes "cancel is obtained"
word_text made = codes "group is made"
word_text started = codes "work is started"
word_text holds = codes "the condition holds"
word_text does_not_hold = codes "the condition does not hold"
word_text goes_on = codes "the loop goes on"
word_text ends = codes "the loop ends"
word_text entered = codes "this clause is entered"
word_text none_entered = codes "no clause is entered"
