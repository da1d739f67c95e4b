-- What a function's body does, as a small code that says in which order its events can come. It is no
-- graph of nodes and edges: each form of statement is translated to it by one clause. What the events are,
-- the translation says; here any type of them will do. (The Go specification, "Statements", "Break
-- statements", "Continue statements", "Return statements".)
use Rattle.std.specs.Prelude.{ℕ, List, Option}

-- an event, the offset of its statement, keyword or brace, and its index among the events there
pub record Occurrence (E : Type 0) : Type 0 where
  pub at : ℕ
  pub order : ℕ
  pub event : E

-- The ways out of a statement other than its end. A `break` and a `continue` may name a label, by its text. A
-- `fallthrough` is told by its offset.
pub data Way : Type 0 where
  returning : Way
  breaking : Option (List ℕ) → Way
  continuing : Option (List ℕ) → Way
  falling : ℕ → Way

-- skip, one event, leave, one after the other, one of two, a loop, and the end of a way out
pub data Code (E : Type 0) : Type 0 where
  skip : Code E
  does : Occurrence E → Code E
  leave : Way → Code E
  then_code : Code E → Code E → Code E
  either : Code E → Code E → Code E
  repeats : Code E → Code E
  up_to : Way → Code E → Code E
