-- What is proved of the definitions, each by a public function of src/lib.rt.
use Rattle.std.specs.Prelude.{◌≡◌, List, [], ◌∷◌, ◌++◌}
use Rattle.tree.specs.Syntax.{Block}
use Rattle.meaning.specs.Code.{Occurrence, Code}
use Rattle.meaning.specs.Lists.{Exit, stopped, falls, Lists}
use Rattle.meaning.specs.StatementCode.{Sites, block_code, entry, last_return, body_code}

-- each front of a list that a code may go through is one at which it may stop
abbrev pub EachFrontStops : Type 0 → Type 0
EachFrontStops E =
    (c : Code E) (t p q : List (Occurrence E)) (x : Exit) → Lists c t x → t ≡ p ++ q → Lists c p stopped

-- the statements of a body may go through the list and fall off its end
abbrev pub FallsOff : {E : Type 0} → Sites E → Block → List (Occurrence E) → Type 0
FallsOff sites b t = Lists (block_code sites b.statements) t falls

-- the list between the first event of a body and the return at its end
abbrev pub whole_list : {E : Type 0} → Sites E → Block → List (Occurrence E) → List (Occurrence E)
whole_list sites b t = entry sites b ∷ (t ++ last_return sites b ∷ [])

-- Falling off a body's end returns: the lists that come to the end of the body's code are those of its statements that
-- fall off, between its first event and the return at its last brace.
pub record FallingOffReturns (E : Type 0) : Type 0 where
  pub returns : (sites : Sites E) (b : Block) (t : List (Occurrence E))
      → FallsOff sites b t
      → Lists (body_code sites b) (whole_list sites b t) falls
  pub no_other : (sites : Sites E) (b : Block) (r : List (Occurrence E))
      → Lists (body_code sites b) r falls
      → (t : List (Occurrence E)) × FallsOff sites b t × (r ≡ whole_list sites b t)
