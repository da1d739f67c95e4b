-- Which code a value in memory stands for.
use Rattle.std.specs.Prelude.{ℕ, ◌+◌, Bool, if◌then◌else◌, List, [], ◌∷◌, map, Option, Some, None, option_map, Result, IfOk, ◌≡◌}
use Rattle.std.specs.Borrow.{Bor}
use Rattle.code.specs.declared.code.Way.{Way as KeptWay}
use Rattle.code.specs.declared.code.Way.TheVariants.{Returning, Breaking, Continuing, Falling}
use Rattle.code.specs.declared.code.Occurrence.{Occurrence as KeptOccurrence}
use Rattle.code.specs.declared.code.Code.{Code as KeptCode, Skip, Does, Alone, Leave, Then', Sequence', Choice', Repeats', UpTo', UpToFalls', Row_of-Code, end_of-Code, more_of-Code}
use Rattle.code.specs.declared.parts.Jump.{Jump}
use Rattle.code.specs.declared.parts.Jump.TheVariants.{Break, Continue}
use Rattle.meaning.specs.Code.{Occurrence, Way, returning, breaking, continuing, falling, Code, skip, does, leave, then_code, either, repeats, up_to}
use Rattle.meaning.specs.StatementCode.{stuck, up_to_labels, up_to_falls}
use Rattle.tree.specs.Syntax.{Statements, Block}
use Rattle.tree.specs.declared.span.Span.{Span}

-- the statements between these braces
abbrev pub block_of : Statements → Span → Block
block_of statements braces = record { statements = statements; braces = braces }

abbrev pub text_now : Bor (List ℕ) → List ℕ
text_now t = t.now

abbrev pub way_view : KeptWay → Way
way_view Returning = returning
way_view (Breaking label) = breaking (option_map text_now label)
way_view (Continuing label) = continuing (option_map text_now label)
way_view (Falling at) = falling at

-- the way out to the label
abbrev pub way_to : Jump → Option (List ℕ) → Way
way_to Break label = breaking label
way_to Continue label = continuing label

module _ {E : Type 0} where
  abbrev pub occurrence_view : KeptOccurrence E → Occurrence E
  occurrence_view o = record { at = o.at; order = o.order; event = o.event }

  -- what follows a loop's header: a turn, or the end where the header may end the loop
  abbrev pub turn_or_end : Bool → Code E → Code E
  turn_or_end may_end turn = if may_end then either (leave (breaking None)) turn else turn

  -- what leaves that way, to these labels or to none, arrives at the end of the code
  abbrev pub ends_at : Jump → List (List ℕ) → Code E → Code E
  ends_at exit labels code = up_to (way_to exit None) (up_to_labels (way_to exit) labels code)

  -- each after the one before it
  abbrev pub sequence : List (Code E) → Code E
  sequence [] = skip
  sequence (c ∷ cs) = then_code c (sequence cs)

  -- one of these
  abbrev pub choice : List (Code E) → Code E
  choice [] = stuck
  choice (c ∷ []) = c
  choice (c ∷ (d ∷ cs)) = either c (choice (d ∷ cs))

  -- these, of which each stands before the one before it in the list, and then the rest
  abbrev pub backward : List (Code E) → Code E → Code E
  backward [] rest = rest
  backward (c ∷ cs) rest = backward cs (then_code c rest)

  abbrev pub or_another : Code E → Option (Code E) → Code E
  or_another c None = c
  or_another c (Some others) = either c others

  -- one of these, of which each stands before the one before it in the list, or of the others
  abbrev pub one_of : List (Code E) → Option (Code E) → Code E
  one_of [] None = stuck
  one_of [] (Some others) = others
  one_of (c ∷ cs) others = one_of cs (Some (or_another c others))

  -- the codes of events at one offset, numbered on from `order`
  abbrev pub event_codes : ℕ → ℕ → List E → List (Code E)
  event_codes at order [] = []
  event_codes at order (e ∷ es) = does record { at = at; order = order; event = e } ∷ event_codes at (order + 1) es

  unfoldable mutual
    pub code_view : KeptCode E → Code E
    code_view Skip = skip
    code_view (Does o) = does (occurrence_view o)
    code_view (Alone o) = then_code (does (occurrence_view o)) skip
    code_view (Leave way) = leave (way_view way)
    code_view (Then' p c q d) = then_code (code_view c) (code_view d)
    code_view (Sequence' shape cs) = backward (row_codes cs) skip
    code_view (Choice' shape cs) = one_of (row_codes cs) None
    code_view (Repeats' p c) = repeats (code_view c)
    code_view (UpTo' way p c) = up_to (way_view way) (code_view c)
    code_view (UpToFalls' falls p c) = up_to_falls falls.items (code_view c)

    pub row_codes : {m : _} → Row_of-Code E m → List (Code E)
    row_codes end_of-Code = []
    row_codes (more_of-Code c cs) = code_view c ∷ row_codes cs

  abbrev pub codes_view : List (KeptCode E) → List (Code E)
  codes_view cs = map code_view cs

  module _ {F : Type 0} where
    -- the value is one of that code, if there is one
    abbrev pub IsCode : Result (KeptCode E) F → Code E → Type 0
    IsCode made code = IfOk made (λ c. code_view c ≡ code)

    -- What is made of codes that were made: there is none if one of them failed.

    abbrev pub Changes : (Code E → Code E) → Result (KeptCode E) F → Result (KeptCode E) F → Type 0
    Changes f made result = (a : Code E) → IsCode made a → IsCode result (f a)

    abbrev pub Joins : (Code E → Code E → Code E) → Result (KeptCode E) F → Result (KeptCode E) F
        → Result (KeptCode E) F → Type 0
    Joins f first second result = (a b : Code E) → IsCode first a → IsCode second b → IsCode result (f a b)

    abbrev pub JoinsFour : (Code E → Code E → Code E → Code E → Code E) → Result (KeptCode E) F
        → Result (KeptCode E) F → Result (KeptCode E) F → Result (KeptCode E) F → Result (KeptCode E) F → Type 0
    JoinsFour f first second third fourth result =
        (a b c d : Code E) → IsCode first a → IsCode second b → IsCode third c → IsCode fourth d
        → IsCode result (f a b c d)
