-- The sizes of the turns of loops. They are counted before the graph is made, so that what comes first in a turn is
-- known without going over it: where it is one event, that has as many occurrences behind it as the turn has others.
use Rattle.std.specs.Prelude.{ℕ, ◌≡◌, ◌≤◌, ◌+◌, Bool, true, false, if◌then◌else◌, List, [], ◌∷◌, ◌++◌, min}
use Rattle.meaning.specs.Code.{Code, skip, does, leave, then_code, either, repeats, up_to}
use Rattle.flow.specs.declared.exits.Exits.{Exits}
use Rattle.flow.specs.GraphOfCode.{size, firsts}
use Rattle.flow.specs.GraphViews.{Vec, most, total, exits_view, rest_of}

-- the first number; 0 where there is none
abbrev pub first_of : List ℕ → ℕ
first_of [] = 0
first_of (n ∷ ns) = n

module _ {E : Type 0} where
  -- the first part of the code is an event, so that nothing else comes first
  abbrev pub begins : Code E → Bool
  begins skip = false
  begins (does o) = true
  begins (leave w) = false
  begins (then_code a b) = begins a
  begins (either a b) = false
  begins (repeats a) = begins a
  begins (up_to w a) = begins a

  -- the last of these codes begins so
  abbrev pub last_begins : List (Code E) → Bool
  last_begins [] = false
  last_begins (c ∷ []) = begins c
  last_begins (c ∷ (d ∷ cs)) = last_begins (d ∷ cs)

  -- the size of a code, as far as a number can tell
  abbrev pub told_size : Code E → ℕ
  told_size c = min (size c) most

  -- The sizes of the turns that begin with an event, in the order in which the graph is made: from the end of the code,
  -- that of a turn before those of the turns in it.
  abbrev pub turn_sizes : Code E → List ℕ
  turn_sizes skip = []
  turn_sizes (does o) = []
  turn_sizes (leave w) = []
  turn_sizes (then_code a b) = turn_sizes b ++ turn_sizes a
  turn_sizes (either a b) = turn_sizes b ++ turn_sizes a
  turn_sizes (repeats a) = if begins a then told_size a ∷ turn_sizes a else turn_sizes a
  turn_sizes (up_to w a) = turn_sizes a

  -- those of codes of which each stands before the one before it in the list
  abbrev pub all_turn_sizes : List (Code E) → List ℕ
  all_turn_sizes [] = []
  all_turn_sizes (c ∷ cs) = turn_sizes c ++ all_turn_sizes cs

  -- what was counted of a code: its size, and the sizes of its turns, which are added
  pub record Counts (c : Code E) (before after : List ℕ) (counted : ℕ) : Type 0 where
    pub is_size : counted ≡ told_size c
    pub are_turns : after ≡ before ++ turn_sizes c

  -- the same of codes of which each stands before the one before it in the list
  pub record CountsAll (cs : List (Code E)) (before after : List ℕ) (counted : ℕ) : Type 0 where
    pub is_size : counted ≡ min (total cs) most
    pub are_turns : after ≡ before ++ all_turn_sizes cs

  -- These can come first in a turn, where `from` occurrences stand behind it, as far as numbers can tell and if the
  -- size that is taken is that of the turn; the ways out stay.
  pub record FirstsOfTurn
      (from : ℕ) (turn : Code E) (before after : Exits) (sizes sizes_after : List ℕ) (first : Vec ℕ)
      : Type 0 where
    pub are_first : (begins turn ≡ true → first_of sizes ≡ told_size turn)
        → from + size turn ≤ most
        → first.items ≡ firsts from turn [] (exits_view before.entries.items)
    pub are_left : sizes_after ≡ (if begins turn then rest_of sizes else sizes)
    pub stay : after.entries.items ≡ before.entries.items

-- where these sizes come first of those that are left, it is done, and those are taken
pub record Takes (taken before after : List ℕ) (Done : Type 0) : Type 0 where
  pub takes : (others : List ℕ) → before ≡ taken ++ others → Done × (after ≡ others)
