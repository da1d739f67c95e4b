-- What code does by small moves is one of its lists.
use Rattle.std.proofs.Common.{◌≡◌, ◌≢◌, List, [], ◌∷◌, ◌++◌, Option, Some, None, refl, sym, ap, ◌∙◌}
use Rattle.meaning.specs.Code.{Occurrence, Way, Code}
use Rattle.meaning.specs.Lists.{Exit, stopped, falls, leaves, Lists, not_begun, skipped, done, just_done, left, ends_in_first, goes_on, in_first, in_second, ends_in_turn, turns_again, arrives, passes}
use Rattle.meaning.proofs.Fronts.{stopped≢falls, stopped≢leaves}
use Rattle.meaning_runs.specs.Moves.{Moves, happens, first_moves, first_is_done, first_leaves, picks_first, picks_second, turns, inside, gets_there, goes_past, gets_out}
use Rattle.meaning_runs.specs.Doings.{Does, stays, silently, by_event, MovesAreLists}
use Rattle.meaning_runs.proofs.Adequacy.{list_is_done}

leaves≢falls : (w : Way) → leaves w ≢ falls
leaves≢falls w e = cc

falls≢leaves : (w : Way) → falls ≢ leaves w
falls≢leaves w e = cc

leaves-inj : (w v : Way) → leaves w ≡ leaves v → w ≡ v
leaves-inj w v e = cc

module _ {E : Type 0} where
  -- a list with the event of a move before it
  abbrev pub with_move : Option (Occurrence E) → List (Occurrence E) → List (Occurrence E)
  with_move None u = u
  with_move (Some o) u = o ∷ u

  with_move-append : (o : Option (Occurrence E)) (t u : List (Occurrence E)) → with_move o (t ++ u) ≡ with_move o t ++ u
  with_move-append None t u = refl
  with_move-append (Some o) t u = refl

  pub simulates : (c d : Code E) (o : Option (Occurrence E)) (u : List (Occurrence E)) (x : Exit) → Moves c o d → Lists d u x → Lists c (with_move o u) x
  simulates c d o u x happens (not_begun) = just_done
  simulates c d o u x happens (skipped) = done
  simulates c d o u x (first_moves {a} {b} {rest} m) (not_begun) = ends_in_first (simulates a rest o [] stopped m not_begun) stopped≢falls
  simulates c d o u x (first_moves {a} {b} {rest} m) (ends_in_first l n) = ends_in_first (simulates a rest o u x m l) n
  simulates c d o u x (first_moves {a} {b} {rest} m) (goes_on {t = t} {u = v} l k e) = goes_on (simulates a rest o t falls m l) k (ap (with_move o) e ∙ with_move-append o t v)
  simulates c d o u x (first_is_done) l = goes_on skipped l refl
  simulates c d o u x (first_leaves {w}) (not_begun) = not_begun
  simulates c d o u x (first_leaves {w}) (left) = ends_in_first left (leaves≢falls w)
  simulates c d o u x (picks_first) l = in_first l
  simulates c d o u x (picks_second) l = in_second l
  simulates c d o u x (turns {a}) (not_begun) = not_begun
  simulates c d o u x (turns {a}) (ends_in_first l n) = ends_in_turn l n
  simulates c d o u x (turns {a}) (goes_on l k e) = turns_again l k e
  simulates c d o u x (inside {w} {a} {rest} m) (not_begun) = passes (simulates a rest o [] stopped m not_begun) (stopped≢leaves w)
  simulates c d o u x (inside {w} {a} {rest} m) (arrives l) = arrives (simulates a rest o u (leaves w) m l)
  simulates c d o u x (inside {w} {a} {rest} m) (passes l n) = passes (simulates a rest o u x m l) n
  simulates c d o u x (gets_there {w}) (not_begun) = not_begun
  simulates c d o u x (gets_there {w}) (skipped) = arrives left
  simulates c d o u x (goes_past {w} {v} n) (not_begun) = not_begun
  simulates c d o u x (goes_past {w} {v} n) (left) = passes left (λ e. n (sym (leaves-inj v w e)))
  simulates c d o u x (gets_out {w}) (not_begun) = not_begun
  simulates c d o u x (gets_out {w}) (skipped) = passes skipped (falls≢leaves w)

  pub does_list : (c d : Code E) (t u : List (Occurrence E)) (x : Exit) → Does c t d → Lists d u x → Lists c (t ++ u) x
  does_list c d t u x stays l = l
  does_list c d t u x (silently {d = e} m r) l = simulates c e None (t ++ u) x m (does_list e d t u x r l)
  does_list c d t u x (by_event {d = e} {o = o} {t = s} m r) l =
      simulates c e (Some o) (s ++ u) x m (does_list e d s u x r l)

pub moves_are_lists : (E : Type 0) → MovesAreLists E
moves_are_lists E = record { each_is_done = list_is_done; no_other = does_list }
