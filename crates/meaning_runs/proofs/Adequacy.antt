-- Each list of a code can be done by its moves.
use Rattle.std.proofs.Common.{◌≡◌, ◌≢◌, List, ◌++◌, None, refl, sym, ap, subst}
use Rattle.meaning.specs.Code.{Occurrence, Way, Code, skip, leave, then_code, repeats, up_to}
use Rattle.meaning.specs.Lists.{Exit, stopped, falls, leaves, Lists, not_begun, skipped, done, just_done, left, ends_in_first, goes_on, in_first, in_second, ends_in_turn, turns_again, arrives, passes}
use Rattle.meaning_runs.specs.Moves.{Moves, happens, first_moves, first_is_done, first_leaves, picks_first, picks_second, turns, inside, gets_there, goes_past, gets_out}
use Rattle.meaning_runs.specs.Doings.{Does, stays, silently, by_event, CanDo}

module _ {E : Type 0} where
  in_order : {c d e : Code E} {t u : List (Occurrence E)} → Does c t d → Does d u e → Does c (t ++ u) e
  in_order stays n = n
  in_order (silently m r) n = silently m (in_order r n)
  in_order (by_event m r) n = by_event m (in_order r n)

  in_front : {a d : Code E} {t : List (Occurrence E)} (b : Code E) → Does a t d → Does (then_code a b) t (then_code d b)
  in_front b stays = stays
  in_front b (silently m r) = silently (first_moves m) (in_front b r)
  in_front b (by_event m r) = by_event (first_moves m) (in_front b r)

  in_place : {a d : Code E} {t : List (Occurrence E)} (w : Way) → Does a t d → Does (up_to w a) t (up_to w d)
  in_place w stays = stays
  in_place w (silently m r) = silently (inside m) (in_place w r)
  in_place w (by_event m r) = by_event (inside m) (in_place w r)

  -- one move without an event at the end
  and_then : {c d e : Code E} {t : List (Occurrence E)} → Does c t d → Moves d None e → Does c t e
  and_then stays m = silently m stays
  and_then (silently n r) m = silently n (and_then r m)
  and_then (by_event n r) m = by_event n (and_then r m)

  ending : (a b : Code E) (t : List (Occurrence E)) (x : Exit) → CanDo a t x → x ≢ falls → CanDo (then_code a b) t x
  ending a b t stopped c n = record { rest = then_code c.rest b; does_it = in_front b c.does_it; is_left = tt }
  ending a b t falls c n = absurd (n refl)
  ending a b t (leaves w) c n =
      let whole = subst (λ d. Does a t d) c.is_left c.does_it in
      record { rest = leave w; does_it = and_then (in_front b whole) first_leaves; is_left = refl }

  going_on : (a b : Code E) (t u r : List (Occurrence E)) (x : Exit) → CanDo a t falls → CanDo b u x → r ≡ t ++ u → CanDo (then_code a b) r x
  going_on a b t u r x c k e =
      let whole = subst (λ d. Does a t d) c.is_left c.does_it in
      let both = in_order (and_then (in_front b whole) first_is_done) k.does_it in
      record { rest = k.rest; does_it = subst (λ l. Does (then_code a b) l k.rest) (sym e) both; is_left = k.is_left }

  again : (a : Code E) (t : List (Occurrence E)) (x : Exit) → CanDo (then_code a (repeats a)) t x → CanDo (repeats a) t x
  again a t x c = record { rest = c.rest; does_it = silently turns c.does_it; is_left = c.is_left }

  passing_by : (w : Way) (a : Code E) (t : List (Occurrence E)) (x : Exit) → CanDo a t x → x ≢ leaves w → CanDo (up_to w a) t x
  passing_by w a t stopped c n = record { rest = up_to w c.rest; does_it = in_place w c.does_it; is_left = tt }
  passing_by w a t falls c n =
      let whole = subst (λ d. Does a t d) c.is_left c.does_it in
      record { rest = skip; does_it = and_then (in_place w whole) gets_out; is_left = refl }
  passing_by w a t (leaves v) c n =
      let whole = subst (λ d. Does a t d) c.is_left c.does_it in
      record { rest = leave v; does_it = and_then (in_place w whole) (goes_past (λ e. n (ap leaves (sym e)))); is_left = refl }

  getting_there : (w : Way) (a : Code E) (t : List (Occurrence E)) → CanDo a t (leaves w) → CanDo (up_to w a) t falls
  getting_there w a t c =
      let whole = subst (λ d. Does a t d) c.is_left c.does_it in
      record { rest = skip; does_it = and_then (in_place w whole) gets_there; is_left = refl }

  pub list_is_done : (c : Code E) (t : List (Occurrence E)) (x : Exit) → Lists c t x → CanDo c t x
  list_is_done c t x not_begun = record { rest = c; does_it = stays; is_left = tt }
  list_is_done c t x skipped = record { rest = skip; does_it = stays; is_left = refl }
  list_is_done c t x done = record { rest = skip; does_it = by_event happens stays; is_left = refl }
  list_is_done c t x just_done = record { rest = skip; does_it = by_event happens stays; is_left = tt }
  list_is_done c t x (left {w}) = record { rest = leave w; does_it = stays; is_left = refl }
  list_is_done c t x (ends_in_first {a} {b} l n) = ending a b t x (list_is_done a t x l) n
  list_is_done c t x (goes_on {a} {b} {t = s} {u = u} l k e) =
      going_on a b s u t x (list_is_done a s falls l) (list_is_done b u x k) e
  list_is_done c t x (in_first {a} {b} l) =
      let k = list_is_done a t x l in
      record { rest = k.rest; does_it = silently picks_first k.does_it; is_left = k.is_left }
  list_is_done c t x (in_second {a} {b} l) =
      let k = list_is_done b t x l in
      record { rest = k.rest; does_it = silently picks_second k.does_it; is_left = k.is_left }
  list_is_done c t x (ends_in_turn {a} l n) = again a t x (ending a (repeats a) t x (list_is_done a t x l) n)
  list_is_done c t x (turns_again {a} {t = s} {u = u} l k e) =
      again a t x (going_on a (repeats a) s u t x (list_is_done a s falls l) (list_is_done (repeats a) u x k) e)
  list_is_done c t x (arrives {w} {a} l) = getting_there w a t (list_is_done a t (leaves w) l)
  list_is_done c t x (passes {w} {a} l n) = passing_by w a t x (list_is_done a t x l) n
