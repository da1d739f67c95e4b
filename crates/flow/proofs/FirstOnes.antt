-- Which occurrence can come first in a code, what is left of the code then, and the lists of events by that.
use Rattle.std.proofs.Common.{◌≡◌, ◌≢◌, ◌⊎◌, inl, inr, List, [], ◌∷◌, ◌++◌, refl, sym, ap, ◌∙◌, subst}
use Rattle.meaning.specs.Code.{Occurrence, Way, Code, skip, does, then_code, either, repeats, up_to}
use Rattle.meaning.specs.Lists.{Exit, stopped, falls, leaves, Lists, not_begun, skipped, done, just_done, left, ends_in_first, goes_on, in_first, in_second, ends_in_turn, turns_again, arrives, passes}
use Rattle.meaning.proofs.Fronts.{stopped≢falls, stopped≢leaves}

-- the occurrence can come first, and then this code is left
pub data Begins {E : Type 0} : Code E → Occurrence E → Code E → Type 0 where
  at_once : {o : Occurrence E} → Begins (does o) o skip
  with_first : {a b r : Code E} {o : Occurrence E} → Begins a o r → Begins (then_code a b) o (then_code r b)
  past_first : {a b r : Code E} {o : Occurrence E} → Lists a [] falls → Begins b o r → Begins (then_code a b) o r
  by_one : {a b r : Code E} {o : Occurrence E} → Begins a o r → Begins (either a b) o r
  by_other : {a b r : Code E} {o : Occurrence E} → Begins b o r → Begins (either a b) o r
  by_turn : {a r : Code E} {o : Occurrence E} → Begins a o r → Begins (repeats a) o (then_code r (repeats a))
  within : {w : Way} {a r : Code E} {o : Occurrence E} → Begins a o r → Begins (up_to w a) o (up_to w r)

-- after the occurrence, wherever it stands in the code, this code is left
pub data Rests {E : Type 0} : Code E → Occurrence E → Code E → Type 0 where
  at_end : {o : Occurrence E} → Rests (does o) o skip
  in_front : {a b r : Code E} {o : Occurrence E} → Rests a o r → Rests (then_code a b) o (then_code r b)
  behind : {a b r : Code E} {o : Occurrence E} → Rests b o r → Rests (then_code a b) o r
  of_one : {a b r : Code E} {o : Occurrence E} → Rests a o r → Rests (either a b) o r
  of_other : {a b r : Code E} {o : Occurrence E} → Rests b o r → Rests (either a b) o r
  in_turn : {a r : Code E} {o : Occurrence E} → Rests a o r → Rests (repeats a) o (then_code r (repeats a))
  inside : {w : Way} {a r : Code E} {o : Occurrence E} → Rests a o r → Rests (up_to w a) o (up_to w r)

pub rests_of_begins : {E : Type 0} {c r : Code E} {o : Occurrence E} → Begins c o r → Rests c o r
rests_of_begins at_once = at_end
rests_of_begins (with_first b) = in_front (rests_of_begins b)
rests_of_begins (past_first l b) = behind (rests_of_begins b)
rests_of_begins (by_one b) = of_one (rests_of_begins b)
rests_of_begins (by_other b) = of_other (rests_of_begins b)
rests_of_begins (by_turn b) = in_turn (rests_of_begins b)
rests_of_begins (within b) = inside (rests_of_begins b)

-- what rests of what rests
pub rests_on : {E : Type 0} {c r s : Code E} {o u : Occurrence E} → Rests c o r → Rests r u s → Rests c u s
rests_on at_end k = elim k [ ]
rests_on (in_front h) (in_front k) = in_front (rests_on h k)
rests_on (in_front h) (behind k) = behind k
rests_on (behind h) k = behind (rests_on h k)
rests_on (of_one h) k = of_one (rests_on h k)
rests_on (of_other h) k = of_other (rests_on h k)
rests_on (in_turn h) (in_front k) = in_turn (rests_on h k)
rests_on (in_turn h) (behind k) = k
rests_on (inside h) (inside k) = inside (rests_on h k)

-- The lists that begin with an occurrence

pub record BeginsSo {E : Type 0} (c : Code E) (o : Occurrence E) (t : List (Occurrence E)) (x : Exit) : Type 0 where
  pub rest : Code E
  pub begins : Begins c o rest
  pub goes : Lists rest t x

nothing_before : {A : Type 0} (o : A) (t : List A) → [] ≡ o ∷ t → ⊥
nothing_before o t e = cc

-- the first of two lists is empty, or begins so
joined : {A : Type 0} (p q : List A) (o : A) (t : List A) → p ++ q ≡ o ∷ t → ((p ≡ []) × (q ≡ o ∷ t)) ⊎ ((r : List A) × (p ≡ o ∷ r) × (r ++ q ≡ t))
joined [] q o t e = inl (refl, e)
joined (a ∷ p) q o t e =
    let same : a ≡ o = cc in
    let rest : p ++ q ≡ t = cc in
    inr (p, ap (λ z. z ∷ p) same, rest)

pub leaves≢falls : (w : Way) → leaves w ≢ falls
leaves≢falls w e = cc

pub begins_of_list : {E : Type 0} {c : Code E} {l : List (Occurrence E)} {x : Exit} → Lists c l x → (o : Occurrence E) (t : List (Occurrence E)) → l ≡ o ∷ t → BeginsSo c o t x
begins_of_list not_begun o t e = absurd (nothing_before o t e)
begins_of_list skipped o t e = absurd (nothing_before o t e)
begins_of_list (done {o = u}) o t e =
    let same : u ≡ o = cc in
    let none : [] ≡ t = cc in
    record {
      rest = skip;
      begins = subst (λ z. Begins (does u) z skip) same at_once;
      goes = subst (λ z. Lists skip z falls) none skipped;
    }
begins_of_list (just_done {o = u}) o t e =
    let same : u ≡ o = cc in
    let none : [] ≡ t = cc in
    record {
      rest = skip;
      begins = subst (λ z. Begins (does u) z skip) same at_once;
      goes = subst (λ z. Lists skip z stopped) none not_begun;
    }
begins_of_list left o t e = absurd (nothing_before o t e)
begins_of_list (ends_in_first {a} {b} l n) o t e =
    let w = begins_of_list l o t e in
    record { rest = then_code w.rest b; begins = with_first w.begins; goes = ends_in_first w.goes n }
begins_of_list (goes_on {a} {b} {t = p} {u = q} l m f) o t e =
    elim (joined p q o t (sym f ∙ e)) [
      | inl h ↦ let w = begins_of_list m o t h.1 in record { rest = w.rest; begins = past_first (subst (λ z. Lists a z falls) h.0 l) w.begins; goes = w.goes }
      | inr h ↦ let w = begins_of_list l o h.0 h.1 in record { rest = then_code w.rest b; begins = with_first w.begins; goes = goes_on w.goes m (sym h.2) }
    ]
begins_of_list (in_first l) o t e =
    let w = begins_of_list l o t e in
    record { rest = w.rest; begins = by_one w.begins; goes = w.goes }
begins_of_list (in_second l) o t e =
    let w = begins_of_list l o t e in
    record { rest = w.rest; begins = by_other w.begins; goes = w.goes }
begins_of_list (ends_in_turn {a} l n) o t e =
    let w = begins_of_list l o t e in
    record { rest = then_code w.rest (repeats a); begins = by_turn w.begins; goes = ends_in_first w.goes n }
begins_of_list (turns_again {a} {t = p} {u = q} l m f) o t e =
    elim (joined p q o t (sym f ∙ e)) [
      | inl h ↦ begins_of_list m o t h.1
      | inr h ↦ let w = begins_of_list l o h.0 h.1 in record { rest = then_code w.rest (repeats a); begins = by_turn w.begins; goes = goes_on w.goes m (sym h.2) }
    ]
begins_of_list (arrives {w = v} l) o t e =
    let w = begins_of_list l o t e in
    record { rest = up_to v w.rest; begins = within w.begins; goes = arrives w.goes }
begins_of_list (passes {w = v} l n) o t e =
    let w = begins_of_list l o t e in
    record { rest = up_to v w.rest; begins = within w.begins; goes = passes w.goes n }

pub list_of_begins : {E : Type 0} {c r : Code E} {o : Occurrence E} {t : List (Occurrence E)} {x : Exit} → Begins c o r → Lists r t x → Lists c (o ∷ t) x
list_of_begins at_once not_begun = just_done
list_of_begins at_once skipped = done
list_of_begins (with_first b) not_begun = ends_in_first (list_of_begins b not_begun) stopped≢falls
list_of_begins (with_first b) (ends_in_first l n) = ends_in_first (list_of_begins b l) n
list_of_begins {o = o} (with_first b) (goes_on l m e) = goes_on (list_of_begins b l) m (ap (λ z. o ∷ z) e)
list_of_begins (past_first s b) l = goes_on s (list_of_begins b l) refl
list_of_begins (by_one b) l = in_first (list_of_begins b l)
list_of_begins (by_other b) l = in_second (list_of_begins b l)
list_of_begins (by_turn b) not_begun = ends_in_turn (list_of_begins b not_begun) stopped≢falls
list_of_begins (by_turn b) (ends_in_first l n) = ends_in_turn (list_of_begins b l) n
list_of_begins {o = o} (by_turn b) (goes_on l m e) = turns_again (list_of_begins b l) m (ap (λ z. o ∷ z) e)
list_of_begins (within {w} b) not_begun = passes (list_of_begins b not_begun) (stopped≢leaves w)
list_of_begins (within b) (arrives l) = arrives (list_of_begins b l)
list_of_begins (within b) (passes l n) = passes (list_of_begins b l) n
