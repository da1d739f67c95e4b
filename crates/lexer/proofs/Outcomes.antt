-- A text that has tokens has no fault, and a text has at most one fault.
use Rattle.std.proofs.Common.{◌≡◌, ◌==◌, ℕ, ◌+◌, ◌<◌, Bool, true, false, ◌||◌, List, [], ◌∷◌, length, get_or, drop, refl, sym, ap, ◌∙◌, subst, arith, ⊎_elim}
use Rattle.std.specs.Prelude.{sum_by, IsTrue, IsFalse}
use Rattle.std.proofs.lemmas.Bool.{cases_lt, and_parts, eqb-true, cond-true, cond-false}
use Rattle.std.proofs.lemmas.List.{take_all}
use Rattle.std.proofs.lemmas.Str.{utf8_valid_len-IsValidUpTo}
use Rattle.std.specs.Str.{IsUtf8, IsValidUpTo}
use Rattle.lexer.specs.declared.token.Token.{Token}
use Rattle.lexer.specs.declared.pieces.Piece.{Piece}
use Rattle.lexer.specs.declared.fault.LexFault.{LexFault}
use Rattle.lexer.specs.declared.fault.LexFault.TheVariants.{NotUtf8, Nul, UnclosedString, UnclosedComment, UnclosedRune, UnknownCharacter, TooLong, OutOfMemory}
use Rattle.lexer.specs.Cut.{CanBegin, Cut, opens_comment}
use Rattle.lexer.specs.Tokens.{mark_size, IsTokens}
use Rattle.lexer.specs.Faults.{StopsAt, IsFault, stop_of, begins_string, begins_rune}
use Rattle.lexer.proofs.Cuts.{cut_split, one_longest}

stopped : (rest : List ℕ) (rs : List Piece) → (rest ≡ [] → ⊥) → ((p : Piece) → CanBegin p rest → ⊥) → Cut rest rs [] → ⊥
unfolding Cut
stopped rest [] more nothing c = more c
stopped rest (p ∷ ps) more nothing c = nothing p c.0.begins

no_stop : (text : List ℕ) (ts : List Token) (at : ℕ) (rest : List ℕ) → IsTokens text ts → StopsAt text at rest → ⊥
no_stop text ts at rest t s =
    let r = cut_split (drop (mark_size text) text) s.pieces rest t.pieces s.cut t.cut in
    stopped rest r.0 s.more s.nothing r.2

broken : (text : List ℕ) (at : ℕ) → IsUtf8 text → IsValidUpTo text at → ⊥
broken text at utf8 v =
    let short = v.short in
    v.longest (length text) short (subst IsUtf8 (sym (take_all (length text) text (omega arith))) utf8)

pub one_outcome : (text : List ℕ) (ts : List Token) (f : LexFault) → IsTokens text ts → IsFault text f → ⊥
one_outcome text ts TooLong t f = let small = t.small in absurd (omega arith)
one_outcome text ts (NotUtf8 at) t f = broken text at t.utf8 f.2
one_outcome text ts (Nul at) t f = t.no_nul at f.2 f.3
one_outcome text ts (UnclosedString at) t f = no_stop text ts at f.0 t f.1
one_outcome text ts (UnclosedComment at) t f = no_stop text ts at f.0 t f.1
one_outcome text ts (UnclosedRune at) t f = no_stop text ts at f.0 t f.1
one_outcome text ts (UnknownCharacter at) t f = no_stop text ts at f.0 t f.1
one_outcome text ts OutOfMemory t f = f

-- two cuts that both stop where nothing can begin stop at one place
same_stop : (text : List ℕ) (ps : List Piece) (rest : List ℕ) (qs : List Piece) (others : List ℕ) → Cut text ps rest → Cut text qs others → ((p : Piece) → CanBegin p rest → ⊥) → ((p : Piece) → CanBegin p others → ⊥) → (ps ≡ qs) × (rest ≡ others)
unfolding Cut
same_stop text [] rest [] others c d n m = (refl, sym c ∙ d)
same_stop text [] rest (q ∷ qs) others c d n m = absurd (n q (subst (CanBegin q) c d.0.begins))
same_stop text (p ∷ ps) rest [] others c d n m = absurd (m p (subst (CanBegin p) d c.0.begins))
same_stop text (p ∷ ps) rest (q ∷ qs) others c d n m =
    let e : p ≡ q = one_longest p q text c.0 d.0 in
    let r = same_stop (drop p.size text) ps rest qs others c.1 (subst (λ x. Cut (drop x.size text) qs others) (sym e) d.1) n m in
    (λ i. e i ∷ r.0 i, r.1)

string_stop : (rest : List ℕ) (at : ℕ) → IsTrue (begins_string rest) → stop_of rest at ≡ UnclosedString at
string_stop rest at h = cond-true _ _ _ h

no_string : (b : ℕ) → (b == 39) ≡ true → (b == 34 || b == 96) ≡ false
no_string b h = subst (λ n. (n == 34 || n == 96) ≡ false) (sym (eqb-true b 39 h)) refl

rune_stop : (rest : List ℕ) (at : ℕ) → IsTrue (begins_rune rest) → stop_of rest at ≡ UnclosedRune at
rune_stop rest at h = cond-false _ _ _ (no_string (get_or rest 0 0) h) ∙ cond-true _ _ _ h

no_quote : (b : ℕ) → (b == 47) ≡ true → ((b == 34 || b == 96) ≡ false) × ((b == 39) ≡ false)
no_quote b h = subst (λ n. ((n == 34 || n == 96) ≡ false) × ((n == 39) ≡ false)) (sym (eqb-true b 47 h)) (refl, refl)

comment_stop : (rest : List ℕ) (at : ℕ) → IsTrue (opens_comment rest) → stop_of rest at ≡ UnclosedComment at
comment_stop rest at h =
    let none = no_quote (get_or rest 0 0) (and_parts (get_or rest 0 0 == 47) _ h).0 in
    cond-false _ _ _ none.0 ∙ (cond-false _ _ _ none.1 ∙ cond-true _ _ _ h)

none_of : (a b c : Bool) → IsFalse ((a || b) || c) → (a ≡ false) × (b ≡ false) × (c ≡ false)
none_of false false false h = (refl, refl, refl)
none_of true b c h = absurd cc
none_of false true c h = absurd cc
none_of false false true h = absurd cc

unknown_stop : (rest : List ℕ) (at : ℕ) → IsFalse ((begins_string rest || begins_rune rest) || opens_comment rest) → stop_of rest at ≡ UnknownCharacter at
unknown_stop rest at h =
    let none = none_of (begins_string rest) (begins_rune rest) (opens_comment rest) h in
    cond-false _ _ _ none.0 ∙ (cond-false _ _ _ none.1 ∙ cond-false _ _ _ none.2)

-- the fault is that of the place where the cut stops
record Stopped (text : List ℕ) (f : LexFault) : Type 0 where
  at : ℕ
  rest : List ℕ
  stops : StopsAt text at rest
  named : stop_of rest at ≡ f

one_stopped : (text : List ℕ) (f g : LexFault) → Stopped text f → Stopped text g → f ≡ g
one_stopped text f g a b =
    let s = a.stops in
    let t = b.stops in
    let same = same_stop (drop (mark_size text) text) s.pieces a.rest t.pieces b.rest s.cut t.cut s.nothing t.nothing in
    let place : a.at ≡ b.at = s.place ∙ (ap (λ ps. mark_size text + sum_by (λ p. p.size) ps) same.0 ∙ sym t.place) in
    sym a.named ∙ (λ i. stop_of (same.1 i) (place i)) ∙ b.named

first_zero : (text : List ℕ) (a b : ℕ) → IsFault text (Nul a) → IsFault text (Nul b) → a < b → ⊥
first_zero text a b f g l = g.4 a l f.3

too_long : (text : List ℕ) (g : LexFault) → IsFault text TooLong → IsFault text g → TooLong ≡ g
too_long text TooLong f g = refl
too_long text (NotUtf8 at) f g = let small = g.0 in absurd (omega arith)
too_long text (Nul at) f g = let small = g.0 in absurd (omega arith)
too_long text (UnclosedString at) f g = let small = g.1.small in absurd (omega arith)
too_long text (UnclosedComment at) f g = let small = g.1.small in absurd (omega arith)
too_long text (UnclosedRune at) f g = let small = g.1.small in absurd (omega arith)
too_long text (UnknownCharacter at) f g = let small = g.1.small in absurd (omega arith)
too_long text OutOfMemory f g = absurd g

not_utf8 : (text : List ℕ) (at : ℕ) (g : LexFault) → IsFault text (NotUtf8 at) → IsFault text g → NotUtf8 at ≡ g
not_utf8 text at TooLong f g = sym (too_long text (NotUtf8 at) g f)
not_utf8 text at (NotUtf8 b) f g = ap NotUtf8 (sym (utf8_valid_len-IsValidUpTo text at f.2) ∙ utf8_valid_len-IsValidUpTo text b g.2)
not_utf8 text at (Nul b) f g = absurd (broken text at g.1 f.2)
not_utf8 text at (UnclosedString b) f g = absurd (broken text at g.1.utf8 f.2)
not_utf8 text at (UnclosedComment b) f g = absurd (broken text at g.1.utf8 f.2)
not_utf8 text at (UnclosedRune b) f g = absurd (broken text at g.1.utf8 f.2)
not_utf8 text at (UnknownCharacter b) f g = absurd (broken text at g.1.utf8 f.2)
not_utf8 text at OutOfMemory f g = absurd g

nul : (text : List ℕ) (at : ℕ) (g : LexFault) → IsFault text (Nul at) → IsFault text g → Nul at ≡ g
nul text at TooLong f g = sym (too_long text (Nul at) g f)
nul text at (NotUtf8 b) f g = sym (not_utf8 text b (Nul at) g f)
nul text at (Nul b) f g =
    ⊎_elim
    (λ (l : at < b). absurd (first_zero text at b f g l))
    (λ past. ⊎_elim (λ (l : b < at). absurd (first_zero text b at g f l)) (λ most. ap Nul (omega arith)) (cases_lt b at))
    (cases_lt at b)
nul text at (UnclosedString b) f g = absurd (g.1.no_nul at f.2 f.3)
nul text at (UnclosedComment b) f g = absurd (g.1.no_nul at f.2 f.3)
nul text at (UnclosedRune b) f g = absurd (g.1.no_nul at f.2 f.3)
nul text at (UnknownCharacter b) f g = absurd (g.1.no_nul at f.2 f.3)
nul text at OutOfMemory f g = absurd g

stop : (text : List ℕ) (f g : LexFault) → IsFault text f → Stopped text f → IsFault text g → f ≡ g
stop text f TooLong h s g = sym (too_long text f g h)
stop text f (NotUtf8 b) h s g = sym (not_utf8 text b f g h)
stop text f (Nul b) h s g = sym (nul text b f g h)
stop text f (UnclosedString b) h s g = one_stopped text f _ s (record { at = b; rest = g.0; stops = g.1; named = string_stop g.0 b g.2 })
stop text f (UnclosedComment b) h s g = one_stopped text f _ s (record { at = b; rest = g.0; stops = g.1; named = comment_stop g.0 b g.2 })
stop text f (UnclosedRune b) h s g = one_stopped text f _ s (record { at = b; rest = g.0; stops = g.1; named = rune_stop g.0 b g.2 })
stop text f (UnknownCharacter b) h s g = one_stopped text f _ s (record { at = b; rest = g.0; stops = g.1; named = unknown_stop g.0 b g.2 })
stop text f OutOfMemory h s g = absurd g

pub one_fault : (text : List ℕ) (f g : LexFault) → IsFault text f → IsFault text g → f ≡ g
one_fault text TooLong g a b = too_long text g a b
one_fault text (NotUtf8 at) g a b = not_utf8 text at g a b
one_fault text (Nul at) g a b = nul text at g a b
one_fault text (UnclosedString at) g a b = stop text _ g a (record { at = at; rest = a.0; stops = a.1; named = string_stop a.0 at a.2 }) b
one_fault text (UnclosedComment at) g a b = stop text _ g a (record { at = at; rest = a.0; stops = a.1; named = comment_stop a.0 at a.2 }) b
one_fault text (UnclosedRune at) g a b = stop text _ g a (record { at = at; rest = a.0; stops = a.1; named = rune_stop a.0 at a.2 }) b
one_fault text (UnknownCharacter at) g a b = stop text _ g a (record { at = at; rest = a.0; stops = a.1; named = unknown_stop a.0 at a.2 }) b
one_fault text OutOfMemory g a b = absurd a
