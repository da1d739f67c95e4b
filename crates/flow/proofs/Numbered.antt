-- A code whose occurrences carry the numbers of their nodes; what can come first in it, and after each node, by them.
use Rattle.std.proofs.Common.{◌≡◌, ◌≢◌, ◌⊎◌, inl, inr, ℕ, ◌+◌, Bool, true, false, List, [], ◌∷◌, ◌++◌, Option, Some, Contains, refl, sym, ap, ◌∙◌, subst}
use Rattle.std.specs.Prelude.{if◌then◌else◌, None}
use Rattle.std.proofs.lemmas.Bool.Decides.{Decides-eqb}
use Rattle.std.proofs.lemmas.Slice.Eq.{bytes_eq-Decides}
use Rattle.meaning.specs.Code.{Occurrence, Way, returning, breaking, continuing, falling, Code, skip, does, leave, then_code, either, repeats, up_to}
use Rattle.meaning.specs.Lists.{Exit, stopped, falls, leaves, Lists, not_begun, skipped, done, just_done, left, ends_in_first, goes_on, in_first, in_second, ends_in_turn, turns_again, arrives, passes}
use Rattle.meaning.proofs.Membership.{contains_nil, contains_here, contains_there, contains_cases}
use Rattle.flow.specs.GraphOfCode.{same_label, same_way, arriving, size, firsts}
use Rattle.flow.proofs.FirstOnes.{Begins, at_once, with_first, past_first, by_one, by_other, by_turn, within, leaves≢falls}

pub record Numbered (E : Type 0) : Type 0 where
  pub id : ℕ
  pub event : E

abbrev pub with_number : {E : Type 0} → ℕ → Occurrence E → Occurrence (Numbered E)
with_number n o = record { at = o.at; order = o.order; event = record { id = n; event = o.event } }

abbrev pub plain : {E : Type 0} → Occurrence (Numbered E) → Occurrence E
plain o = record { at = o.at; order = o.order; event = o.event.event }

abbrev pub numbered : {E : Type 0} → ℕ → Code E → Code (Numbered E)
numbered f skip = skip
numbered f (does o) = does (with_number f o)
numbered f (leave w) = leave w
numbered f (then_code a b) = then_code (numbered (f + size b) a) (numbered f b)
numbered f (either a b) = either (numbered (f + size b) a) (numbered f b)
numbered f (repeats a) = repeats (numbered f a)
numbered f (up_to w a) = up_to w (numbered f a)

-- the numbers of those that can come first
abbrev pub leads : {E : Type 0} → Code (Numbered E) → List ℕ → (Way → List ℕ) → List ℕ
leads skip next exits = next
leads (does o) next exits = o.event.id ∷ []
leads (leave w) next exits = exits w
leads (then_code a b) next exits = leads a (leads b next exits) exits
leads (either a b) next exits = leads a next exits ++ leads b next exits
leads (repeats a) next exits = leads a [] exits
leads (up_to w a) next exits = leads a next (arriving w next exits)

pub leads_firsts : {E : Type 0} (f : ℕ) (c : Code E) (next : List ℕ) (exits : Way → List ℕ) → leads (numbered f c) next exits ≡ firsts f c next exits
leads_firsts f skip next exits = refl
leads_firsts f (does o) next exits = refl
leads_firsts f (leave w) next exits = refl
leads_firsts f (then_code a b) next exits =
    ap (λ z. leads (numbered (f + size b) a) z exits) (leads_firsts f b next exits) ∙ leads_firsts (f + size b) a (firsts f b next exits) exits
leads_firsts f (either a b) next exits =
    ap (λ z. z ++ leads (numbered f b) next exits) (leads_firsts (f + size b) a next exits) ∙ ap (λ z. firsts (f + size b) a next exits ++ z) (leads_firsts f b next exits)
leads_firsts f (repeats a) next exits = leads_firsts f a [] exits
leads_firsts f (up_to w a) next exits = leads_firsts f a next (arriving w next exits)

-- Members of appended lists

contains_left : {A : Type 0} (xs ys : List A) (x : A) → Contains xs x → Contains (xs ++ ys) x
contains_left [] ys x h = absurd (contains_nil x h)
contains_left (a ∷ xs) ys x h =
    elim (contains_cases a x xs h) [
      | inl p ↦ subst (λ z. Contains (a ∷ (xs ++ ys)) z) p (contains_here a (xs ++ ys))
      | inr k ↦ contains_there a x (xs ++ ys) (contains_left xs ys x k)
    ]

contains_right : {A : Type 0} (xs ys : List A) (x : A) → Contains ys x → Contains (xs ++ ys) x
contains_right [] ys x h = h
contains_right (a ∷ xs) ys x h = contains_there a x (xs ++ ys) (contains_right xs ys x h)

contains_one_of : {A : Type 0} (xs ys : List A) (x : A) → Contains (xs ++ ys) x → Contains xs x ⊎ Contains ys x
contains_one_of [] ys x h = inr h
contains_one_of (a ∷ xs) ys x h =
    elim (contains_cases a x (xs ++ ys) h) [
      | inl p ↦ inl (subst (λ z. Contains (a ∷ xs) z) p (contains_here a xs))
      | inr k ↦ elim (contains_one_of xs ys x k) [ inl m ↦ inl (contains_there a x xs m) | inr m ↦ inr m ]
    ]

-- Ways

same_label_itself : (l : Option (List ℕ)) → same_label l l ≡ true
same_label_itself None = refl
same_label_itself (Some l) = (bytes_eq-Decides l l).1 refl

same_way_itself : (w : Way) → same_way w w ≡ true
same_way_itself returning = refl
same_way_itself (breaking l) = same_label_itself l
same_way_itself (continuing l) = same_label_itself l
same_way_itself (falling at) = (Decides-eqb at at).1 refl

same_label_is : (l m : Option (List ℕ)) → same_label l m ≡ true → l ≡ m
same_label_is None None e = refl
same_label_is None (Some m) e = cc
same_label_is (Some l) None e = cc
same_label_is (Some l) (Some m) e = ap Some ((bytes_eq-Decides l m).0 e)

same_way_is : (v w : Way) → same_way v w ≡ true → v ≡ w
same_way_is returning returning e = refl
same_way_is returning (breaking m) e = cc
same_way_is returning (continuing m) e = cc
same_way_is returning (falling n) e = cc
same_way_is (breaking l) returning e = cc
same_way_is (breaking l) (breaking m) e = ap breaking (same_label_is l m e)
same_way_is (breaking l) (continuing m) e = cc
same_way_is (breaking l) (falling n) e = cc
same_way_is (continuing l) returning e = cc
same_way_is (continuing l) (breaking m) e = cc
same_way_is (continuing l) (continuing m) e = ap continuing (same_label_is l m e)
same_way_is (continuing l) (falling n) e = cc
same_way_is (falling at) returning e = cc
same_way_is (falling at) (breaking m) e = cc
same_way_is (falling at) (continuing m) e = cc
same_way_is (falling at) (falling n) e = ap falling ((Decides-eqb at n).0 e)

falls≢leaves : (w : Way) → falls ≢ leaves w
falls≢leaves w e = cc

leaves-inj : (w v : Way) → leaves w ≡ leaves v → w ≡ v
leaves-inj w v e = cc

-- What follows an exit

abbrev pub after : Exit → List ℕ → (Way → List ℕ) → List ℕ
after stopped next exits = []
after falls next exits = next
after (leaves w) next exits = exits w

-- what leaves otherwise than by falling does not ask what is next
past : (x : Exit) (next other : List ℕ) (exits : Way → List ℕ) (m : ℕ) → x ≢ falls → Contains (after x next exits) m → Contains (after x other exits) m
past stopped next other exits m n h = h
past falls next other exits m n h = absurd (n refl)
past (leaves w) next other exits m n h = h

pub chosen : {A : Type 0} (b : Bool) (x y : A) → b ≡ true → (if b then x else y) ≡ x
chosen true x y e = refl
chosen false x y e = cc

pub not_chosen : {A : Type 0} (b : Bool) (x y : A) → b ≡ false → (if b then x else y) ≡ y
not_chosen false x y e = refl
not_chosen true x y e = cc

-- what arrives at the end by its way
arriving_there : (w : Way) (next : List ℕ) (exits : Way → List ℕ) → arriving w next exits w ≡ next
arriving_there w next exits = chosen (same_way w w) next (exits w) (same_way_itself w)

by_cases : (b : Bool) → (b ≡ true) ⊎ (b ≡ false)
by_cases true = inl refl
by_cases false = inr refl

not_same : (v w : Way) → v ≢ w → same_way v w ≡ false
not_same v w n =
    elim (by_cases (same_way v w)) [
      | inl e ↦ absurd (n (same_way_is v w e))
      | inr e ↦ e
    ]

beyond : (x : Exit) (w : Way) (next : List ℕ) (exits : Way → List ℕ) (m : ℕ) → x ≢ leaves w → Contains (after x next exits) m → Contains (after x next (arriving w next exits)) m
beyond stopped w next exits m n h = h
beyond falls w next exits m n h = h
beyond (leaves v) w next exits m n h =
    subst (λ z. Contains z m) (sym (not_chosen (same_way v w) next (exits v) (not_same v w (λ e. n (ap leaves e))))) h

-- The numbers of what can come first

both_empty : {A : Type 0} (p q : List A) → p ++ q ≡ [] → (p ≡ []) × (q ≡ [])
both_empty [] q e = (refl, e)
both_empty (a ∷ p) q e = cc

-- a code that is left without an event leads to what follows
silently : {E : Type 0} {c : Code (Numbered E)} {t : List (Occurrence (Numbered E))} {x : Exit} → Lists c t x → t ≡ [] → (next : List ℕ) (exits : Way → List ℕ) (m : ℕ) → Contains (after x next exits) m → Contains (leads c next exits) m
silently not_begun e next exits m h = absurd (contains_nil m h)
silently skipped e next exits m h = h
silently done e next exits m h = cc
silently just_done e next exits m h = cc
silently left e next exits m h = h
silently (ends_in_first {a} {b} {x = x} l n) e next exits m h =
    silently l e (leads b next exits) exits m (past x next (leads b next exits) exits m n h)
silently (goes_on {a} {b} {t = p} {u = q} l k f) e next exits m h =
    let none = both_empty p q (sym f ∙ e) in
    silently l none.0 (leads b next exits) exits m (silently k none.1 next exits m h)
silently (in_first {a} {b} l) e next exits m h = contains_left (leads a next exits) (leads b next exits) m (silently l e next exits m h)
silently (in_second {a} {b} l) e next exits m h = contains_right (leads a next exits) (leads b next exits) m (silently l e next exits m h)
silently (ends_in_turn {x = x} l n) e next exits m h = silently l e [] exits m (past x next [] exits m n h)
silently (turns_again {t = p} {u = q} l k f) e next exits m h = silently k (both_empty p q (sym f ∙ e)).1 next exits m h
silently (arrives {w} l) e next exits m h =
    silently l e next (arriving w next exits) m (subst (λ z. Contains z m) (sym (arriving_there w next exits)) h)
silently (passes {w} {x = x} l n) e next exits m h = silently l e next (arriving w next exits) m (beyond x w next exits m n h)

pub led : {E : Type 0} {c r : Code (Numbered E)} {o : Occurrence (Numbered E)} → Begins c o r → (next : List ℕ) (exits : Way → List ℕ) → Contains (leads c next exits) o.event.id
led at_once next exits = contains_here _ []
led (with_first {b = b} k) next exits = led k (leads b next exits) exits
led (past_first {b = b} l k) next exits = silently l refl (leads b next exits) exits _ (led k next exits)
led (by_one {a} {b} k) next exits = contains_left (leads a next exits) (leads b next exits) _ (led k next exits)
led (by_other {a} {b} k) next exits = contains_right (leads a next exits) (leads b next exits) _ (led k next exits)
led (by_turn k) next exits = led k [] exits
led (within {w} k) next exits = led k next (arriving w next exits)

-- The other way round: a number is that of an occurrence of the code, or of what follows where it is left silently
pub data Led {E : Type 0} (c : Code (Numbered E)) (next : List ℕ) (exits : Way → List ℕ) (m : ℕ) : Type 0 where
  by_its_own : (o : Occurrence (Numbered E)) (r : Code (Numbered E)) → Begins c o r → o.event.id ≡ m → Led c next exits m
  by_leaving : (x : Exit) → Lists c [] x → Contains (after x next exits) m → Led c next exits m

led_to_one : {E : Type 0} (o : Occurrence (Numbered E)) (next : List ℕ) (exits : Way → List ℕ) (m : ℕ) → Contains (o.event.id ∷ []) m → Led (does o) next exits m
led_to_one o next exits m h =
    elim (contains_cases o.event.id m [] h) [
      | inl e ↦ by_its_own o skip at_once e
      | inr k ↦ absurd (contains_nil m k)
    ]

led_past : {E : Type 0} (a b : Code (Numbered E)) (next : List ℕ) (exits : Way → List ℕ) (m : ℕ) → Lists a [] falls → Led b next exits m → Led (then_code a b) next exits m
led_past a b next exits m l (by_its_own o r k e) = by_its_own o r (past_first l k) e
led_past a b next exits m l (by_leaving x k h) = by_leaving x (goes_on l k refl) h

led_first : {E : Type 0} (a b : Code (Numbered E)) (next : List ℕ) (exits : Way → List ℕ) (m : ℕ) → ((h : Contains (leads b next exits) m) → Led b next exits m) → Led a (leads b next exits) exits m → Led (then_code a b) next exits m
led_first a b next exits m further (by_its_own o r k e) = by_its_own o (then_code r b) (with_first k) e
led_first a b next exits m further (by_leaving stopped l h) = absurd (contains_nil m h)
led_first a b next exits m further (by_leaving falls l h) = led_past a b next exits m l (further h)
led_first a b next exits m further (by_leaving (leaves w) l h) = by_leaving (leaves w) (ends_in_first l (leaves≢falls w)) h

led_one : {E : Type 0} (a b : Code (Numbered E)) (next : List ℕ) (exits : Way → List ℕ) (m : ℕ) → Led a next exits m → Led (either a b) next exits m
led_one a b next exits m (by_its_own o r k e) = by_its_own o r (by_one k) e
led_one a b next exits m (by_leaving x l h) = by_leaving x (in_first l) h

led_other : {E : Type 0} (a b : Code (Numbered E)) (next : List ℕ) (exits : Way → List ℕ) (m : ℕ) → Led b next exits m → Led (either a b) next exits m
led_other a b next exits m (by_its_own o r k e) = by_its_own o r (by_other k) e
led_other a b next exits m (by_leaving x l h) = by_leaving x (in_second l) h

led_turn : {E : Type 0} (a : Code (Numbered E)) (next : List ℕ) (exits : Way → List ℕ) (m : ℕ) → Led a [] exits m → Led (repeats a) next exits m
led_turn a next exits m (by_its_own o r k e) = by_its_own o (then_code r (repeats a)) (by_turn k) e
led_turn a next exits m (by_leaving stopped l h) = absurd (contains_nil m h)
led_turn a next exits m (by_leaving falls l h) = absurd (contains_nil m h)
led_turn a next exits m (by_leaving (leaves w) l h) = by_leaving (leaves w) (ends_in_turn l (leaves≢falls w)) h

led_leaving : {E : Type 0} (a : Code (Numbered E)) (v w : Way) (next : List ℕ) (exits : Way → List ℕ) (m : ℕ) → Lists a [] (leaves v) → Contains (arriving w next exits v) m → Led (up_to w a) next exits m
led_leaving a v w next exits m l h =
    elim (by_cases (same_way v w)) [
      | inl e ↦ by_leaving falls (arrives (subst (λ z. Lists a [] (leaves z)) (same_way_is v w e) l)) (subst (λ z. Contains z m) (chosen (same_way v w) next (exits v) e) h)
      | inr e ↦ by_leaving (leaves v) (passes l (λ f. other e (leaves-inj v w f))) (subst (λ z. Contains z m) (not_chosen (same_way v w) next (exits v) e) h)
    ]
  where
    other : same_way v w ≡ false → v ≡ w → ⊥
    other e f =
        let t : same_way v w ≡ true = subst (λ z. same_way v z ≡ true) f (same_way_itself v) in
        cc

led_inside : {E : Type 0} (a : Code (Numbered E)) (w : Way) (next : List ℕ) (exits : Way → List ℕ) (m : ℕ) → Led a next (arriving w next exits) m → Led (up_to w a) next exits m
led_inside a w next exits m (by_its_own o r k e) = by_its_own o (up_to w r) (within k) e
led_inside a w next exits m (by_leaving stopped l h) = absurd (contains_nil m h)
led_inside a w next exits m (by_leaving falls l h) = by_leaving falls (passes l (falls≢leaves w)) h
led_inside a w next exits m (by_leaving (leaves v) l h) = led_leaving a v w next exits m l h

pub led_by : {E : Type 0} (c : Code (Numbered E)) (next : List ℕ) (exits : Way → List ℕ) (m : ℕ) → Contains (leads c next exits) m → Led c next exits m
led_by skip next exits m h = by_leaving falls skipped h
led_by (does o) next exits m h = led_to_one o next exits m h
led_by (leave w) next exits m h = by_leaving (leaves w) left h
led_by (then_code a b) next exits m h = led_first a b next exits m (led_by b next exits m) (led_by a (leads b next exits) exits m h)
led_by (either a b) next exits m h =
    elim (contains_one_of (leads a next exits) (leads b next exits) m h) [
      | inl k ↦ led_one a b next exits m (led_by a next exits m k)
      | inr k ↦ led_other a b next exits m (led_by b next exits m k)
    ]
led_by (repeats a) next exits m h = led_turn a next exits m (led_by a [] exits m h)
led_by (up_to w a) next exits m h = led_inside a w next exits m (led_by a next (arriving w next exits) m h)
