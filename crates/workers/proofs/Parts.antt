-- What comes of parts of a list, one after the other, comes of the whole.
use Rattle.std.proofs.Common.{◌≡◌, ℕ, zero, suc, refl, ◌+◌, ◌<◌, List, [], ◌∷◌, ◌++◌, sym, ap, ◌∙◌, subst, take, length, get_or, arith}
use Rattle.std.specs.Prelude.{Result, Ok, Err, IfOk, IsOkAnd, Some, slice_get}
use Rattle.std.proofs.lemmas.List.{take_more}
use Rattle.std.proofs.lemmas.Option.{none-some, same_Some}
use Rattle.workers.specs.Pieces.{ComeOf}

pub come_append : {T X : Type 0} (gives : ℕ → T → X → Type 0) (place : ℕ) (ts us : List T) (xs ys : List X)
    → ComeOf gives place ts xs → ComeOf gives (place + length ts) us ys → ComeOf gives place (ts ++ us) (xs ++ ys)
come_append gives place [] us [] ys h k =
    let P : ℕ → Type 0 = λ n. ComeOf gives n us ys in
    subst P (omega arith) k
come_append gives place [] us (x ∷ xs) ys h k = absurd h
come_append gives place (t ∷ ts) us [] ys h k = absurd h
come_append {T} {X} gives place (t ∷ ts) us (x ∷ xs) ys h k =
    let P : ℕ → Type 0 = λ n. ComeOf gives n us ys in
    let moved : place + length (t ∷ ts) ≡ (place + 1) + length ts = omega arith in
    (h.0, come_append gives (place + 1) ts us xs ys h.1 (subst P moved k))

length_take : {T : Type 0} (ts : List T) (i : ℕ) → i < length ts → length (take i ts) ≡ i
length_take [] i low = absurd (omega (arith, low))
length_take (t ∷ ts) zero low = refl
length_take (t ∷ ts) (suc i) low = ap suc (length_take ts i (omega (arith, low)))

pub come_more : {T X : Type 0} (gives : ℕ → T → X → Type 0) (first : ℕ) (ts : List T) (i : ℕ) (t : T) (xs now : List X) (x : X)
    → ComeOf gives first (take i ts) xs
    → i < length ts
    → t ≡ get_or ts i t
    → gives (first + i) t x
    → now ≡ xs ++ x ∷ []
    → ComeOf gives first (take (i + 1) ts) now
come_more {T} {X} gives first ts i t xs now x h low at r is =
    let size : length (take i ts) ≡ i = length_take ts i low in
    let front : take (i + 1) ts ≡ take i ts ++ t ∷ [] = take_more ts i t low ∙ ap (λ (y : T). take i ts ++ y ∷ []) (sym at) in
    let P : List T → Type 0 = λ l. ComeOf gives first l now in
    let Q : List X → Type 0 = λ l. ComeOf gives first (take i ts ++ t ∷ []) l in
    let N : ℕ → Type 0 = λ n. gives (first + n) t x in
    subst P (sym front) (subst Q (sym is) (come_append gives first (take i ts) (t ∷ []) xs (x ∷ []) h (subst N (sym size) r, tt)))

pub comes_joined : {T X V E F : Type 0} (gives : ℕ → T → X → Type 0) (items : V → List X) (first : ℕ) (ts us : List T)
    (front : Result V E) (back both : Result V F)
    → IfOk front (λ v. ComeOf gives first ts (items v))
    → IfOk back (λ v. ComeOf gives (first + length ts) us (items v))
    → IfOk both (λ v. IsOkAnd front (λ a. IsOkAnd back (λ b. items v ≡ items a ++ items b)))
    → IfOk both (λ v. ComeOf gives first (ts ++ us) (items v))
comes_joined gives items first ts us front back (Err f) h k e = tt
comes_joined gives items first ts us (Err f) back (Ok v) h k e = absurd e
comes_joined gives items first ts us (Ok a) (Err f) (Ok v) h k e = absurd e
comes_joined {T} {X} gives items first ts us (Ok a) (Ok b) (Ok v) h k e =
    let P : List X → Type 0 = λ l. ComeOf gives first (ts ++ us) l in
    subst P (sym e) (come_append gives first ts us (items a) (items b) h k)

-- What came of a list, by places

module _ {T X : Type 0} (gives : ℕ → T → X → Type 0) where
  -- there is as much as there are items
  pub come_as_many : (first : ℕ) (ts : List T) (xs : List X) → ComeOf gives first ts xs → length ts ≡ length xs
  come_as_many first [] [] h = refl
  come_as_many first [] (x ∷ xs) h = absurd h
  come_as_many first (t ∷ ts) [] h = absurd h
  come_as_many first (t ∷ ts) (x ∷ xs) h = ap suc (come_as_many (first + 1) ts xs h.1)

  -- what stands at a place came of the item there
  pub come_at : (first : ℕ) (ts : List T) (xs : List X) → ComeOf gives first ts xs
      → (i : ℕ) (x : X) → slice_get xs i ≡ Some x
      → (t : T) × (slice_get ts i ≡ Some t) × gives (first + i) t x
  come_at first [] [] h i x is = absurd (none-some x is)
  come_at first [] (y ∷ xs) h i x is = absurd h
  come_at first (t ∷ ts) [] h i x is = absurd h
  come_at first (t ∷ ts) (y ∷ xs) h zero x is =
      let N : ℕ → Type 0 = λ n. gives n t x in
      (t, refl, subst N (omega arith) (subst (gives first t) (same_Some y x is) h.0))
  come_at first (t ∷ ts) (y ∷ xs) h (suc i) x is =
      let w = come_at (first + 1) ts xs h.1 i x is in
      let N : ℕ → Type 0 = λ n. gives n w.0 x in
      (w.0, w.1, subst N (omega arith) w.2)

-- what comes of items in one way comes of them in a weaker way
pub come_so : {T X : Type 0} (strong weak : ℕ → T → X → Type 0)
    → ((place : ℕ) (t : T) (x : X) → strong place t x → weak place t x)
    → (first : ℕ) (ts : List T) (xs : List X) → ComeOf strong first ts xs → ComeOf weak first ts xs
come_so strong weak so first [] [] h = tt
come_so strong weak so first [] (x ∷ xs) h = absurd h
come_so strong weak so first (t ∷ ts) [] h = absurd h
come_so strong weak so first (t ∷ ts) (x ∷ xs) h = (so first t x h.0, come_so strong weak so (first + 1) ts xs h.1)
