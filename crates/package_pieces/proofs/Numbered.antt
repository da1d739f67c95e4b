-- What came of bodies by their numbers, file by file.
use Rattle.std.proofs.Common.{◌≡◌, ℕ, zero, suc, ◌+◌, ◌-◌, ◌<◌, ◌≤◌, inl, inr, List, [], ◌∷◌, ◌++◌, length, Contains, Some, refl, sym, ap, ◌∙◌, subst, arith}
use Rattle.std.specs.Prelude.{slice_get}
use Rattle.std.specs.List.{AllZip}
use Rattle.std.proofs.lemmas.List.{append-nil, append_assoc}
use Rattle.meaning.proofs.Membership.{contains_nil, contains_here, contains_there, contains_cases}
use Rattle.package_pieces.specs.Numbers.{numbers_from}
use Rattle.package_pieces.specs.declared.numbers.BodyNumber.{BodyNumber}
use Rattle.workers.specs.Pieces.{ComeOf}

-- what comes of items without regard to their places
pub come_zip : {T X : Type 0} (R : T → X → Type 0) (place : ℕ) (ts : List T) (xs : List X) → ComeOf (λ n. R) place ts xs
    → AllZip R ts xs
come_zip R place [] [] h = tt
come_zip R place [] (x ∷ xs) h = absurd h
come_zip R place (t ∷ ts) [] h = absurd h
come_zip R place (t ∷ ts) (x ∷ xs) h = (h.0, come_zip R (place + 1) ts xs h.1)

-- what comes of two lists, one behind the other
pub zip_apart : {T X : Type 0} (R : T → X → Type 0) (ts us : List T) (xs ys : List X) → length ts ≡ length xs
    → AllZip R (ts ++ us) (xs ++ ys)
    → AllZip R ts xs × AllZip R us ys
zip_apart R [] us [] ys size h = (tt, h)
zip_apart R [] us (x ∷ xs) ys size h = absurd (omega (arith, size))
zip_apart R (t ∷ ts) us [] ys size h = absurd (omega (arith, size))
zip_apart R (t ∷ ts) us (x ∷ xs) ys size h =
    let w = zip_apart R ts us xs ys (omega (arith, size)) h.1 in
    ((h.0, w.0), w.1)

pub how_many : (file body count : ℕ) → length (numbers_from file body count) ≡ count
how_many file body zero = refl
how_many file body (suc count) = ap suc (how_many file (body + 1) count)

zip_places : {A B : Type 0} (R : BodyNumber → B → Type 0) (S : A → B → Type 0) (file body : ℕ) (items : List A)
    (ys : List B)
    → ((i : ℕ) (item : A) (y : B) → slice_get items i ≡ Some item → R (record { file = file; body = body + i }) y → S item y)
    → AllZip R (numbers_from file body (length items)) ys
    → AllZip S items ys
zip_places R S file body [] [] so h = tt
zip_places R S file body [] (y ∷ ys) so h = absurd h
zip_places R S file body (x ∷ xs) [] so h = absurd h
zip_places {A} {B} R S file body (x ∷ xs) (y ∷ ys) so h =
    let At : B → ℕ → Type 0 = λ z n. R (record { file = file; body = n }) z in (
      so 0 x y refl (subst (At y) (omega arith) h.0),
      zip_places R S file (body + 1) xs ys
          (λ i item z is r. so (suc i) item z is (subst (At z) (omega arith) r)) h.1,
    )

-- what comes of numbers comes of what stands at their places
pub zip_kept : {A B : Type 0} (R : BodyNumber → B → Type 0) (S : A → B → Type 0) (file : ℕ) (items : List A) (ys : List B)
    → ((i : ℕ) (item : A) (y : B) → slice_get items i ≡ Some item → R (record { file = file; body = i }) y → S item y)
    → AllZip R (numbers_from file 0 (length items)) ys
    → AllZip S items ys
zip_kept {A} {B} R S file items ys so h =
    zip_places R S file 0 items ys
    (λ i item y is r.
    let At : ℕ → Type 0 = λ n. R (record { file = file; body = n }) y in
    so i item y is (subst At (omega arith) r))
    h

-- One number more

pub next_numbers : (file body count : ℕ) (all so_far next : List BodyNumber) → body < count
    → so_far ++ numbers_from file body (count - body) ≡ all
    → next ≡ so_far ++ record { file = file; body = body } ∷ []
    → next ++ numbers_from file (body + 1) (count - (body + 1)) ≡ all
next_numbers file body count all so_far next within on is =
    let one : BodyNumber = record { file = file; body = body } in
    let rest = numbers_from file (body + 1) (count - (body + 1)) in
    let left : count - body ≡ suc (count - (body + 1)) = omega (arith, within) in
    ap (λ ns. ns ++ rest) is
    ∙ (append_assoc so_far (one ∷ []) rest ∙ (ap (λ n. so_far ++ numbers_from file body n) (sym left) ∙ on))

pub all_numbers : (file body count : ℕ) (all so_far : List BodyNumber) → count ≤ body
    → so_far ++ numbers_from file body (count - body) ≡ all
    → so_far ≡ all
all_numbers file body count all so_far past on =
    let none : count - body ≡ 0 = omega (arith, past) in
    sym (append-nil so_far) ∙ (ap (λ n. so_far ++ numbers_from file body n) (sym none) ∙ on)

-- Which numbers are there

-- it is of that file, and below the end
pub record IsBetween (file body count : ℕ) (number : BodyNumber) : Type 0 where
  pub is_file : number.file ≡ file
  pub is_past : body ≤ number.body
  pub is_below : number.body < body + count

pub between : (file body count : ℕ) (number : BodyNumber) → Contains (numbers_from file body count) number
    → IsBetween file body count number
between file body zero number h = absurd (contains_nil number h)
between file body (suc count) number h =
    elim (contains_cases (record { file = file; body = body }) number (numbers_from file (body + 1) count) h) [
      | inl same ↦
          let file_same : file ≡ number.file = ap (λ (n : BodyNumber). n.file) same in
          let body_same : body ≡ number.body = ap (λ (n : BodyNumber). n.body) same in
          record {
            is_file = sym file_same;
            is_past = omega (arith, body_same);
            is_below = omega (arith, body_same);
          }
      | inr later ↦
          let w = between file (body + 1) count number later in
          let past = w.is_past in
          let below = w.is_below in
          record { is_file = w.is_file; is_past = omega (arith, past); is_below = omega (arith, below) }
    ]

number_there : (file body count i : ℕ) → i < count
    → Contains (numbers_from file body count) (record { file = file; body = body + i })
number_there file body zero i low = absurd (omega (arith, low))
number_there file body (suc count) zero low =
    let rest = numbers_from file (body + 1) count in
    let In : ℕ → Type 0 =
    λ n. Contains (record { file = file; body = body } ∷ rest) (record { file = file; body = n }) in
    let same : body ≡ body + 0 = omega arith in
    subst In same (contains_here (record { file = file; body = body }) rest)
number_there file body (suc count) (suc i) low =
    let rest = numbers_from file (body + 1) count in
    let In : ℕ → Type 0 =
    λ n. Contains (record { file = file; body = body } ∷ rest) (record { file = file; body = n }) in
    let same : body + 1 + i ≡ body + suc i = omega arith in
    subst In same (contains_there (record { file = file; body = body }) (record { file = file; body = body + 1 + i }) rest
    (number_there file (body + 1) count i (omega (arith, low))))

pub number_at : (file count i : ℕ) → i < count → Contains (numbers_from file 0 count) (record { file = file; body = i })
number_at file count i low =
    let In : ℕ → Type 0 = λ n. Contains (numbers_from file 0 count) (record { file = file; body = n }) in
    let same : 0 + i ≡ i = omega arith in
    subst In same (number_there file 0 count i low)

-- What came of several lists, cut behind the first

pub record IsCut {T X : Type 0} (R : T → X → Type 0) (ts us : List T) (xs : List X) : Type 0 where
  pub own : List X
  pub rest : List X
  pub is_sum : xs ≡ own ++ rest
  pub of_first : AllZip R ts own
  pub of_rest : AllZip R us rest

pub zip_first : {T X : Type 0} (R : T → X → Type 0) (ts us : List T) (xs : List X) → AllZip R (ts ++ us) xs
    → IsCut R ts us xs
zip_first R [] us xs h = record { own = []; rest = xs; is_sum = refl; of_first = tt; of_rest = h }
zip_first R (t ∷ ts) us [] h = absurd h
zip_first R (t ∷ ts) us (x ∷ xs) h =
    let w = zip_first R ts us xs h.1 in
    record {
      own = x ∷ w.own;
      rest = w.rest;
      is_sum = ap (λ ys. x ∷ ys) w.is_sum;
      of_first = (h.0, w.of_first);
      of_rest = w.of_rest;
    }
