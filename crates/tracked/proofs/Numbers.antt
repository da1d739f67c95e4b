-- Numbers that are each kept once, where they come first.
use Rattle.std.proofs.Common.{◌≡◌, ℕ, Bool, true, false, not, ◌&&◌, ◌||◌, if◌then◌else◌, List, [], ◌∷◌, ◌++◌, Option, Some, None, is_some, option_map, refl, sym, ap, ◌∙◌, true≢false}
use Rattle.std.specs.Prelude.{◌==◌}
use Rattle.std.specs.List.{list_any, filter}
use Rattle.std.proofs.lemmas.Bool.Decides.{Decides-eqb}
use Rattle.std.proofs.lemmas.List.Elements.{filter-append}
use Rattle.meaning.specs.OuterBlocks.{or_else}
use Rattle.meaning.specs.BodyEvents.{distinct}
use Rattle.meaning.specs.Tracked.{Local, find_local}
use Rattle.tracked.specs.LocalViews.{fresh, numbers_of}

-- two tests that imply one another are the same
same_tests : (a b : Bool) → (a ≡ true → b ≡ true) → (b ≡ true → a ≡ true) → a ≡ b
same_tests true true f g = refl
same_tests true false f g = sym (f refl)
same_tests false true f g = g refl
same_tests false false f g = refl

pub either_way : (m n : ℕ) → (m == n) ≡ (n == m)
either_way m n =
    same_tests (m == n) (n == m) (λ e. (Decides-eqb n m).1 (sym ((Decides-eqb m n).0 e)))
    (λ e. (Decides-eqb m n).1 (sym ((Decides-eqb n m).0 e)))

module _ {X : Type 0} where
  one_kept : (f : X → Bool) (x : X) (xs ys : List X) → xs ≡ ys → (b : Bool) → b ≡ true
      → (if b then x ∷ xs else xs) ≡ x ∷ ys
  one_kept f x xs ys same true e = ap (λ l. x ∷ l) same
  one_kept f x xs ys same false e = absurd (true≢false (sym e))

  pub keeps_all : (f : X → Bool) → ((x : X) → f x ≡ true) → (xs : List X) → filter f xs ≡ xs
  keeps_all f all [] = refl
  keeps_all f all (x ∷ xs) = one_kept f x (filter f xs) xs (keeps_all f all xs) (f x) (all x)

  one_of_both : (f : X → Bool) (x : X) (xs ys : List X) → filter f xs ≡ ys → (a b c : Bool) → f x ≡ a → c ≡ (a && b)
      → filter f (if b then x ∷ xs else xs) ≡ (if c then x ∷ ys else ys)
  one_of_both f x xs ys same true true true e is =
      ap (λ t. if t then x ∷ filter f xs else filter f xs) e ∙ ap (λ l. x ∷ l) same
  one_of_both f x xs ys same false true false e is =
      ap (λ t. if t then x ∷ filter f xs else filter f xs) e ∙ same
  one_of_both f x xs ys same true false false e is = same
  one_of_both f x xs ys same false false false e is = same
  one_of_both f x xs ys same true true false e is = absurd (true≢false (sym is))
  one_of_both f x xs ys same true false true e is = absurd (true≢false is)
  one_of_both f x xs ys same false true true e is = absurd (true≢false is)
  one_of_both f x xs ys same false false true e is = absurd (true≢false is)

  -- two filters are one
  pub keeps_both : (f g h : X → Bool) → ((x : X) → h x ≡ (f x && g x)) → (xs : List X)
      → filter f (filter g xs) ≡ filter h xs
  keeps_both f g h same [] = refl
  keeps_both f g h same (x ∷ xs) =
      one_of_both f x (filter g xs) (filter h xs) (keeps_both f g h same xs) (f x) (g x) (h x) refl (same x)

  pub keeps_same : (f g : X → Bool) → ((x : X) → f x ≡ g x) → (xs : List X) → filter f xs ≡ filter g xs
  keeps_same f g same xs = λ i. filter (λ x. same x i) xs

-- the number is among these
abbrev pub is_among : List ℕ → ℕ → Bool
is_among ns m = list_any (λ n. m == n) ns

neither : (a b : Bool) → not (a || b) ≡ (not a && not b)
neither true b = refl
neither false b = refl

pub distinct-append : (ms ns : List ℕ)
    → distinct (ms ++ ns) ≡ distinct ms ++ filter (λ n. not (is_among ms n)) (distinct ns)
distinct-append [] ns = sym (keeps_all (λ n. true) (λ n. refl) (distinct ns))
distinct-append (m ∷ ms) ns =
    ap (λ l. m ∷ filter (λ n. not (n == m)) l) (distinct-append ms ns)
    ∙ ap (λ l. m ∷ l)
    (filter-append (λ n. not (n == m)) (distinct ms) (filter (λ n. not (is_among ms n)) (distinct ns))
    ∙ ap (λ l. filter (λ n. not (n == m)) (distinct ms) ++ l)
    (keeps_both (λ n. not (n == m)) (λ n. not (is_among ms n)) (λ n. not (is_among (m ∷ ms) n))
    (λ n. neither (n == m) (is_among ms n)) (distinct ns)))

one_number : (l : Local) (o : Option Local) (t : Bool) → is_some (option_map fresh o) ≡ t → (a b : Bool) → a ≡ b
    → is_some (option_map fresh (if a then Some l else o)) ≡ (b || t)
one_number l o t same true true e = refl
one_number l o t same false false e = same
one_number l o t same true false e = absurd (true≢false e)
one_number l o t same false true e = absurd (true≢false (sym e))

-- there is a local of a number where the number is one of those of the locals
pub has_number : (ls : List Local) (n : ℕ) → is_some (option_map fresh (find_local ls n)) ≡ is_among (numbers_of ls) n
has_number [] n = refl
has_number (l ∷ ls) n =
    one_number l (find_local ls n) (is_among (numbers_of ls) n) (has_number ls n) (l.number == n) (n == l.number)
    (either_way l.number n)

pub some_or : {A : Type 0} (a b : Option A) → is_some (or_else a b) ≡ (is_some a || is_some b)
some_or None b = refl
some_or (Some x) b = refl

pub neither_of : {A : Type 0} (a b : Option A) (t : Bool) → is_some b ≡ t
    → not (is_some (or_else a b)) ≡ (not (is_some a) && not t)
neither_of a b t e = ap not (some_or a b) ∙ neither (is_some a) (is_some b) ∙ ap (λ x. not (is_some a) && not x) e
