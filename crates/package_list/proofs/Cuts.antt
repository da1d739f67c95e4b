-- The first piece of a text, and those behind it.
use Rattle.std.proofs.Common.{◌≡◌, ℕ, zero, suc, ◌-◌, ◌<◌, ◌≤◌, ◌==◌, ◌∷◌, [], Bool, true, false, List, length, take, drop, if◌then◌else◌, refl, sym, ap, subst, ◌∙◌, true≢false, arith}
use Rattle.std.proofs.lemmas.Bool.{eqb-true}
use Rattle.std.proofs.lemmas.List.{length-drop}
use Rattle.package_list.specs.Pieces.{after_blanks, bracketed_size, is_blank, is_over, is_plain, opened_after, piece_size, pieces, pieces_behind, place_after, plain_size}
use Rattle.package_list.specs.declared.cut.Place.TheVariants.{Outside}

module _ {A : Type 0} (x y : A) where
  pub if_true : (test : Bool) → test ≡ true → (if test then x else y) ≡ x
  if_true true e = refl
  if_true false e = absurd (true≢false (sym e))

  pub if_false : (test : Bool) → test ≡ false → (if test then x else y) ≡ y
  if_false true e = absurd (true≢false e)
  if_false false e = refl

-- Texts

behind : (n : ℕ) (bytes : List ℕ) → pieces_behind n bytes ≡ pieces (drop n bytes)
behind zero [] = refl
behind zero (b ∷ bytes) = refl
behind (suc n) [] = refl
behind (suc n) (b ∷ bytes) = behind n bytes

plain_some : (b : ℕ) (bytes : List ℕ) → is_plain b ≡ true → plain_size (b ∷ bytes) ≡ suc (plain_size bytes)
plain_some b bytes e = if_true (suc (plain_size bytes)) 0 (is_plain b) e

positive : (test : Bool) (n : ℕ) → 0 < (if test then 1 else suc n)
positive true n = omega arith
positive false n = omega arith

one_at_least : (b : ℕ) (bytes : List ℕ) → 0 < piece_size (b ∷ bytes)
one_at_least b bytes = by_plain (is_plain b) refl where
  by_plain : (test : Bool) → is_plain b ≡ test → 0 < piece_size (b ∷ bytes)
  by_plain true e =
      let size =
      if_true (plain_size (b ∷ bytes)) (bracketed_size Outside 0 (b ∷ bytes)) (is_plain b) e ∙ plain_some b bytes e in
      omega (arith, size)
  by_plain false e =
      subst (λ n. 0 < n) (sym (if_false (plain_size (b ∷ bytes)) (bracketed_size Outside 0 (b ∷ bytes)) (is_plain b) e))
      (positive (is_over (place_after Outside b) (opened_after Outside 0 b)) (bracketed_size (place_after Outside b) (opened_after Outside 0 b) bytes))

next_of : (n : ℕ) → 0 < n → suc (n - 1) ≡ n
next_of n some = omega (arith, some)

pub first_there : (b : ℕ) (bytes : List ℕ) → is_blank b ≡ false
    → pieces (b ∷ bytes)
    ≡ take (piece_size (b ∷ bytes)) (b ∷ bytes) ∷ pieces (drop (piece_size (b ∷ bytes)) (b ∷ bytes))
first_there b bytes e =
    if_false (pieces bytes) (take (piece_size (b ∷ bytes)) (b ∷ bytes) ∷ pieces_behind (piece_size (b ∷ bytes) - 1) bytes)
    (is_blank b) e
    ∙ ap (λ ps. take (piece_size (b ∷ bytes)) (b ∷ bytes) ∷ ps)
    (behind (piece_size (b ∷ bytes) - 1) bytes
    ∙ ap (λ n. pieces (drop n (b ∷ bytes))) (next_of (piece_size (b ∷ bytes)) (one_at_least b bytes)))

pub same_pieces : (bytes : List ℕ) → pieces (after_blanks bytes) ≡ pieces bytes
same_pieces [] = refl
same_pieces (b ∷ bytes) = by_blank (is_blank b) refl (same_pieces bytes) where
  by_blank : (test : Bool) → is_blank b ≡ test → pieces (after_blanks bytes) ≡ pieces bytes
      → pieces (after_blanks (b ∷ bytes)) ≡ pieces (b ∷ bytes)
  by_blank true e h =
      ap pieces (if_true (after_blanks bytes) (b ∷ bytes) (is_blank b) e)
      ∙ h
      ∙ sym (if_true (pieces bytes) (take (piece_size (b ∷ bytes)) (b ∷ bytes) ∷ pieces_behind (piece_size (b ∷ bytes) - 1) bytes)
      (is_blank b) e)
  by_blank false e h = ap pieces (if_false (after_blanks bytes) (b ∷ bytes) (is_blank b) e)

same_head : {b c : ℕ} {bs cs : List ℕ} → b ∷ bs ≡ c ∷ cs → b ≡ c
same_head e = cc

no_item : {b : ℕ} {bs : List ℕ} → [] ≡ b ∷ bs → ⊥
no_item e = absurd (cc)

pub no_blank : (bytes : List ℕ) (b : ℕ) (rest : List ℕ) → after_blanks bytes ≡ b ∷ rest → is_blank b ≡ false
no_blank [] b rest e = absurd (no_item e)
no_blank (c ∷ bytes) b rest e = by_blank (is_blank c) refl (no_blank bytes b rest) where
  by_blank : (test : Bool) → is_blank c ≡ test → (after_blanks bytes ≡ b ∷ rest → is_blank b ≡ false)
      → is_blank b ≡ false
  by_blank true f h = h (sym (if_true (after_blanks bytes) (c ∷ bytes) (is_blank c) f) ∙ e)
  by_blank false f h =
      ap is_blank (sym (same_head (sym (if_false (after_blanks bytes) (c ∷ bytes) (is_blank c) f) ∙ e))) ∙ f

-- the first piece of a text, in which one is left behind its blanks
pub first_of : (bytes text : List ℕ) → text ≡ after_blanks bytes → 0 < length text
    → pieces bytes ≡ take (piece_size text) text ∷ pieces (drop (piece_size text) text)
first_of bytes [] e some = absurd (omega (arith, some))
first_of bytes (b ∷ rest) e some =
    sym (same_pieces bytes) ∙ ap pieces (sym e) ∙ first_there b rest (no_blank bytes b rest (sym e))

pub takes_some : (text : List ℕ) → 0 < length text → 0 < piece_size text
takes_some [] some = some
takes_some (b ∷ rest) some = one_at_least b rest

-- What the test of a text for its length says

pub some_there : (text : List ℕ) → false ≡ (length text == 0) → 0 < length text
some_there [] e = absurd (true≢false (sym e))
some_there (b ∷ rest) e = omega arith

nothing_there : (text : List ℕ) → true ≡ (length text == 0) → text ≡ []
nothing_there [] e = refl
nothing_there (b ∷ rest) e = absurd (omega (arith, eqb-true (length (b ∷ rest)) 0 (sym e)))

pub none_of : (bytes text : List ℕ) → text ≡ after_blanks bytes → true ≡ (length text == 0) → pieces bytes ≡ []
none_of bytes text e none = sym (same_pieces bytes) ∙ ap pieces (sym e ∙ nothing_there text none)

-- What is cut off

module _ (bytes text piece rest : List ℕ) (n : ℕ) (e : text ≡ after_blanks bytes) (some : 0 < length text)
    (size : n ≡ piece_size text) where
  -- a text whose first piece was cut off
  pub cut_there : piece ≡ take n text → rest ≡ drop n text → pieces bytes ≡ piece ∷ pieces rest
  cut_there front back =
      first_of bytes text e some
      ∙ (λ i. (ap (λ k. take k text) (sym size) ∙ sym front) i ∷ pieces ((ap (λ k. drop k text) (sym size) ∙ sym back) i))

  pub fewer : length text ≤ length bytes → rest ≡ drop n text → length rest < length bytes
  fewer shorter back =
      let left = ap length back ∙ length-drop n text in
      omega (arith, takes_some text some, size, left, shorter, some)
