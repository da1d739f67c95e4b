-- What is set in the words of a state.
use Rattle.std.proofs.Common.{◌≡◌, ◌≢◌, ◌↔◌, ℕ, zero, suc, ◌+◌, ◌*◌, ◌/◌, ◌%◌, ◌-◌, ◌<◌, ◌≤◌, ◌^◌, Bool, true, false, ◌&&◌, ◌||◌, List, [], ◌∷◌, length, get_or, set, max, min, refl, sym, ap, ◌∙◌, subst, true≢false, arith, inl, inr}
use Rattle.std.proofs.lemmas.Bool.{cases_lt, cases_eq, lt-ltb, le-ltb}
use Rattle.std.proofs.lemmas.List.{length-set, get_or-set_same, get_or-set_other, get_or_past}
use Rattle.std.proofs.lemmas.List.Sums.{sum_by-cons, sum_by-set}
use Rattle.std.proofs.lemmas.Nat.{pow_pos, one_shl, shl_whole, shr-shr, shr_split, mod_below, le_or_l}
use Rattle.std.proofs.lemmas.Nat.Bits.{bit_at-lt, bit_at-zero, bit_at_or, bit_at_and, bit_at_not, bit_at_above, bit_at_cat_low, bit_at_cat_high, bit_at_ones, bit_at_ones_above, same_from_bits}
use Rattle.std.specs.Int.{bit_at, bit_not, w64}
use Rattle.std.specs.Prelude.{◌==◌, nat_lt, bit_or, bit_and}
use Rattle.bodies.specs.Masks.{is_set}
use Rattle.bodies.specs.States.{has_bit}
use Rattle.bodies.specs.StateWords.{IsWithinWord, total, room, itself}

-- One word

either : (x y : ℕ) → x < 2 → y < 2 → (max x y == 1) ≡ ((x == 1) || (y == 1))
either zero zero p q = refl
either zero (suc zero) p q = refl
either zero (suc (suc y)) p q = absurd (omega (arith, q))
either (suc zero) zero p q = refl
either (suc zero) (suc zero) p q = refl
either (suc zero) (suc (suc y)) p q = absurd (omega (arith, q))
either (suc (suc x)) y p q = absurd (omega (arith, p))

pub set_in_both : (a b bit : ℕ) → is_set (bit_or a b) bit ≡ (is_set a bit || is_set b bit)
set_in_both a b bit =
    ap (λ x. x == 1) (bit_at_or a b bit) ∙ either (bit_at a bit) (bit_at b bit) (bit_at-lt a bit) (bit_at-lt b bit)

same_small : (x y : ℕ) → x < 2 → y < 2 → (x == 1) ≡ (y == 1) → x ≡ y
same_small zero zero p q e = refl
same_small zero (suc zero) p q e = absurd (true≢false (sym e))
same_small zero (suc (suc y)) p q e = absurd (omega (arith, q))
same_small (suc zero) zero p q e = absurd (true≢false e)
same_small (suc zero) (suc zero) p q e = refl
same_small (suc zero) (suc (suc y)) p q e = absurd (omega (arith, q))
same_small (suc (suc x)) y p q e = absurd (omega (arith, p))

-- what is set in both is set in one of them, which therefore is both
or_absorbs : (a b : Bool) → (b ≡ true → a ≡ true) → (a || b) ≡ a
or_absorbs true b h = refl
or_absorbs false true h = sym (h refl)
or_absorbs false false h = refl

or_gives : (a b : Bool) → (a || b) ≡ a → b ≡ true → a ≡ true
or_gives true b e f = refl
or_gives false true e f = sym e
or_gives false false e f = f

same_bit : (m n bit : ℕ) → is_set m bit ≡ is_set n bit → bit_at m bit ≡ bit_at n bit
same_bit m n bit e = same_small (bit_at m bit) (bit_at n bit) (bit_at-lt m bit) (bit_at-lt n bit) e

pub has_all_bits : (word other : ℕ)
    → (bit_or word other ≡ word) ↔ ((bit : ℕ) → is_set other bit ≡ true → is_set word bit ≡ true)
has_all_bits word other = (
  λ e bit s. or_gives (is_set word bit) (is_set other bit)
      (sym (set_in_both word other bit) ∙ ap (λ n. is_set n bit) e) s,
  λ h. same_from_bits (bit_or word other) word
      (λ bit. same_bit (bit_or word other) word bit
      (set_in_both word other bit ∙ or_absorbs (is_set word bit) (is_set other bit) (h bit))),
)

shifted : (w s b : ℕ) → bit_at (w / 2 ^ s) b ≡ bit_at w (s + b)
shifted w s b = ap (λ x. x % 2) (shr-shr w s b)

low_bits : (x n b : ℕ) → b < n → bit_at (x % 2 ^ n) b ≡ bit_at x b
low_bits x n b l =
    sym (bit_at_cat_low (x / 2 ^ n) n (x % 2 ^ n) b l) ∙ ap (λ y. bit_at y b) (shr_split x n)

no_high_bits : (x n b : ℕ) → n ≤ b → bit_at (x % 2 ^ n) b ≡ 0
no_high_bits x n b past = bit_at_above (x % 2 ^ n) n b (mod_below x (2 ^ n) (pow_pos n)) past

-- some bits of a word
pub field_bit : (w s n b : ℕ) → is_set (w / 2 ^ s % 2 ^ n) b ≡ (nat_lt b n && is_set w (s + b))
field_bit w s n b =
    elim (cases_lt b n) [
      | inl l ↦
          ap (λ x. x == 1) (low_bits (w / 2 ^ s) n b l ∙ shifted w s b)
          ∙ ap (λ t. t && is_set w (s + b)) (sym (lt-ltb b n l))
      | inr past ↦
          ap (λ x. x == 1) (no_high_bits (w / 2 ^ s) n b past)
          ∙ ap (λ t. t && is_set w (s + b)) (sym (le-ltb b n past))
    ]

-- a word in which so many bits from s on were set to others

abbrev ones_from : ℕ → ℕ → ℕ
ones_from s n = (1 * 2 ^ n % 2 ^ 64 - 1) * 2 ^ s % 2 ^ 64

abbrev moved_to : ℕ → ℕ → ℕ
moved_to s bits = bits * 2 ^ s % 2 ^ 64

abbrev pub written : ℕ → ℕ → ℕ → ℕ → ℕ
written w s n bits = bit_or (bit_and w (bit_not w64 (ones_from s n))) (moved_to s bits)

module _ (w s n bits : ℕ) (small : n < 64) (within : s + n ≤ 64) (fits : bits < 2 ^ n) where
  abbrev ones : ℕ
  ones = ones_from s n

  abbrev moved : ℕ
  moved = moved_to s bits

  abbrev result : ℕ
  result = written w s n bits

  all_ones : ones ≡ (2 ^ n - 1) * 2 ^ s + 0
  all_ones =
      ap (λ x. (x - 1) * 2 ^ s % 2 ^ 64) (one_shl n 64 small)
      ∙ shl_whole (2 ^ n - 1) n s 64 (let p = pow_pos n in omega (arith, p)) (omega (arith, within))
      ∙ omega arith

  all_moved : moved ≡ bits * 2 ^ s + 0
  all_moved = shl_whole bits n s 64 fits (omega (arith, within)) ∙ omega arith

  ones_fit : ones < 2 ^ 64
  ones_fit = mod_below ((1 * 2 ^ n % 2 ^ 64 - 1) * 2 ^ s) (2 ^ 64) (pow_pos 64)

  parts : (i : ℕ) → i < 64 → bit_at result i ≡ max (min (bit_at w i) (1 - bit_at ones i)) (bit_at moved i)
  parts i l =
      bit_at_or (bit_and w (bit_not w64 ones)) moved i
      ∙ ap (λ x. max x (bit_at moved i))
      (bit_at_and w (bit_not w64 ones) i ∙ ap (min (bit_at w i)) (bit_at_not w64 ones i ones_fit l))

  below : (a i : ℕ) → i < s → bit_at (a * 2 ^ s + 0) i ≡ 0
  below a i l = bit_at_cat_low a s 0 i l ∙ bit_at-zero i

  from : (a i : ℕ) → s ≤ i → bit_at (a * 2 ^ s + 0) i ≡ bit_at a (i - s)
  from a i le = bit_at_cat_high a s 0 i (pow_pos s) le

  pub written_here : (b : ℕ) → b < n → bit_at result (s + b) ≡ bit_at bits b
  written_here b l =
      let same : s + b - s ≡ b = omega arith in
      let one : bit_at ones (s + b) ≡ 1 =
      ap (λ x. bit_at x (s + b)) all_ones ∙ from (2 ^ n - 1) (s + b) (omega arith)
      ∙ ap (bit_at (2 ^ n - 1)) same ∙ bit_at_ones n b l in
      let its : bit_at moved (s + b) ≡ bit_at bits b =
      ap (λ x. bit_at x (s + b)) all_moved ∙ from bits (s + b) (omega arith) ∙ ap (bit_at bits) same in
      let all = parts (s + b) (omega (arith, l, within)) in
      omega (arith, all, one, its)

  pub written_below : (i : ℕ) → i < s → bit_at result i ≡ bit_at w i
  written_below i l =
      let none : bit_at ones i ≡ 0 = ap (λ x. bit_at x i) all_ones ∙ below (2 ^ n - 1) i l in
      let its : bit_at moved i ≡ 0 = ap (λ x. bit_at x i) all_moved ∙ below bits i l in
      let all = parts i (omega (arith, l, within)) in
      let is_bit = bit_at-lt w i in
      omega (arith, all, none, its, is_bit)

  pub written_above : (i : ℕ) → s + n ≤ i → i < 64 → bit_at result i ≡ bit_at w i
  written_above i past l =
      let none : bit_at ones i ≡ 0 =
      ap (λ x. bit_at x i) all_ones ∙ from (2 ^ n - 1) i (omega (arith, past))
      ∙ bit_at_ones_above n (i - s) (omega (arith, past)) in
      let its : bit_at moved i ≡ 0 =
      ap (λ x. bit_at x i) all_moved ∙ from bits i (omega (arith, past))
      ∙ bit_at_above bits n (i - s) fits (omega (arith, past)) in
      let all = parts i l in
      let is_bit = bit_at-lt w i in
      omega (arith, all, none, its, is_bit)

-- Words

-- a word after another one was written
pub other_word : (words : List ℕ) (p q v : ℕ) → q ≢ p → get_or (set words p v) q 0 ≡ get_or words q 0
other_word words p q v apart = get_or-set_other words p q v 0 apart

-- some bits of the words, which lie in one of them
pub bits_there : (words : List ℕ) (first count bit : ℕ)
    → IsWithinWord first count
    → is_set (get_or words (first / 64) 0 / 2 ^ (first % 64) % 2 ^ count) bit
    ≡ (nat_lt bit count && has_bit words (first + bit))
bits_there words first count bit within =
    field_bit (get_or words (first / 64) 0) (first % 64) count bit ∙ by_place
  where
    by_place : (nat_lt bit count && is_set (get_or words (first / 64) 0) (first % 64 + bit))
        ≡ (nat_lt bit count && has_bit words (first + bit))
    by_place =
        elim (cases_lt bit count) [
          | inl l ↦
              let word : first / 64 ≡ (first + bit) / 64 = omega (arith, within, l) in
              let place : first % 64 + bit ≡ (first + bit) % 64 = omega (arith, within, l) in
              λ i. nat_lt bit count && is_set (get_or words (word i) 0) (place i)
          | inr past ↦
              ap (λ t. t && is_set (get_or words (first / 64) 0) (first % 64 + bit)) (le-ltb bit count past)
              ∙ ap (λ t. t && has_bit words (first + bit)) (sym (le-ltb bit count past))
        ]

module _ (words : List ℕ) (first n bits : ℕ) (small : n < 64) (within : IsWithinWord first n) (fits : bits < 2 ^ n)
    (long : first / 64 < length words) where
  abbrev pub rewritten : List ℕ
  rewritten = set words (first / 64) (written (get_or words (first / 64) 0) (first % 64) n bits)

  its_word : get_or rewritten (first / 64) 0 ≡ written (get_or words (first / 64) 0) (first % 64) n bits
  its_word = get_or-set_same words (first / 64) (written (get_or words (first / 64) 0) (first % 64) n bits) 0 long

  pub set_here : (bit : ℕ) → bit < n → has_bit rewritten (first + bit) ≡ is_set bits bit
  set_here bit l =
      let word : (first + bit) / 64 ≡ first / 64 = omega (arith, within, l) in
      let place : (first + bit) % 64 ≡ first % 64 + bit = omega (arith, within, l) in
      (λ i. is_set (get_or rewritten (word i) 0) (place i))
      ∙ ap (λ w. is_set w (first % 64 + bit)) its_word
      ∙ ap (λ x. x == 1)
      (written_here (get_or words (first / 64) 0) (first % 64) n bits small within fits bit l)

  in_word : (bit : ℕ) → (first ≤ bit → first + n ≤ bit) → bit / 64 ≡ first / 64
      → bit_at (written (get_or words (first / 64) 0) (first % 64) n bits) (bit % 64)
      ≡ bit_at (get_or words (first / 64) 0) (bit % 64)
  in_word bit apart same =
      elim (cases_lt bit first) [
        | inl l ↦
            written_below (get_or words (first / 64) 0) (first % 64) n bits small within fits (bit % 64)
            (omega (arith, l, same))
        | inr le ↦
            let past = apart le in
            written_above (get_or words (first / 64) 0) (first % 64) n bits small within fits (bit % 64)
            (omega (arith, past, same, within)) (mod_below bit 64 (omega arith))
      ]

  pub set_others : (bit : ℕ) → (first ≤ bit → first + n ≤ bit) → has_bit rewritten bit ≡ has_bit words bit
  set_others bit apart =
      elim (cases_eq (bit / 64) (first / 64)) [
        | inl same ↦
            ap (λ p. is_set (get_or rewritten p 0) (bit % 64)) same
            ∙ ap (λ w. is_set w (bit % 64)) its_word
            ∙ ap (λ x. x == 1) (in_word bit apart same)
            ∙ ap (λ p. is_set (get_or words p 0) (bit % 64)) (sym same)
        | inr other ↦
            ap (λ w. is_set w (bit % 64))
            (other_word words (first / 64) (bit / 64)
            (written (get_or words (first / 64) 0) (first % 64) n bits) other)
      ]

-- Joining

module _ (init others : List ℕ) where
  -- the words before that place are joined, and the others as they were
  pub record JoinsSoFar (words : List ℕ) (place : ℕ) (grows : Bool) : Type 0 where
    pub counted : length words ≡ length init
    pub fits : (i : ℕ) → i < place → get_or words i 0 < 2 ^ 64
    pub before : (i : ℕ) → i < place → get_or words i 0 ≡ bit_or (get_or init i 0) (get_or others i 0)
    pub after : (i : ℕ) → place ≤ i → get_or words i 0 ≡ get_or init i 0
    pub same : grows ≡ false → words ≡ init
    pub no_less : total init ≤ total words
    pub more : grows ≡ true → total init < total words

  pub joins_none : JoinsSoFar init 0 false
  joins_none = record {
    counted = refl;
    fits = λ i l. absurd (omega (arith, l));
    before = λ i l. absurd (omega (arith, l));
    after = λ _ _. refl;
    same = λ _. refl;
    no_less = omega arith;
    more = λ e. absurd (true≢false (sym e));
  }

  module _ (words : List ℕ) (place : ℕ) (grows : Bool) (h : JoinsSoFar words place grows) where
    now_both : get_or words place 0 ≡ get_or init place 0
    now_both = h.after place (omega arith)

    pub keeps_word : (both : ℕ)
        → both ≡ bit_or (get_or words place 0) (get_or others place 0)
        → both < 2 ^ 64
        → both ≡ get_or words place 0
        → JoinsSoFar words (place + 1) grows
    keeps_word both is fits e = record {
      counted = h.counted;
      fits = λ i l. elim (cases_eq i place) [
        | inl same ↦ subst (λ j. get_or words j 0 < 2 ^ 64) (sym same) (subst (λ w. w < 2 ^ 64) e fits)
        | inr other ↦ h.fits i (omega (arith, l, other))
      ];
      before = λ i l. elim (cases_eq i place) [
        | inl same ↦
            subst (λ j. get_or words j 0 ≡ bit_or (get_or init j 0) (get_or others j 0)) (sym same)
            (sym e ∙ is ∙ ap (λ w. bit_or w (get_or others place 0)) now_both)
        | inr other ↦ h.before i (omega (arith, l, other))
      ];
      after = λ i le. h.after i (omega (arith, le));
      same = h.same;
      no_less = h.no_less;
      more = h.more;
    }

    module _ (both : ℕ) (is : both ≡ bit_or (get_or words place 0) (get_or others place 0))
        (within : place < length words) (fits : both < 2 ^ 64) (differs : both ≢ get_or words place 0) where
      larger : total words < total (set words place both)
      larger =
          let all = sum_by-set itself words place both 0 within in
          let least = le_or_l (get_or words place 0) (get_or others place 0) in
          omega (arith, all, least, is, differs)

      pub joins_word : JoinsSoFar (set words place both) (place + 1) true
      joins_word = record {
        counted = length-set words place both ∙ h.counted;
        fits = λ i l. elim (cases_eq i place) [
          | inl same ↦
              subst (λ j. get_or (set words place both) j 0 < 2 ^ 64) (sym same)
              (subst (λ w. w < 2 ^ 64) (sym (get_or-set_same words place both 0 within)) fits)
          | inr other ↦
              subst (λ w. w < 2 ^ 64) (sym (get_or-set_other words place i both 0 other))
              (h.fits i (omega (arith, l, other)))
        ];
        before = λ i l. elim (cases_eq i place) [
          | inl same ↦
              subst (λ j. get_or (set words place both) j 0 ≡ bit_or (get_or init j 0) (get_or others j 0)) (sym same)
              (get_or-set_same words place both 0 within ∙ is
              ∙ ap (λ w. bit_or w (get_or others place 0)) now_both)
          | inr other ↦ get_or-set_other words place i both 0 other ∙ h.before i (omega (arith, l, other))
        ];
        after = λ i le.
            let other : i ≢ place = λ e. absurd (omega (arith, le, e)) in
            get_or-set_other words place i both 0 other ∙ h.after i (omega (arith, le));
        same = λ e. absurd (true≢false e);
        no_less = let l = larger in let m = h.no_less in omega (arith, l, m);
        more = λ _. let l = larger in let m = h.no_less in omega (arith, l, m);
      }

-- The room that is left

total_below : (words : List ℕ) → ((i : ℕ) → get_or words i 0 < 2 ^ 64) → total words ≤ length words * (2 ^ 64 - 1)
total_below [] fits = omega arith
total_below (word ∷ words) fits =
    let first = fits 0 in
    let rest = total_below words (λ i. fits (suc i)) in
    let all : total (word ∷ words) ≡ word + total words = sum_by-cons itself word words in
    omega (arith, first, rest, all)

pub room_falls : (init others words : List ℕ) (place : ℕ) (grows : Bool)
    → JoinsSoFar init others words place grows
    → length init ≡ 13
    → 13 ≤ place
    → grows ≡ true
    → room words < room init
room_falls init others words place grows h long end e =
    let more = h.more e in
    let most = total_below words fits in
    let same : length words * (2 ^ 64 - 1) ≡ 13 * (2 ^ 64 - 1) = ap (λ n. n * (2 ^ 64 - 1)) (h.counted ∙ long) in
    omega (arith, more, most, same)
  where
    fits : (i : ℕ) → get_or words i 0 < 2 ^ 64
    fits i =
        elim (cases_lt i place) [
          | inl l ↦ h.fits i l
          | inr past ↦
              let counted = h.counted in
              subst (λ w. w < 2 ^ 64) (sym (get_or_past words i 0 (omega (arith, end, past, counted, long)))) (pow_pos 64)
        ]

-- No word has a bit past the last word
no_word : (words : List ℕ) (p bit : ℕ) → length words ≤ p → is_set (get_or words p 0) bit ≡ false
no_word words p bit past =
    ap (λ w. is_set w bit) (get_or_past words p 0 past) ∙ ap (λ x. x == 1) (bit_at-zero bit)

pub all_joined : (init others words : List ℕ) (place : ℕ) (grows : Bool)
    → JoinsSoFar init others words place grows
    → length init ≤ place
    → length others ≤ place
    → (bit : ℕ)
    → has_bit words bit ≡ (has_bit init bit || has_bit others bit)
all_joined init others words place grows h first second bit =
    let end = h.counted in
    elim (cases_lt (bit / 64) place) [
      | inl l ↦
          ap (λ w. is_set w (bit % 64)) (h.before (bit / 64) l)
          ∙ set_in_both (get_or init (bit / 64) 0) (get_or others (bit / 64) 0) (bit % 64)
      | inr past ↦
          no_word words (bit / 64) (bit % 64) (omega (arith, end, first, past))
          ∙ sym (λ i. no_word init (bit / 64) (bit % 64) (omega (arith, first, past)) i
          || no_word others (bit / 64) (bit % 64) (omega (arith, second, past)) i)
    ]

-- Words that have no more than others

pub all_within : (words others : List ℕ) (place : ℕ)
    → length words ≤ place
    → ((i bit : ℕ) → i < place → is_set (get_or words i 0) bit ≡ true → is_set (get_or others i 0) bit ≡ true)
    → (bit : ℕ)
    → has_bit words bit ≡ true
    → has_bit others bit ≡ true
all_within words others place end each bit e =
    elim (cases_lt (bit / 64) place) [
      | inl l ↦ each (bit / 64) (bit % 64) l e
      | inr past ↦ absurd (true≢false (sym e ∙ no_word words (bit / 64) (bit % 64) (omega (arith, end, past))))
    ]

-- the bit of a word, by its number in all words
pub word_bit : (words others : List ℕ) (place : ℕ)
    → ((bit : ℕ) → has_bit words bit ≡ true → has_bit others bit ≡ true)
    → (bit : ℕ)
    → is_set (get_or words place 0) bit ≡ true
    → (get_or words place 0 < 2 ^ 64)
    → is_set (get_or others place 0) bit ≡ true
word_bit words others place h bit e fits =
    elim (cases_lt bit 64) [
      | inl l ↦
          let word : (64 * place + bit) / 64 ≡ place = omega (arith, l) in
          let its : (64 * place + bit) % 64 ≡ bit = omega (arith, l) in
          subst (λ (p : ℕ × ℕ). is_set (get_or others p.0 0) p.1 ≡ true) (λ i. (word i, its i))
          (h (64 * place + bit)
          (subst (λ (p : ℕ × ℕ). is_set (get_or words p.0 0) p.1 ≡ true) (sym (λ i. (word i, its i))) e))
      | inr past ↦
          absurd (true≢false (sym e ∙ ap (λ x. x == 1) (bit_at_above (get_or words place 0) 64 bit fits past)))
    ]
