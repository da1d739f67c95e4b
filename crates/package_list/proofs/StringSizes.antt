-- Strings that are passed at once.
use Rattle.std.proofs.Common.{◌≡◌, ◌≢◌, ℕ, suc, ◌+◌, ◌<◌, ◌≤◌, ◌==◌, ◌∷◌, [], Bool, true, false, List, length, drop, get_or, if◌then◌else◌, refl, sym, ap, ◌∙◌, arith}
use Rattle.std.proofs.lemmas.Bool.{eq-eqb, ne_eqb}
use Rattle.std.proofs.lemmas.List.{drop-drop, drop_more, length-drop}
use Rattle.package_list.specs.Pieces.{bracketed_size, is_over, opened_after, place_after, quote}
use Rattle.package_list.specs.StringSizes.{is_outside, string_size}
use Rattle.package_list.specs.declared.cut.Place.{Place}
use Rattle.package_list.specs.declared.cut.Place.TheVariants.{Outside, InString, Taken}
use Rattle.package_list.proofs.Cuts.{if_false, if_true}

-- how many bytes there are to come where no string is open
abbrev pub after : ℕ → List ℕ → ℕ
after opened rest = if opened == 0 then 0 else bracketed_size Outside opened rest

pub after_none : (opened : ℕ) (rest : List ℕ) → opened ≡ 0 → after opened rest ≡ 0
after_none opened rest e = if_true 0 (bracketed_size Outside opened rest) (opened == 0) (eq-eqb opened 0 e)

pub after_some : (opened : ℕ) (rest : List ℕ) → opened ≢ 0 → after opened rest ≡ bracketed_size Outside opened rest
after_some opened rest e = if_false 0 (bracketed_size Outside opened rest) (opened == 0) (ne_eqb opened 0 e)

after_end : (opened : ℕ) → after opened [] ≡ 0
after_end opened = by_test (opened == 0) where
  by_test : (test : Bool) → (if test then 0 else bracketed_size Outside opened []) ≡ 0
  by_test true = refl
  by_test false = refl

-- a byte behind which something is open, or nothing
one_byte : (test : Bool) (size : ℕ) → (if test then 1 else suc size) ≡ suc (if test then 0 else size)
one_byte true size = refl
one_byte false size = refl

plus_one : (n : ℕ) → suc n ≡ 1 + n
plus_one n = omega arith

module _ (opened b : ℕ) (bytes : List ℕ) where
  -- the byte of a string after which it stands there
  pub after_place : (place : Place)
      → ((place : Place) → is_outside place ≡ false
      → bracketed_size place opened bytes ≡ string_size place bytes + after opened (drop (string_size place bytes) bytes))
      → (if is_over place opened then 1 else suc (bracketed_size place opened bytes))
      ≡ (if is_outside place then 1 else suc (string_size place bytes))
      + after opened (drop (if is_outside place then 1 else suc (string_size place bytes)) (b ∷ bytes))
  after_place Outside more = one_byte (opened == 0) (bracketed_size Outside opened bytes) ∙ plus_one _
  after_place InString more = let step = more InString refl in omega (arith, step)
  after_place Taken more = let step = more Taken refl in omega (arith, step)

-- what is left behind a string that is open
pub in_string : (bytes : List ℕ) (opened : ℕ) (place : Place) → is_outside place ≡ false
    → bracketed_size place opened bytes ≡ string_size place bytes + after opened (drop (string_size place bytes) bytes)
in_string [] opened place e = let none = after_end opened in omega (arith, none)
in_string (b ∷ bytes) opened Outside e = absurd (cc)
in_string (b ∷ bytes) opened InString e =
    after_place opened b bytes (place_after InString b) (in_string bytes opened)
in_string (b ∷ bytes) opened Taken e =
    after_place opened b bytes (place_after Taken b) (in_string bytes opened)

module _ (bytes : List ℕ) (index opened : ℕ) (inside : index < length bytes) where
  here : (size : List ℕ → ℕ) → size (drop index bytes) ≡ size (get_or bytes index 0 ∷ drop (index + 1) bytes)
  here size = ap size (drop_more bytes index 0 inside)

  at_quote : (b : ℕ) (rest : List ℕ) → b ≡ quote
      → bracketed_size Outside opened (b ∷ rest) ≡ suc (bracketed_size InString opened rest)
  at_quote b rest e = ap (λ c. bracketed_size Outside opened (c ∷ rest)) e

  -- a quote, and the string behind it
  pub quote_more : (behind : List ℕ) (size : ℕ) → get_or bytes index 0 ≡ quote → behind ≡ drop (index + 1) bytes
      → size ≡ string_size InString behind
      → bracketed_size Outside opened (drop index bytes) ≡ suc (size + after opened (drop (index + 1 + size) bytes))
  quote_more behind size e rest is =
      here (bracketed_size Outside opened)
      ∙ at_quote (get_or bytes index 0) (drop (index + 1) bytes) e
      ∙ ap (λ bs. suc (bracketed_size InString opened bs)) (sym rest)
      ∙ ap suc (in_string behind opened InString refl)
      ∙ ap (λ k. suc (k + after opened (drop k behind))) (sym is)
      ∙ ap (λ bs. suc (size + after opened (drop size bs))) rest
      ∙ ap (λ bs. suc (size + after opened bs)) (drop-drop size (index + 1) bytes)

  -- any other byte
  pub other_more : (now : ℕ) → get_or bytes index 0 ≢ quote → now ≡ opened_after Outside opened (get_or bytes index 0)
      → bracketed_size Outside opened (drop index bytes) ≡ suc (after now (drop (index + 1) bytes))
  other_more now other is =
      here (bracketed_size Outside opened)
      ∙ ap (λ place. if is_over place (opened_after Outside opened (get_or bytes index 0)) then 1
      else suc (bracketed_size place (opened_after Outside opened (get_or bytes index 0)) (drop (index + 1) bytes)))
      (if_false InString Outside (get_or bytes index 0 == quote) (ne_eqb (get_or bytes index 0) quote other))
      ∙ one_byte (opened_after Outside opened (get_or bytes index 0) == 0)
      (bracketed_size Outside (opened_after Outside opened (get_or bytes index 0)) (drop (index + 1) bytes))
      ∙ ap (λ n. suc (after n (drop (index + 1) bytes))) (sym is)

module _ (bytes : List ℕ) (index opened total : ℕ) (inside : index < length bytes)
    (stands : index + bracketed_size Outside opened (drop index bytes) ≡ total) where
  -- what was counted up to a string's end, with what is left, is the whole
  pub behind_string : (behind : List ℕ) (size now at : ℕ) → get_or bytes index 0 ≡ quote
      → behind ≡ drop (index + 1) bytes → size ≡ string_size InString behind → now ≡ opened → at ≡ index + 1 + size
      → at + after now (drop at bytes) ≡ total
  behind_string behind size now at e rest is same there =
      (λ i. there i + after (same i) (drop (there i) bytes))
      ∙ (let more = quote_more bytes index opened inside behind size e rest is in omega (arith, more, stands))

  -- and so up to another byte
  pub behind_byte : (now at : ℕ) → get_or bytes index 0 ≢ quote
      → now ≡ opened_after Outside opened (get_or bytes index 0) → at ≡ index + 1
      → at + after now (drop at bytes) ≡ total
  behind_byte now at other is there =
      (λ i. there i + after now (drop (there i) bytes))
      ∙ (let more = other_more bytes index opened inside now other is in omega (arith, more, stands))

-- the string lies within the text
pub within : (bytes behind : List ℕ) (index size at : ℕ) → index < length bytes → behind ≡ drop (index + 1) bytes
    → size ≤ length behind → at ≡ index + 1 + size → at ≤ length bytes
within bytes behind index size at inside rest fits there =
    let left = ap length rest ∙ length-drop (index + 1) bytes in
    omega (arith, inside, left, fits, there)
