-- The first line that says a module.
use Rattle.std.proofs.Common.{◌≡◌, ℕ, suc, ◌+◌, ◌<◌, Bool, true, false, not, cond, List, [], ◌∷◌, ◌++◌, length, drop, Option, Some, None, IfSome, Bor, refl, sym, ap, ◌∙◌, arith, inl, inr, codes}
use Rattle.std.proofs.lemmas.List.{append_assoc}
use Rattle.std.specs.List.{after_first, before_first, position_or_len}
use Rattle.std.specs.Option.{unwrap_or}
use Rattle.folders.specs.GoModules.{ends_line, module_from, module_of, IsAbove}

module _ (b : ℕ) (bs : List ℕ) (later : module_from false bs ≡ module_from true (after_first ends_line bs)) where
  one_more : 1 + position_or_len ends_line bs + 1 ≡ suc (position_or_len ends_line bs + 1)
  one_more = omega arith

  behind : (test : Bool) → module_from test bs
      ≡ module_from true (drop (cond (not test) (1 + position_or_len ends_line bs) 0 + 1) (b ∷ bs))
  behind true = refl
  behind false = later ∙ ap (λ n. module_from true (drop n (b ∷ bs))) (sym one_more)

-- inside a line nothing is said
pub skip : (text : List ℕ) → module_from false text ≡ module_from true (after_first ends_line text)
skip [] = refl
skip (b ∷ bs) = behind b bs (skip bs) (ends_line b)

pub goes_on : (text : List ℕ) → 0 < length text → module_of (before_first ends_line text) ≡ None
    → module_from true text ≡ module_from true (after_first ends_line text)
goes_on [] some none = absurd (omega (arith, some))
goes_on (b ∷ bs) some none = ap (λ o. unwrap_or o (module_from (ends_line b) bs)) none ∙ skip (b ∷ bs)

pub found : (text path : List ℕ) → 0 < length text → module_of (before_first ends_line text) ≡ Some path
    → module_from true text ≡ path
found [] path some is = absurd (omega (arith, some))
found (b ∷ bs) path some is = ap (λ o. unwrap_or o (module_from (ends_line b) bs)) is

pub nothing : (text : List ℕ) → length text ≡ 0 → module_from true text ≡ text
nothing [] none = refl
nothing (b ∷ bs) none = absurd (omega (arith, none))

-- what is above a folder that is above is above
pub above_above : (folder place above : List ℕ) → IsAbove folder place → IsAbove place above → IsAbove folder above
above_above folder place above (inl same) up = rw (← same) up
above_above folder place above (inr far) (inl same) = inr (far.0, far.1 ∙ ap (λ p. p ++ (codes "/" ++ far.0)) (sym same))
above_above folder place above (inr far) (inr up) =
    inr (
      up.0 ++ (codes "/" ++ far.0),
      far.1 ∙ (ap (λ p. p ++ (codes "/" ++ far.0)) up.1 ∙ append_assoc above (codes "/" ++ up.0) (codes "/" ++ far.0)),
    )

pub next_place : (folder place : List ℕ) (r : Option (Bor (List ℕ))) → IsAbove folder place
    → IfSome r (λ p. IsAbove place p.now) → IfSome r (λ p. IsAbove folder p.now)
next_place folder place None up h = h
next_place folder place (Some p) up h = above_above folder place p.now up h

-- how many bytes are left, and one more, where a folder is left
abbrev pub places_left : Option (Bor (List ℕ)) → ℕ
places_left None = 0
places_left (Some p) = suc (length p.now)

pub fewer_left : (n : ℕ) (r : Option (Bor (List ℕ))) → IfSome r (λ p. length p.now < n) → places_left r < suc n
fewer_left n None h = omega arith
fewer_left n (Some p) h = omega (arith, h)
