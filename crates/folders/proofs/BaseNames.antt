-- What stands in a name around its last slash.
use Rattle.std.proofs.Common.{◌≡◌, ◌≢◌, ℕ, suc, ◌<◌, ◌==◌, ◌||◌, Bool, true, false, if◌then◌else◌, List, [], ◌∷◌, ◌++◌, length, get_or, take, drop, Option, Some, None, Bor, MatchOption, inr, refl, sym, ap, ◌∙◌, arith, rules}
use Rattle.std.proofs.lemmas.List.{length-append, take-append-drop}
use Rattle.std.proofs.lemmas.Str.Pattern.{drop_at_char, NoCharPasses-char}
use Rattle.std.specs.Prelude.{⊤}
use Rattle.std.specs.Str.Pattern.{RFindsChar, SplitsAroundMatch}
use Rattle.folders.specs.GoModules.{IsAbove}
use Rattle.folders.specs.UnitFiles.{base_name, has_slash, slash}

-- no byte of the text is a slash
abbrev HasNone : List ℕ → Type 0
HasNone bs = (i : ℕ) → i < length bs → get_or bs i 0 ≢ slash

unequal : (b : ℕ) → b ≢ slash → (b == slash) ≡ false
unequal b other = search rules

or_true : (t : Bool) → (t || true) ≡ true
or_true true = refl
or_true false = refl

has_none : (bs : List ℕ) → HasNone bs → has_slash bs ≡ false
has_none [] none = refl
has_none (b ∷ bs) none =
    ap (λ t. t || has_slash bs) (unequal b (none 0 (omega arith)))
    ∙ has_none bs (λ i inside. none (suc i) (omega (arith, inside)))

has_one : (front base : List ℕ) → has_slash (front ++ (slash ∷ base)) ≡ true
has_one [] base = refl
has_one (b ∷ bs) base = ap (λ t. b == slash || t) (has_one bs base) ∙ or_true (b == slash)

whole : (bs : List ℕ) → HasNone bs → base_name bs ≡ bs
whole [] none = refl
whole (b ∷ bs) none = ap (λ t. if t then base_name bs else b ∷ bs) (has_none (b ∷ bs) none)

behind : (front base : List ℕ) → HasNone base → base_name (front ++ (slash ∷ base)) ≡ base
behind [] base none = whole base none
behind (b ∷ bs) base none =
    ap (λ t. if t then base_name (bs ++ (slash ∷ base)) else b ∷ (bs ++ (slash ∷ base))) (has_one (b ∷ bs) base)
    ∙ behind bs base none

-- a name that is split at its last slash
module _ (name front base : List ℕ) (found : SplitsAroundMatch (RFindsChar slash) name front base) where
  pub parts : name ≡ front ++ (slash ∷ base)
  parts =
      let at = found.0 in
      let hit = found.2 in
      sym (take-append-drop at name)
      ∙ (ap (λ t. take at name ++ t) (drop_at_char slash name at found.1 hit.1 (omega arith))
      ∙ (ap (λ t. t ++ (slash ∷ drop found.1 name)) (sym found.3) ∙ ap (λ t. front ++ (slash ∷ t)) (sym found.4)))

  none_behind : HasNone base
  none_behind = λ i inside.
      NoCharPasses-char slash base i (rw found.4 found.2.0) (omega arith) inside

  base_behind : base ≡ base_name name
  base_behind = sym (ap base_name parts ∙ behind front base none_behind)

pub base_is : (name : List ℕ) (r : Option (Bor (List ℕ) × Bor (List ℕ)))
    → MatchOption r (RFindsChar slash name None) (λ x. SplitsAroundMatch (RFindsChar slash) name x.0.now x.1.now)
    → MatchOption r (name ≡ base_name name) (λ x. x.1.now ≡ base_name name)
base_is name None none = sym (whole name (λ i inside. NoCharPasses-char slash name i none (omega arith) inside))
base_is name (Some x) found = base_behind name x.0.now x.1.now found

-- what stands before it is the folder of the name, and where there is none, that is the current one
pub folder_is : (name : List ℕ) (r : Option (Bor (List ℕ) × Bor (List ℕ)))
    → MatchOption r (RFindsChar slash name None) (λ x. SplitsAroundMatch (RFindsChar slash) name x.0.now x.1.now)
    → MatchOption r (has_slash name ≡ false) (λ x. name ≡ x.0.now ++ (slash ∷ base_name name))
folder_is name None none = has_none name (λ i inside. NoCharPasses-char slash name i none (omega arith) inside)
folder_is name (Some x) found =
    parts name x.0.now x.1.now found
    ∙ ap (λ b. x.0.now ++ (slash ∷ b)) (base_behind name x.0.now x.1.now found)

-- what stands before its last slash is a front of it, and shorter
pub above_is : (name : List ℕ) (r : Option (Bor (List ℕ) × Bor (List ℕ)))
    → MatchOption r (RFindsChar slash name None) (λ x. SplitsAroundMatch (RFindsChar slash) name x.0.now x.1.now)
    → MatchOption r ⊤ (λ x. IsAbove name x.0.now × (length x.0.now < length name))
above_is name None none = tt
above_is name (Some x) found =
    let is = parts name x.0.now x.1.now found in
    (inr (x.1.now, is), omega (arith, ap length is, length-append x.0.now (slash ∷ x.1.now)))
