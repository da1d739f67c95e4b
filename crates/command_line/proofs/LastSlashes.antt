-- A name that is split at its last slash.
use Rattle.std.proofs.Common.{◌≡◌, ◌≢◌, ℕ, suc, ◌<◌, ◌==◌, Bool, true, false, if◌then◌else◌, List, [], ◌∷◌, ◌++◌, length, get_or, take, drop, Option, Some, None, Bor, MatchOption, option_map, refl, sym, ap, ◌∙◌, arith, rules}
use Rattle.std.proofs.lemmas.List.{take-append-drop}
use Rattle.std.proofs.lemmas.Str.Pattern.{drop_at_char, NoCharPasses-char}
use Rattle.std.specs.Str.Pattern.{RFindsChar, SplitsAroundMatch}
use Rattle.command_line.specs.VetWords.{slash, split_behind, split_last}

-- no byte of the text is a slash
abbrev HasNone : List ℕ → Type 0
HasNone bs = (i : ℕ) → i < length bs → get_or bs i 0 ≢ slash

unequal : (b : ℕ) → b ≢ slash → (b == slash) ≡ false
unequal b other = search rules

none_split : (bs : List ℕ) → HasNone bs → split_last bs ≡ None
none_split [] none = refl
none_split (b ∷ bs) none =
    ap (split_behind b bs) (none_split bs (λ i inside. none (suc i) (omega (arith, inside))))
    ∙ ap (λ t. if t then Some ([], bs) else None) (unequal b (none 0 (omega arith)))

split_there : (front base : List ℕ) → HasNone base → split_last (front ++ (slash ∷ base)) ≡ Some (front, base)
split_there [] base none = ap (split_behind slash base) (none_split base none)
split_there (b ∷ bs) base none = ap (split_behind b (bs ++ (slash ∷ base))) (split_there bs base none)

module _ (name front base : List ℕ) (found : SplitsAroundMatch (RFindsChar slash) name front base) where
  parts : name ≡ front ++ (slash ∷ base)
  parts =
      let at = found.0 in
      let hit = found.2 in
      sym (take-append-drop at name)
      ∙ (ap (λ t. take at name ++ t) (drop_at_char slash name at found.1 hit.1 (omega arith))
      ∙ (ap (λ t. t ++ (slash ∷ drop found.1 name)) (sym found.3) ∙ ap (λ t. front ++ (slash ∷ t)) (sym found.4)))

  none_behind : HasNone base
  none_behind = λ i inside. NoCharPasses-char slash base i (rw found.4 found.2.0) (omega arith) inside

pub split_is : (name : List ℕ) (r : Option (Bor (List ℕ) × Bor (List ℕ)))
    → MatchOption r (RFindsChar slash name None) (λ x. SplitsAroundMatch (RFindsChar slash) name x.0.now x.1.now)
    → option_map (λ x. (x.0.now, x.1.now)) r ≡ split_last name
split_is name None none =
    sym (none_split name (λ i inside. NoCharPasses-char slash name i none (omega arith) inside))
split_is name (Some x) found =
    sym (ap split_last (parts name x.0.now x.1.now found)
    ∙ split_there x.0.now x.1.now (none_behind name x.0.now x.1.now found))
