-- Of the returns of a body marks of fields say nothing.
use Rattle.std.proofs.Common.{◌≡◌, ℕ, zero, suc, not, List, [], ◌∷◌, refl, ap}
use Rattle.std.specs.List.{filter}
use Rattle.meaning.specs.FunctionFacts.{listed, own_returns}
use Rattle.meaning.specs.Mentions.{Mark, mentions, of_fields, runs_literal, returns, opens, closes, is_of_fields}

pub without_fields : (n : ℕ) (ms : List Mark)
    → own_returns n (filter (λ m. not (is_of_fields m)) ms) ≡ own_returns n ms
without_fields n [] = refl
without_fields n (mentions m ∷ ms) = without_fields n ms
without_fields n (of_fields site m ∷ ms) = without_fields n ms
without_fields n (runs_literal moment site at ∷ ms) = without_fields n ms
without_fields n (opens b ∷ ms) = without_fields (suc n) ms
without_fields zero (returns at es ∷ ms) = ap (λ l. listed es ∷ l) (without_fields zero ms)
without_fields (suc n) (returns at es ∷ ms) = without_fields (suc n) ms
without_fields zero (closes ∷ ms) = without_fields zero ms
without_fields (suc n) (closes ∷ ms) = without_fields n ms
