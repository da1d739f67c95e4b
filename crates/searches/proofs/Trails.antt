-- The nodes of a step and of those before it, as a loop collects them.
use Rattle.std.proofs.Common.{◌≡◌, ℕ, suc, ◌<◌, List, [], ◌∷◌, ◌++◌, length, Option, Some, None, sym, subst, arith}
use Rattle.std.proofs.lemmas.List.{append_assoc}
use Rattle.std.proofs.lemmas.Option.{slice_get_within}
use Rattle.std.specs.Prelude.{slice_get}
use Rattle.searches.specs.Searched.{ComeEarlier, IsTrail, only, longer}
use Rattle.searches.specs.declared.search.Step.{Step}

-- with what stands before the next step the nodes are the trail
abbrev pub IsLeft : List Step → ℕ → List ℕ → Option ℕ → Type 0
IsLeft steps last nodes None = IsTrail steps last nodes
IsLeft steps last nodes (Some n) =
    (n < length steps) × ((rest : List ℕ) → IsTrail steps n rest → IsTrail steps last (nodes ++ rest))

abbrev pub turns_left : Option ℕ → ℕ
turns_left None = 0
turns_left (Some n) = suc n

pub falls : (steps : List Step)
    → ComeEarlier steps
    → (n : ℕ) (s : Step)
    → slice_get steps n ≡ Some s
    → (before : Option ℕ)
    → s.before ≡ before
    → turns_left before < suc n
falls steps earlier n s at None is = omega arith
falls steps earlier n s at (Some j) is = let less = (earlier n j s at is).0 in omega (arith, less)

module _ (steps : List Step) (last : ℕ) (earlier : ComeEarlier steps) where
  pub goes_back : (nodes : List ℕ) (n : ℕ) (s : Step)
      → slice_get steps n ≡ Some s
      → IsLeft steps last nodes (Some n)
      → (before : Option ℕ)
      → s.before ≡ before
      → IsLeft steps last (nodes ++ s.node ∷ []) before
  goes_back nodes n s at h None is = h.1 (s.node ∷ []) (only at is)
  goes_back nodes n s at h (Some j) is =
      let e = earlier n j s at is in (
        slice_get_within steps j e.1 e.2,
        λ rest t.
            subst (IsTrail steps last) (sym (append_assoc nodes (s.node ∷ []) rest))
            (h.1 (s.node ∷ rest) (longer at is t)),
      )
