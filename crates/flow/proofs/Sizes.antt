-- The sizes of codes.
use Rattle.std.proofs.Common.{◌≡◌, ℕ, ◌+◌, List, [], ◌∷◌, Option, Some, None, refl, arith}
use Rattle.meaning.specs.Code.{Code, skip, then_code}
use Rattle.code.specs.CodeViews.{backward, or_another, one_of}
use Rattle.flow.specs.GraphOfCode.{size}
use Rattle.flow.specs.GraphViews.{total}

module _ {E : Type 0} where
  size_onto : (cs : List (Code E)) (rest : Code E) → size (backward cs rest) ≡ total cs + size rest
  size_onto [] rest = omega arith
  size_onto (c ∷ cs) rest = omega (arith, size_onto cs (then_code c rest))

  pub size_backward : (cs : List (Code E)) → size (backward cs skip) ≡ total cs
  size_backward cs = omega (arith, size_onto cs skip)

  abbrev pub size_of : Option (Code E) → ℕ
  size_of None = 0
  size_of (Some c) = size c

  pub size_another : (c : Code E) (others : Option (Code E)) → size (or_another c others) ≡ size c + size_of others
  size_another c None = omega arith
  size_another c (Some d) = refl

  size_ways : (cs : List (Code E)) (others : Option (Code E)) → size (one_of cs others) ≡ total cs + size_of others
  size_ways [] None = refl
  size_ways [] (Some d) = omega arith
  size_ways (c ∷ cs) others = omega (arith, size_ways cs (Some (or_another c others)), size_another c others)

  pub size_one_of : (cs : List (Code E)) → size (one_of cs None) ≡ total cs
  size_one_of cs = omega (arith, size_ways cs None)
