-- What came of items, put in its places.
use Rattle.std.proofs.Common.{◌≡◌, ℕ, zero, suc, List, [], ◌∷◌, ◌++◌, Option, Some, None, Vec, length, replicate, set, take, subst}
use Rattle.std.proofs.Math.Seq.{take-append_seam}
use Rattle.std.specs.Prelude.{IfSome, slice_get}
use Rattle.std.specs.List.{All, AllByRecursion}
use Rattle.std.specs.declared.alloc.Global.{Global}
use Rattle.std.proofs.lemmas.List.Elements.{recursion_from_All}
use Rattle.workers.specs.Outcomes.{placed, placed_all, AreOutcomes, IsOutcomeIn}
use Rattle.workers.specs.declared.places.Outcome.{Outcome}

module _ {T X : Type 0} (R : T → X → Type 0) where
  nothing_placed : (items : List T) → AreOutcomes R items (replicate (length items) None)
  nothing_placed [] = tt
  nothing_placed (x ∷ xs) = (tt, nothing_placed xs)

  at_its_place : (items : List T) (outcomes : List (Option X)) (n : ℕ) (x : X)
      → IfSome (slice_get items n) (λ item. R item x)
      → AreOutcomes R items outcomes
      → AreOutcomes R items (set outcomes n (Some x))
  at_its_place [] [] n x is are = are
  at_its_place [] (o ∷ os) n x is are = absurd are
  at_its_place (i ∷ is) [] n x h are = absurd are
  at_its_place (i ∷ is) (o ∷ os) zero x h are = (h, are.1)
  at_its_place (i ∷ is) (o ∷ os) (suc n) x h are = (are.0, at_its_place is os n x h are.1)

  in_their_places : (items : List T) (done : List (Outcome X)) (outcomes : List (Option X))
      → AllByRecursion (IsOutcomeIn R items) done
      → AreOutcomes R items outcomes
      → AreOutcomes R items (placed done outcomes)
  in_their_places items [] outcomes came are = are
  in_their_places items (d ∷ ds) outcomes came are =
      in_their_places items ds (set outcomes d.number (Some d.outcome)) came.1
      (at_its_place items outcomes d.number d.outcome came.0 are)

  all_in_places : (items : List T) (shares : List (Vec (Outcome X) Global)) (outcomes : List (Option X))
      → AllByRecursion (λ (share : Vec (Outcome X) Global). AllByRecursion (IsOutcomeIn R items) share.items) shares
      → AreOutcomes R items outcomes
      → AreOutcomes R items (placed_all shares outcomes)
  all_in_places items [] outcomes came are = are
  all_in_places items (s ∷ ss) outcomes came are =
      all_in_places items ss (placed s.items outcomes) came.1 (in_their_places items s.items outcomes came.0 are)

  -- the outcomes of the items, where each share has some of them
  pub are_outcomes : (items queued : List T) (shares : List (Vec (Outcome X) Global)) → queued ≡ items
      → All (λ (share : Vec (Outcome X) Global). AllByRecursion (IsOutcomeIn R queued) share.items) shares
      → AreOutcomes R items (placed_all shares (replicate (length items) None))
  are_outcomes items queued shares same came =
      subst (λ is. AreOutcomes R is (placed_all shares (replicate (length is) None))) same
      (all_in_places queued shares (replicate (length queued) None) (recursion_from_All _ shares came) (nothing_placed queued))

-- a list that was lent as a slice is the slice that comes back
pub as_lent : {A : Type 0} (n : ℕ) (slice rest : List A) → length slice ≡ n → take n (slice ++ rest) ≡ slice
as_lent n slice rest as_many = subst (λ m. take m (slice ++ rest) ≡ slice) as_many (take-append_seam slice rest)
