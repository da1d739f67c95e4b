-- What was told by the marks of a file so far.
use Rattle.std.proofs.Common.{◌≡◌, ℕ, List}
use Rattle.meaning.specs.OuterBlocks.{or_else}
use Rattle.meaning.specs.Tracked.{Known, Placed}
use Rattle.use_reasons.specs.UseReasons.{first_compared, first_cancel, first_group, first_pointed}
use Rattle.use_reasons.specs.ReasonViews.{reason_in}
use Rattle.use_reasons.specs.declared.uses.Told.{Told}

-- with what the others tell it is what all tell
pub record ToldSoFar (known : Known) (others all : List Placed) (told : Told) : Type 0 where
  pub compared : (at : ℕ) → or_else (reason_in told.compared at) (first_compared at others) ≡ first_compared at all
  pub cancels : (at : ℕ)
      → or_else (reason_in told.cancels at) (first_cancel known at others) ≡ first_cancel known at all
  pub groups : (at : ℕ) → or_else (reason_in told.groups at) (first_group known at others) ≡ first_group known at all
  pub pointers : (n : ℕ)
      → or_else (reason_in told.pointers n) (first_pointed known n others) ≡ first_pointed known n all
