-- Maps of what certificates give, in which the first value of a key counts.
use Rattle.std.proofs.Common.{◌≡◌, Bool, true, false, if◌then◌else◌, Option, Some, None, option_map, refl, ap, ◌∙◌}
use Rattle.meaning.specs.OuterBlocks.{or_else}
use Rattle.names.proofs.Adding.{map-or_else}

-- a value that was kept if its key had none, under a test of its key
module _ {V W : Type 0} (view : V → W) where
  pub kept_so : (before : Option V) (test : Bool) (value : V) (seen : W) → view value ≡ seen
      → option_map view (or_else before (if test then Some value else None))
      ≡ or_else (option_map view before) (if test then Some seen else None)
  kept_so before test value seen is =
      map-or_else view before (if test then Some value else None)
      ∙ ap (or_else (option_map view before)) (by test)
    where
      by : (t : Bool) → option_map view (if t then Some value else None) ≡ (if t then Some seen else None)
      by true = ap (λ x. Some x) is
      by false = refl
