-- The locals of a run before those whose blocks begin after an offset.
use Rattle.std.specs.Prelude.{ℕ, ◌≡◌, ◌≤◌, ◌<◌, List, Some, slice_get}
use Rattle.meaning.specs.Scopes.{LocalName}
use Rattle.names.specs.declared.order.Run.{Run}

abbrev pub AllBegun : List LocalName → ℕ → ℕ → ℕ → Type 0
AllBegun locals start end at =
    (i : ℕ) (l : LocalName) → start ≤ i → i < end → slice_get locals i ≡ Some l → l.block.start ≤ at

abbrev pub NoneBegun : List LocalName → ℕ → ℕ → ℕ → Type 0
NoneBegun locals start end at =
    (i : ℕ) (l : LocalName) → start ≤ i → i < end → slice_get locals i ≡ Some l → at < l.block.start

-- of the run all below the number have begun, and no other
pub record IsNumberBefore (locals : List LocalName) (run : Run) (at number : ℕ) : Type 0 where
  pub in_order : run.start ≤ number
  pub within : number ≤ run.end
  pub begun : AllBegun locals run.start number at
  pub later : NoneBegun locals number run.end at
