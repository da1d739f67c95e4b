-- Sets of classes of one variable as masks: a class is in a mask where the bit of its number is set.
use Rattle.std.specs.Prelude.{ℕ, ◌≡◌, ◌==◌, ◌<◌, ◌^◌, Bool, true, Option, Some}
use Rattle.std.specs.Int.{bit_at}
use Rattle.tree.specs.declared.edition.Edition.{Edition}
use Rattle.tree.specs.declared.edition.Edition.TheVariants.{First, Second}
use Rattle.meaning.specs.FunctionFacts.{VariableKind, cancel, group}
use Rattle.meaning.specs.Classes.{GroupClass}
use Rattle.bodies.specs.declared.bits.TheConstants.{KEPT, CANCEL_CLASSES, GROUP_CLASSES}
use Rattle.bodies.specs.Bits.{group_bit}

abbrev pub is_set : ℕ → ℕ → Bool
is_set mask bit = bit_at mask bit == 1

-- How many classes there are: of a cancel function unset, open, safe and pending in each of twelve groups, and in the
-- second edition kept; of a group four.
abbrev pub cancel_classes : Edition → ℕ
cancel_classes First = KEPT
cancel_classes Second = CANCEL_CLASSES

abbrev pub classes_of : Edition → VariableKind → ℕ
classes_of edition cancel = cancel_classes edition
classes_of edition group = GROUP_CLASSES

-- no bit is set that stands for no class
abbrev pub HasKnownBits : Edition → VariableKind → ℕ → Type 0
HasKnownBits edition kind mask = mask < 2 ^ classes_of edition kind

-- each class of a group has a number
abbrev pub bit_of_group : GroupClass → Option ℕ
bit_of_group k = Some (group_bit k)

-- the bit of the class's number is set
pub record Has {K : Type 0} (bit_of : K → Option ℕ) (mask : ℕ) (k : K) : Type 0 where
  pub bit : ℕ
  pub is_bit : bit_of k ≡ Some bit
  pub is_in : is_set mask bit ≡ true

-- a bit is set that stands for the class
pub record MayBe {K : Type 0} (class_of : ℕ → Option K) (mask : ℕ) (k : K) : Type 0 where
  pub bit : ℕ
  pub is_in : is_set mask bit ≡ true
  pub is_class : class_of bit ≡ Some k

-- what the change makes of each class that the first mask has is in the second
abbrev pub GoesInto : {K : Type 0} → (ℕ → Option K) → (K → Option ℕ) → (K → K) → ℕ → ℕ → Type 0
GoesInto {K} class_of bit_of change before after = (k : K) → MayBe class_of before k → Has bit_of after (change k)
