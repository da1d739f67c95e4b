-- How the program goes over the classes in a mask. That these tests say what `Masks.antt` says is proved.
use Rattle.std.specs.Prelude.{ℕ, ◌+◌, ◌^◌, ◌==◌, Bool, false, ◌&&◌, ◌||◌, List, [], ◌∷◌, Option, Some, None, nat_lt}
use Rattle.tree.specs.declared.edition.Edition.{Edition}
use Rattle.meaning.specs.Classes.{CancelClass, unset, opened, kept, safe, pending, GroupClass}
use Rattle.meaning.specs.FunctionFacts.{VariableKind}
use Rattle.bodies.specs.declared.bits.TheConstants.{FIRST_PENDING, KEPT}
use Rattle.bodies.specs.Bits.{group_bit}
use Rattle.bodies.specs.Masks.{is_set, classes_of}

abbrev pub has_known_bits : Edition → VariableKind → ℕ → Bool
has_known_bits edition kind mask = nat_lt mask (2 ^ classes_of edition kind)

abbrev pub is_in : ℕ → Option ℕ → Bool
is_in mask None = false
is_in mask (Some bit) = is_set mask bit

-- the bit of the class's number is set
abbrev pub has : {K : Type 0} → (K → Option ℕ) → ℕ → K → Bool
has bit_of mask k = is_in mask (bit_of k)

-- A bit is set that stands for the class

-- pending in the group g, where the first of these groups has that bit; groups from KEPT on have none
abbrev pub may_be_pending : ℕ → ℕ → ℕ → List ℕ → Bool
may_be_pending g mask bit [] = false
may_be_pending g mask bit (h ∷ hs) =
    nat_lt bit KEPT && (((g == h) && is_set mask bit) || may_be_pending g mask (bit + 1) hs)

abbrev pub may_be_cancel : List ℕ → ℕ → CancelClass → Bool
may_be_cancel groups mask unset = is_set mask 0
may_be_cancel groups mask opened = is_set mask 1
may_be_cancel groups mask kept = is_set mask KEPT
may_be_cancel groups mask safe = is_set mask 2
may_be_cancel groups mask (pending g) = may_be_pending g mask FIRST_PENDING groups

abbrev pub may_be_group : ℕ → GroupClass → Bool
may_be_group mask k = is_set mask (group_bit k)
