-- Numbers for what is known of a variable. Of a cancel variable 0 is unset, 1 open, 2 safe, FIRST_PENDING + k pending
-- in the k-th of some groups, counted from 0, and KEPT is kept. Of a group 0 is unmade, 1 idle, 2 live, and 3
-- awaited. There are numbers for as many groups as a body may have: where FIRST_PENDING + k is not below KEPT, what
-- is pending in the k-th group has none.
use Rattle.std.specs.Prelude.{ℕ, zero, suc, ◌≡◌, ◌==◌, if◌then◌else◌, List, [], ◌∷◌, Option, Some, None, option_map, nat_eq, nat_lt, slice_get}
use Rattle.std.specs.List.{IsDistinct}
use Rattle.bodies.specs.declared.bits.TheConstants.{FIRST_PENDING, KEPT}
use Rattle.meaning.specs.declared.TheConstants.{MOST_GROUPS}
use Rattle.meaning.specs.Tracked.{idle, live}
use Rattle.meaning.specs.Classes.{CancelClass, unset, opened, kept, safe, pending, GroupClass, unmade, in_state, awaited}

-- the number of the first of these groups that is g, where the first of all has the number n
abbrev pub bit_from : ℕ → ℕ → List ℕ → Option ℕ
bit_from n g [] = None
bit_from n g (h ∷ hs) = if nat_lt n KEPT then if g == h then Some n else bit_from (suc n) g hs else None

abbrev pub cancel_bit : List ℕ → CancelClass → Option ℕ
cancel_bit groups unset = Some 0
cancel_bit groups opened = Some 1
cancel_bit groups kept = Some KEPT
cancel_bit groups safe = Some 2
cancel_bit groups (pending g) = bit_from FIRST_PENDING g groups

-- the class whose number is so far behind FIRST_PENDING
abbrev pub class_behind : List ℕ → ℕ → Option CancelClass
class_behind groups k =
    if nat_lt k MOST_GROUPS then option_map pending (slice_get groups k)
    else if k == MOST_GROUPS then Some kept
    else None

abbrev pub cancel_class : List ℕ → ℕ → Option CancelClass
cancel_class groups zero = Some unset
cancel_class groups (suc zero) = Some opened
cancel_class groups (suc (suc zero)) = Some safe
cancel_class groups (suc (suc (suc k))) = class_behind groups k

-- the numbers of cancel variables are one for one, where no group stands twice
pub record AreInverseBits (groups : List ℕ) : Type 0 where
  pub there : (c : CancelClass) (n : ℕ) → cancel_bit groups c ≡ Some n → cancel_class groups n ≡ Some c
  pub back : IsDistinct nat_eq groups
      → (n : ℕ) (c : CancelClass)
      → cancel_class groups n ≡ Some c
      → cancel_bit groups c ≡ Some n

abbrev pub group_bit : GroupClass → ℕ
group_bit unmade = 0
group_bit (in_state idle) = 1
group_bit (in_state live) = 2
group_bit awaited = 3

abbrev pub group_class : ℕ → Option GroupClass
group_class zero = Some unmade
group_class (suc zero) = Some (in_state idle)
group_class (suc (suc zero)) = Some (in_state live)
group_class (suc (suc (suc zero))) = Some awaited
group_class (suc (suc (suc (suc n)))) = None

-- the numbers of groups are one for one
pub record AreInverseGroupBits : Type 0 where
  pub there : (c : GroupClass) → group_class (group_bit c) ≡ Some c
  pub back : (n : ℕ) (c : GroupClass) → group_class n ≡ Some c → group_bit c ≡ n
