-- Classes and their numbers, there and back.
use Rattle.std.proofs.Common.{◌≡◌, ℕ, zero, suc, ◌+◌, ◌<◌, ◌≤◌, Bool, true, false, if◌then◌else◌, List, [], ◌∷◌, length, Option, Some, None, option_map, nat_eq, Contains, refl, sym, ap, ◌∙◌, subst, true≢false, arith, inl, inr}
use Rattle.std.specs.Prelude.{◌==◌, nat_lt, slice_get}
use Rattle.std.specs.List.{IsDistinct, AllByRecursion}
use Rattle.std.proofs.lemmas.Bool.{ltb-true, lt-ltb, le-ltb}
use Rattle.std.proofs.lemmas.Bool.Decides.{eqb_tells}
use Rattle.std.proofs.lemmas.Option.{none-some, same_Some, slice_get_within, get_or_from_slice_get}
use Rattle.meaning.proofs.Membership.{contains_nil, contains_cases}
use Rattle.meaning.specs.Tracked.{idle, live}
use Rattle.meaning.specs.Classes.{CancelClass, unset, opened, kept, safe, pending, GroupClass, unmade, in_state, awaited}
use Rattle.bodies.specs.PendingGroups.{number_itself, same_number, stands}
use Rattle.bodies.specs.Bits.{bit_from, cancel_bit, class_behind, cancel_class, AreInverseBits, group_bit, group_class, AreInverseGroupBits}

-- Numbers behind those of the first three classes

if_true : {A : Type 0} (b : Bool) (x y : A) → b ≡ true → (if b then x else y) ≡ x
if_true true x y e = refl
if_true false x y e = absurd (true≢false (sym e))

if_false : {A : Type 0} (b : Bool) (x y : A) → b ≡ false → (if b then x else y) ≡ y
if_false true x y e = absurd (true≢false e)
if_false false x y e = refl

-- there is no number of a group from that of what is kept on
pub none_past : (n g : ℕ) (hs : List ℕ) → 15 ≤ n → bit_from n g hs ≡ None
none_past n g [] l = refl
none_past n g (h ∷ hs) l =
    if_false (nat_lt n 15) (if g == h then Some n else bit_from (suc n) g hs) None (le-ltb n 15 l)

-- what stands there is pending in a group
pub behind_pending : (groups : List ℕ) (k : ℕ) → k < 12
    → class_behind groups k ≡ option_map pending (slice_get groups k)
behind_pending groups k l =
    if_true (nat_lt k 12) (option_map pending (slice_get groups k)) (if k == 12 then Some kept else None) (lt-ltb k 12 l)

-- a class that stands there
pub data StandsBehind (groups : List ℕ) (k : ℕ) (c : CancelClass) : Type 0 where
  is_kept : k ≡ 12 → c ≡ kept → StandsBehind groups k c
  is_pending : (g : ℕ) → k < 12 → slice_get groups k ≡ Some g → c ≡ pending g → StandsBehind groups k c

module _ (groups : List ℕ) (k : ℕ) (c : CancelClass) where
  of_group : (o : Option ℕ) → k < 12 → slice_get groups k ≡ o → option_map pending o ≡ Some c → StandsBehind groups k c
  of_group None l at e = absurd (none-some c e)
  of_group (Some g) l at e = is_pending g l at (sym (same_Some (pending g) c e))

  at_most : (b : Bool) → (b ≡ true → k ≡ 12) → (if b then Some kept else None) ≡ Some c → StandsBehind groups k c
  at_most true same e = is_kept (same refl) (sym (same_Some kept c e))
  at_most false same e = absurd (none-some c e)

  below_most : (b : Bool)
      → (b ≡ true → k < 12)
      → (if b then option_map pending (slice_get groups k) else if k == 12 then Some kept else None) ≡ Some c
      → StandsBehind groups k c
  below_most true small e = of_group (slice_get groups k) (small refl) refl e
  below_most false small e = at_most (k == 12) (same_number k 12) e

  pub stands_behind : class_behind groups k ≡ Some c → StandsBehind groups k c
  stands_behind e = below_most (nat_lt k 12) (ltb-true k 12) e

-- a number tells what has it
told : (groups : List ℕ) (c : CancelClass) (n : ℕ) → cancel_bit groups c ≡ Some n → cancel_class groups n ≡ Some c
told groups unset n e = subst (λ m. cancel_class groups m ≡ Some unset) (same_Some 0 n e) refl
told groups opened n e = subst (λ m. cancel_class groups m ≡ Some opened) (same_Some 1 n e) refl
told groups kept n e = subst (λ m. cancel_class groups m ≡ Some kept) (same_Some 15 n e) refl
told groups safe n e = subst (λ m. cancel_class groups m ≡ Some safe) (same_Some 2 n e) refl
told groups (pending g) n e =
    let it = stands 3 g groups n e in
    let is = it.counted in
    let below = it.below in
    let same : suc (suc (suc it.k)) ≡ n = omega (arith, is) in
    subst (λ m. cancel_class groups m ≡ Some (pending g)) same
    (behind_pending groups it.k (omega (arith, is, below)) ∙ ap (option_map pending) it.at)

-- Back

differs : (g h : ℕ) (hs : List ℕ) (k : ℕ) → AllByRecursion (λ y. nat_eq h y ≡ false) hs → slice_get hs k ≡ Some g
    → nat_eq h g ≡ false
differs g h [] k all e = absurd (none-some g e)
differs g h (x ∷ xs) zero all e = subst (λ y. nat_eq h y ≡ false) (same_Some x g e) all.0
differs g h (x ∷ xs) (suc k) all e = differs g h xs k all.1 e

other_number : (a b : ℕ) → nat_eq b a ≡ false → (a == b) ≡ false
other_number a b e =
    elim (eqb_tells a b) [
      | inl c ↦ absurd (true≢false (sym (subst (λ x. nat_eq b x ≡ true) (sym c.1) (number_itself b)) ∙ e))
      | inr c ↦ c.0
    ]

found : (n g : ℕ) (hs : List ℕ) (k m : ℕ) → IsDistinct nat_eq hs → m ≡ n + k → m < 15 → slice_get hs k ≡ Some g
    → bit_from n g hs ≡ Some m
unfolding IsDistinct
found n g [] k m d is fits e = absurd (none-some g e)
found n g (h ∷ hs) zero m d is fits e =
    if_true (nat_lt n 15) (if g == h then Some n else bit_from (suc n) g hs) None
    (lt-ltb n 15 (omega (arith, is, fits)))
    ∙ if_true (g == h) (Some n) (bit_from (suc n) g hs)
    (subst (λ x. (g == x) ≡ true) (sym (same_Some h g e)) (number_itself g))
    ∙ ap Some (omega (arith, is))
found n g (h ∷ hs) (suc k) m d is fits e =
    if_true (nat_lt n 15) (if g == h then Some n else bit_from (suc n) g hs) None
    (lt-ltb n 15 (omega (arith, is, fits)))
    ∙ if_false (g == h) (Some n) (bit_from (suc n) g hs) (other_number g h (differs g h hs k d.0 e))
    ∙ found (suc n) g hs k m d.1 (omega (arith, is)) fits e

numbered_behind : (groups : List ℕ) (k : ℕ) (c : CancelClass) → IsDistinct nat_eq groups → StandsBehind groups k c
    → cancel_bit groups c ≡ Some (suc (suc (suc k)))
numbered_behind groups k c d (is_kept same is) =
    ap (cancel_bit groups) is ∙ ap Some (let bit : 15 ≡ suc (suc (suc k)) = omega (arith, same) in bit)
numbered_behind groups k c d (is_pending g l at is) =
    ap (cancel_bit groups) is ∙ found 3 g groups k (suc (suc (suc k))) d (omega arith) (omega (arith, l)) at

-- the number of what is told has it
numbered : (groups : List ℕ) → IsDistinct nat_eq groups → (n : ℕ) (c : CancelClass)
    → cancel_class groups n ≡ Some c → cancel_bit groups c ≡ Some n
numbered groups d zero c e = subst (λ x. cancel_bit groups x ≡ Some 0) (same_Some unset c e) refl
numbered groups d (suc zero) c e = subst (λ x. cancel_bit groups x ≡ Some 1) (same_Some opened c e) refl
numbered groups d (suc (suc zero)) c e = subst (λ x. cancel_bit groups x ≡ Some 2) (same_Some safe c e) refl
numbered groups d (suc (suc (suc k))) c e = numbered_behind groups k c d (stands_behind groups k c e)

pub cancel_inverse : (groups : List ℕ) → AreInverseBits groups
cancel_inverse groups = record { there = told groups; back = numbered groups }

-- Which classes have numbers, and how great these are

pub cancel_within : (groups : List ℕ) (c : CancelClass) (n : ℕ) → cancel_bit groups c ≡ Some n → n < 16
cancel_within groups unset n e = let is = same_Some 0 n e in omega (arith, is)
cancel_within groups opened n e = let is = same_Some 1 n e in omega (arith, is)
cancel_within groups kept n e = let is = same_Some 15 n e in omega (arith, is)
cancel_within groups safe n e = let is = same_Some 2 n e in omega (arith, is)
cancel_within groups (pending g) n e = let below = (stands 3 g groups n e).below in omega (arith, below)

-- a number that tells a class is among those of a mask
pub class_within : (groups : List ℕ) (n : ℕ) (c : CancelClass) → cancel_class groups n ≡ Some c → n < 16
class_within groups zero c e = omega arith
class_within groups (suc zero) c e = omega arith
class_within groups (suc (suc zero)) c e = omega arith
class_within groups (suc (suc (suc k))) c e = behind (stands_behind groups k c e)
  where
    behind : StandsBehind groups k c → suc (suc (suc k)) < 16
    behind (is_kept same is) = omega (arith, same)
    behind (is_pending g l at is) = omega (arith, l)

first_or_another : (n g : ℕ) (hs : List ℕ) (a b : Bool)
    → a ≡ true
    → (b ≡ false → (m : ℕ) × (bit_from (suc n) g hs ≡ Some m))
    → (m : ℕ) × ((if a then if b then Some n else bit_from (suc n) g hs else None) ≡ Some m)
first_or_another n g hs false b e rest = absurd (true≢false (sym e))
first_or_another n g hs true true e rest = (n, refl)
first_or_another n g hs true false e rest = rest refl

differ : (a b : ℕ) → (a == b) ≡ false → b ≡ a → ⊥
differ a b e is = true≢false (sym (subst (λ x. (a == x) ≡ true) (sym is) (number_itself a)) ∙ e)

among_found : (n g : ℕ) (hs : List ℕ) → Contains hs g → n + length hs ≤ 15 → (m : ℕ) × (bit_from n g hs ≡ Some m)
among_found n g [] h fits = absurd (contains_nil g h)
among_found n g (x ∷ hs) h fits =
    first_or_another n g hs (nat_lt n 15) (g == x) (lt-ltb n 15 (omega (arith, fits)))
    (λ e. elim (contains_cases x g hs h) [
      | inl is ↦ absurd (differ g x e is)
      | inr later ↦ among_found (suc n) g hs later (omega (arith, fits))
    ])

-- where there are no more groups than a body may have, what is pending in one of them has a number
pub pending_found : (groups : List ℕ) (g : ℕ)
    → Contains groups g
    → length groups ≤ 12
    → (n : ℕ) × (cancel_bit groups (pending g) ≡ Some n)
pending_found groups g h fits = among_found 3 g groups h (omega (arith, fits))

-- Groups

pub group_within : (c : GroupClass) → group_bit c < 4
group_within unmade = omega arith
group_within (in_state idle) = omega arith
group_within (in_state live) = omega arith
group_within awaited = omega arith

group_told : (c : GroupClass) → group_class (group_bit c) ≡ Some c
group_told unmade = refl
group_told (in_state idle) = refl
group_told (in_state live) = refl
group_told awaited = refl

group_numbered : (n : ℕ) (c : GroupClass) → group_class n ≡ Some c → group_bit c ≡ n
group_numbered zero c e = subst (λ x. group_bit x ≡ 0) (same_Some unmade c e) refl
group_numbered (suc zero) c e = subst (λ x. group_bit x ≡ 1) (same_Some (in_state idle) c e) refl
group_numbered (suc (suc zero)) c e = subst (λ x. group_bit x ≡ 2) (same_Some (in_state live) c e) refl
group_numbered (suc (suc (suc zero))) c e = subst (λ x. group_bit x ≡ 3) (same_Some awaited c e) refl
group_numbered (suc (suc (suc (suc n)))) c e = absurd (none-some c e)

pub group_inverse : AreInverseGroupBits
group_inverse = record { there = group_told; back = group_numbered }
