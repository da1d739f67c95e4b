-- What an event makes of the number of a class is the number of a class: below 16, whatever the event is.
use Rattle.std.specs.Prelude.{ℕ, ◌≡◌, ◌<◌, List, Option, Some, None, option_and_then, unwrap_or}
use Rattle.std.proofs.Common.{refl, arith}
use Rattle.std.proofs.lemmas.Option.{same_Some}
use Rattle.bodies.proofs.ClassNumbers.{cancel_within, group_within}
use Rattle.bodies.specs.BitSteps.{bit_after}
use Rattle.bodies.specs.Bits.{cancel_bit, cancel_class, group_bit, group_class}
use Rattle.bodies.specs.Masks.{bit_of_group}
use Rattle.meaning.specs.BodyEvents.{Variable}
use Rattle.meaning.specs.Classes.{Promises, change_cancel, GroupClass, change_group}
use Rattle.meaning.specs.FunctionFacts.{VariableKind, cancel, group}
use Rattle.meaning.specs.Uses.{Event}
use Rattle.searches.specs.declared.carry.TheConstants.{CLASSES}
use Rattle.ways.specs.ClassSteps.{step_by, class_step}

or_within : (o : Option ℕ) (k : ℕ) → ((n : ℕ) → o ≡ Some n → n < 16) → k < 16 → unwrap_or o k < 16
or_within None k all less = less
or_within (Some n) k all less = all n refl

after_within : {K : Type 0} (class_of : ℕ → Option K) (bit_of : K → Option ℕ) (change : K → K)
    → ((c : K) (n : ℕ) → bit_of c ≡ Some n → n < 16)
    → (k : ℕ)
    → k < 16
    → bit_after class_of bit_of change k < 16
after_within {K} class_of bit_of change all k less = of_class (class_of k)
  where
    of_class : (o : Option K) → unwrap_or (option_and_then (λ c. bit_of (change c)) o) k < 16
    of_class None = less
    of_class (Some c) = or_within (bit_of (change c)) k (λ n e. all (change c) n e) less

group_bits_within : (c : GroupClass) (n : ℕ) → bit_of_group c ≡ Some n → n < 16
group_bits_within c n e =
    let few = group_within c in
    let is = same_Some (group_bit c) n e in
    omega (arith, few, is)

by_kind : (kind : VariableKind) (p : Promises) (groups : List ℕ) (number : ℕ) (e : Event) (k : ℕ)
    → k < CLASSES
    → step_by kind p groups number e k < CLASSES
by_kind cancel p groups number e k less =
    after_within (cancel_class groups) (cancel_bit groups) (change_cancel p number e) (cancel_within groups) k less
by_kind group p groups number e k less =
    after_within group_class bit_of_group (change_group p number e) group_bits_within k less

pub step_within : (p : Promises) (groups : List ℕ) (v : Variable) (e : Event) (k : ℕ)
    → k < CLASSES
    → class_step p groups v e k < CLASSES
step_within p groups v e k less = by_kind v.kind p groups v.number e k less
