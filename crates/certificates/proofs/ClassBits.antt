-- Which classes have bits, and what the masks of a least certificate have of them.
use Rattle.std.proofs.Common.{◌≡◌, ℕ, ◌≤◌, List, [], ◌∷◌, length, Option, Some, Contains, refl, sym, ap, ◌∙◌, subst}
use Rattle.std.proofs.lemmas.Option.{same_Some}
use Rattle.std.specs.Prelude.{slice_get}
use Rattle.certificates.proofs.ListsToNodes.{only}
use Rattle.certificates.specs.Least.{HasJust}
use Rattle.checker.proofs.SteppedClasses.{class_has}
use Rattle.flow.specs.Walks.{Graph}
use Rattle.bodies.specs.Carried.{IsReached, starts, goes}
use Rattle.bodies.specs.OwnGroups.{literal_group}
use Rattle.meaning.specs.BodyEvents.{VariableRole, own_parameter, own_receiver, declared_in_body, captured}
use Rattle.meaning.specs.Classes.{Promises, entry_cancel, change_cancel, entry_group, change_group}
use Rattle.meaning.specs.Code.{Occurrence}
use Rattle.meaning.specs.Uses.{Event}
use Rattle.bodies.proofs.ChangedClasses.{HasBit, change_has}
use Rattle.bodies.proofs.ClassNumbers.{cancel_inverse, group_inverse}
use Rattle.bodies.specs.Bits.{cancel_bit, cancel_class, group_bit, group_class}
use Rattle.bodies.specs.Masks.{bit_of_group, Has, MayBe}

-- The bits of the classes that the events of a graph bring: each bit of a class stands for it, and each class that comes
-- of one with a bit has one.
pub record AreBits {K : Type 0}
    (g : Graph Event) (class_of : ℕ → Option K) (bit_of : K → Option ℕ) (entry : K) (change : Event → K → K)
    : Type 0 where
  pub there : (k : K) (bit : ℕ) → bit_of k ≡ Some bit → class_of bit ≡ Some k
  pub of_class : (k : K) (bit : ℕ) → class_of bit ≡ Some k → HasBit bit_of k
  pub at_entry : HasBit bit_of entry
  pub keeps : (n : ℕ) (o : Occurrence Event) (k : K)
      → slice_get g.nodes n ≡ Some o
      → HasBit bit_of k
      → HasBit bit_of (change o.event k)

-- Cancel functions

entry_has_bit : (groups : List ℕ) (role : VariableRole) → HasBit (cancel_bit groups) (entry_cancel role)
entry_has_bit groups (own_parameter k) = (1, refl)
entry_has_bit groups own_receiver = (1, refl)
entry_has_bit groups declared_in_body = (0, refl)
entry_has_bit groups captured = (1, refl)

-- where each group in which a node starts a literal is one of these
pub cancel_bits : (g : Graph Event) (groups : List ℕ) (p : Promises) (v : ℕ) (role : VariableRole)
    → length groups ≤ 12
    → ((n : ℕ) (o : Occurrence Event) (h : ℕ) → slice_get g.nodes n ≡ Some o → literal_group o.event ≡ Some h
    → Contains groups h)
    → AreBits g (cancel_class groups) (cancel_bit groups) (entry_cancel role) (change_cancel p v)
cancel_bits g groups p v role fits among = record {
  there = (cancel_inverse groups).there;
  of_class = λ k bit e. class_has groups fits k bit e;
  at_entry = entry_has_bit groups role;
  keeps = λ n o k is h.
      change_has groups fits p v o.event k (λ g literal begins. among n o g is (ap literal_group begins)) h;
}

-- Groups

pub group_bits : (g : Graph Event) (p : Promises) (v : ℕ) (role : VariableRole)
    → AreBits g group_class bit_of_group (entry_group role) (change_group p v)
group_bits g p v role = record {
  there = λ k bit e. subst (λ b. group_class b ≡ Some k) (same_Some (group_bit k) bit e) (group_inverse.there k);
  of_class = λ k bit e. (group_bit k, refl);
  at_entry = (group_bit (entry_group role), refl);
  keeps = λ n o k is h. (group_bit (change_group p v o.event k), refl);
}

-- Masks

module _ {K : Type 0}
    (g : Graph Event) (class_of : ℕ → Option K) (bit_of : K → Option ℕ) (entry : K) (change : Event → K → K)
    (bits : AreBits g class_of bit_of entry change) where
  -- what is carried to a node has a bit
  pub reached_has_bit : (n : ℕ) (k : K) → IsReached g change (entry ∷ []) n k → HasBit bit_of k
  reached_has_bit n k (starts a b) = subst (HasBit bit_of) (only entry k b) bits.at_entry
  reached_has_bit n k (goes {n = m} {k = j} {o = o} {ms = ms} r a b c) =
      bits.keeps m o j a (reached_has_bit m j r)

  pub may_be : (mask : ℕ) (k : K) → Has bit_of mask k → MayBe class_of mask k
  may_be mask k h = record { bit = h.bit; is_in = h.is_in; is_class = bits.there k h.bit h.is_bit }

  module _ (n mask : ℕ) (just : HasJust class_of (IsReached g change (entry ∷ []) n) mask) where
    pub is_reached : (k : K) → MayBe class_of mask k → IsReached g change (entry ∷ []) n k
    is_reached k may =
        let stands = (just may.bit).0 may.is_in in
        subst (IsReached g change (entry ∷ []) n)
        (same_Some stands.class k (sym stands.is_class ∙ may.is_class)) stands.is_so

    pub has : (k : K) → IsReached g change (entry ∷ []) n k → Has bit_of mask k
    has k r =
        let bit = reached_has_bit n k r in
        record {
          bit = bit.0;
          is_bit = bit.1;
          is_in = (just bit.0).1 (record { class = k; is_class = bits.there k bit.0 bit.1; is_so = r });
        }
