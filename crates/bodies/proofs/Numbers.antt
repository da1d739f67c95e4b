-- Which classes have numbers: those of cancel variables that the events of a code can bring have one, where each group
-- in which one of its nodes starts a literal is among the groups.
use Rattle.std.proofs.Common.{◌≡◌, ℕ, ◌<◌, ◌≤◌, List, length, Some, Contains, refl, ap, subst}
use Rattle.std.proofs.lemmas.Option.{same_Some}
use Rattle.std.specs.Prelude.{slice_get}
use Rattle.meaning.specs.Code.{Occurrence, Code}
use Rattle.meaning.specs.Uses.{Event}
use Rattle.meaning.specs.BodyEvents.{VariableRole, own_parameter, own_receiver, declared_in_body, captured}
use Rattle.meaning.specs.Classes.{Promises, entry_cancel, cancel_after, change_cancel, group_after, change_group}
use Rattle.flow.specs.GraphOfCode.{nodes}
use Rattle.bodies.specs.Bits.{cancel_bit, cancel_class, group_bit, group_class, AreInverseBits, AreInverseGroupBits}
use Rattle.bodies.proofs.ChangedClasses.{change_has}
use Rattle.bodies.proofs.ClassNumbers.{cancel_within, group_within}
use Rattle.bodies.specs.Masks.{bit_of_group}
use Rattle.bodies.specs.OwnGroups.{literal_group}
use Rattle.bodies.specs.Flags.{group_width, cancel_width, cancel_entry}
use Rattle.bodies.proofs.ClassesTold.{IsNumbered}

-- Classes of cancel variables

module _ (groups : List ℕ) where
  pub entry_has : (role : VariableRole) → cancel_bit groups (entry_cancel role) ≡ Some (cancel_entry role)
  entry_has (own_parameter k) = refl
  entry_has own_receiver = refl
  entry_has declared_in_body = refl
  entry_has captured = refl

-- the flags of a cancel variable are those of the classes that it can come to
pub cancels_numbered : (c : Code Event) (p : Promises) (v : ℕ) (groups : List ℕ)
    → AreInverseBits groups
    → ((n : ℕ) (o : Occurrence Event) (g : ℕ) → slice_get (nodes c) n ≡ Some o → literal_group o.event ≡ Some g
    → Contains groups g)
    → length groups ≤ 12
    → IsNumbered c (cancel_class groups) (cancel_bit groups) (change_cancel p v) (cancel_after p v)
    cancel_width
cancels_numbered c p v groups inverse among fits = record {
  told = inverse.there;
  within = cancel_within groups;
  keeps = λ o k i is e.
      change_has groups fits p v o.event k
      (λ g literal begins. among is.0 o g is.1 (ap literal_group begins))
      (i, e);
  none = λ k. refl;
  next = λ k o t. refl;
}

-- Classes of groups

pub groups_numbered : (c : Code Event) (p : Promises) (v : ℕ)
    → AreInverseGroupBits
    → IsNumbered c group_class bit_of_group (change_group p v) (group_after p v) group_width
groups_numbered c p v inverse = record {
  told = λ k i e. subst (λ j. group_class j ≡ Some k) (same_Some (group_bit k) i e) (inverse.there k);
  within = λ k i e. subst (λ j. j < 4) (same_Some (group_bit k) i e) (group_within k);
  keeps = λ o k i is e. (group_bit (change_group p v o.event k), refl);
  none = λ k. refl;
  next = λ k o t. refl;
}
