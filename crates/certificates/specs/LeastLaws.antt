-- What is proved of least certificates. Where the paths of a body have no fault and each claim is kept, its least
-- certificate holds; and it settles exactly what the body settles. Each certificate that holds has all that the least
-- one has.
use Rattle.std.specs.Prelude.{ℕ, ◌≡◌, ◌<◌, ◌↔◌, [], Bool, true, false, List, length, Some, slice_get, Contains}
use Rattle.certificates.specs.Least.{IsLeast}
use Rattle.checker.specs.Certificates.{CheckedBody, class_of_bit, mask_at, is_claimed, Holds, SettlesIn}
use Rattle.checker.specs.CheckerLaws.{IsOf}
use Rattle.bodies.specs.OwnGroups.{literal_group, groups_of}
use Rattle.meaning.specs.BodyEvents.{Variable, too_many_faults}
use Rattle.meaning.specs.Classes.{CancelClass, GroupClass}
use Rattle.meaning.specs.Code.{Occurrence}
use Rattle.meaning.specs.FunctionFacts.{VariableKind, cancel, group}
use Rattle.meaning.specs.Uses.{Event, obtain_kept, keep}
use Rattle.meaning_packages.specs.Credits.{Settles}
use Rattle.meaning_packages.specs.PathFaults.{Paths, PathFault, IsPathFault, KeepsCall}
use Rattle.tree.specs.declared.edition.Edition.TheVariants.{First}
use Rattle.bodies.specs.Bits.{group_class}
use Rattle.bodies.specs.Masks.{MayBe}

-- Each group in which a node starts a literal is one of the body's group variables, as in each body of a text: a class
-- that is pending in another group has no bit.
abbrev pub StartsInOwnGroups : CheckedBody → Type 0
StartsInOwnGroups b = (n : ℕ) (o : Occurrence Event) (g : ℕ)
    → slice_get b.graph.nodes n ≡ Some o
    → literal_group o.event ≡ Some g
    → Contains (groups_of b.variables) g

-- the event takes a class to kept
abbrev pub keeps : Event → Bool
keeps (obtain_kept u f k x) = true
keeps (keep u x) = true
keeps e = false

-- In the first edition no node keeps anything in an object, as in each body of a text: that class has no bit there.
abbrev pub KeepsByEdition : CheckedBody → Type 0
KeepsByEdition b = (n : ℕ) (o : Occurrence Event)
    → b.edition ≡ First
    → slice_get b.graph.nodes n ≡ Some o
    → keeps o.event ≡ false

-- the body, of those paths, has not too many variables
pub record CanHaveCertificate (paths : Paths) (b : CheckedBody) : Type 0 where
  pub is_of : IsOf paths b
  pub are_few : too_many_faults paths.variables ≡ []
  pub starts_in_own_groups : StartsInOwnGroups b
  pub keeps_by_edition : KeepsByEdition b

abbrev pub HasNoFault : Paths → Type 0
HasNoFault paths = (f : PathFault) → IsPathFault paths f → ⊥

-- each parameter that is claimed to be called is
abbrev pub KeepsEachClaim : Paths → CheckedBody → Type 0
KeepsEachClaim paths b = (i : ℕ) (v : Variable)
    → slice_get paths.variables i ≡ Some v
    → v.kind ≡ cancel
    → is_claimed b.is_claimed v.role ≡ true
    → KeepsCall paths v

abbrev pub LeastHolds : Type 0
LeastHolds = (paths : Paths) (b : CheckedBody) (states : List (List ℕ))
    → CanHaveCertificate paths b
    → HasNoFault paths
    → KeepsEachClaim paths b
    → IsLeast b states
    → Holds b states

abbrev pub LeastSettles : Type 0
LeastSettles = (paths : Paths) (b : CheckedBody) (states : List (List ℕ))
    → CanHaveCertificate paths b
    → IsLeast b states
    → (i : ℕ) (v : Variable)
    → slice_get paths.variables i ≡ Some v
    → SettlesIn b states i v ↔ Settles paths v

-- each class of a variable that the first mask has, the second has
abbrev pub HasClassesOf : CheckedBody → VariableKind → ℕ → ℕ → Type 0
HasClassesOf b cancel mask other = (k : CancelClass) → MayBe (class_of_bit b) mask k → MayBe (class_of_bit b) other k
HasClassesOf b group mask other = (k : GroupClass) → MayBe group_class mask k → MayBe group_class other k

abbrev pub LeastIsWithin : Type 0
LeastIsWithin = (b : CheckedBody) (states others : List (List ℕ))
    → IsLeast b states
    → Holds b others
    → (i : ℕ) (v : Variable) (n : ℕ)
    → slice_get b.variables i ≡ Some v
    → n < length b.graph.nodes
    → HasClassesOf b v.kind (mask_at b states i n) (mask_at b others i n)
