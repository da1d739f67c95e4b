-- What a certificate that holds says of the lists of a body's code: no list comes to a fault of a path, each claimed
-- parameter has been called at each return, and what the certificate settles is settled.
use Rattle.std.specs.Prelude.{ℕ, ◌≡◌, true, List, Some, slice_get}
use Rattle.checker.specs.Certificates.{CheckedBody, is_claimed, Holds, SettlesIn}
use Rattle.flow.specs.Walks.{graph_of}
use Rattle.flow.specs.GraphOfCode.{nodes}
use Rattle.meaning.specs.BodyEvents.{Variable}
use Rattle.meaning.specs.Code.{Occurrence}
use Rattle.meaning.specs.FunctionFacts.{cancel}
use Rattle.meaning.specs.Uses.{Event}
use Rattle.meaning_packages.specs.Credits.{Settles}
use Rattle.meaning_packages.specs.PathFaults.{Paths, PathFault, IsPathFault, KeepsCall}

-- the body that is checked is that of the paths, whatever the order of its rows
pub record IsOf (paths : Paths) (b : CheckedBody) : Type 0 where
  pub is_edition : b.edition ≡ paths.edition
  pub is_graph : b.graph ≡ graph_of paths.code
  pub are_variables : b.variables ≡ paths.variables
  pub are_promises : b.promises ≡ paths.promises

-- no two nodes have one place, as in each body of a text
abbrev pub HaveOwnPlaces : Paths → Type 0
HaveOwnPlaces paths = (n m : ℕ) (o p : Occurrence Event)
    → slice_get (nodes paths.code) n ≡ Some o
    → slice_get (nodes paths.code) m ≡ Some p
    → o.at ≡ p.at
    → o.order ≡ p.order
    → n ≡ m

abbrev pub LeavesNoFault : Type 0
LeavesNoFault = (paths : Paths) (b : CheckedBody) (states : List (List ℕ))
    → IsOf paths b
    → HaveOwnPlaces paths
    → Holds b states
    → (f : PathFault)
    → IsPathFault paths f
    → ⊥

abbrev pub KeepsClaims : Type 0
KeepsClaims = (paths : Paths) (b : CheckedBody) (states : List (List ℕ))
    → IsOf paths b
    → HaveOwnPlaces paths
    → Holds b states
    → (i : ℕ) (v : Variable)
    → slice_get paths.variables i ≡ Some v
    → v.kind ≡ cancel
    → is_claimed b.is_claimed v.role ≡ true
    → KeepsCall paths v

abbrev pub SettlesWhatItSays : Type 0
SettlesWhatItSays = (paths : Paths) (b : CheckedBody) (states : List (List ℕ))
    → IsOf paths b
    → Holds b states
    → (i : ℕ) (v : Variable)
    → slice_get paths.variables i ≡ Some v
    → SettlesIn b states i v
    → Settles paths v
