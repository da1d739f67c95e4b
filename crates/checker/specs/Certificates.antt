-- When a certificate of a body holds. It has a row for each node of the body's graph, in the order of the text, and in
-- a row a mask for each of the body's variables, in their order: the classes that the variable may have where the node
-- comes next. It holds if it has the classes of the entry where the body begins, if it has along each edge what the
-- node's event makes of the classes before, and if at no node a class is a fault of what the node does. Nothing is
-- solved for that, and a certificate may say more than can happen. Only a body has one whose classes all have bits:
-- it has not too many variables, and starts literals only in groups that have bits, as each body of a text does.
--  - Bit 0 of a cancel function is unset, 1 open, 2 safe, 3 + k pending in the k-th of the body's groups, counted from
--    0, and 15 kept, which only the second edition of the rules has. Of a group bit 0 is unmade, 1 idle, 2 live, and 3
--    awaited.
--  - There are such bits for twelve groups, also where the body has fewer. One of a group that the body has not stands
--    for a group that no event names: it is never live, and the body does not make it.
-- (This tool's rules.)
use Rattle.std.specs.Prelude.{ℕ, zero, suc, ◌+◌, ◌-◌, ◌≡◌, ◌==◌, Bool, true, false, if◌then◌else◌, List, [], ◌∷◌, ◌++◌, length, Option, Some, None, slice_get, slice_index_or, Contains}
use Rattle.std.specs.List.{AllZip, AllByRecursion}
use Rattle.bodies.specs.OwnGroups.{groups_of}
use Rattle.flow.specs.Walks.{Graph}
use Rattle.flow.specs.declared.order.NodePlace.{NodePlace}
use Rattle.meaning.specs.declared.TheConstants.{MOST_GROUPS}
use Rattle.meaning.specs.BodyEvents.{Variable, VariableRole, own_parameter, own_receiver, declared_in_body, captured, too_many_faults}
use Rattle.meaning.specs.Classes.{Promises, CancelClass, opened, kept, pending, entry_cancel, change_cancel, GroupClass, in_state, entry_group, change_group}
use Rattle.meaning.specs.Code.{Occurrence}
use Rattle.meaning.specs.FunctionFacts.{VariableKind, cancel, group}
use Rattle.meaning.specs.Tracked.{GroupState, live}
use Rattle.meaning.specs.Uses.{VariableAt, Handed, Event, start, make, return_event}
use Rattle.meaning_packages.specs.Credits.{is_safe, is_live}
use Rattle.meaning_packages.specs.PathFaults.{BindsCancel, is_declared, is_handed, is_handed_kept, is_lost}
use Rattle.tree.specs.declared.edition.Edition.{Edition}
use Rattle.bodies.specs.Bits.{cancel_bit, cancel_class, group_class}
use Rattle.bodies.specs.Masks.{HasKnownBits, Has, MayBe, GoesInto, bit_of_group}

-- A body as its certificates see it: the edition by which it is judged, its graph, where its nodes stand, in the order
-- of the text, its variables, what it relies on, and of which parameters, by their positions, it is claimed that it has
-- called them when it returns.
pub record CheckedBody : Type 0 where
  pub edition : Edition
  pub graph : Graph Event
  pub order : List NodePlace
  pub variables : List Variable
  pub promises : Promises
  pub is_claimed : ℕ → Bool

-- Bits

-- the greatest number of 32 bits; a variable's number is an offset in a file of at most 1 MiB
abbrev pub greatest : ℕ
greatest = 4294967295

-- so many numbers that no variable has
abbrev pub spare : ℕ → List ℕ
spare zero = []
spare (suc n) = (greatest - n) ∷ spare n

-- the groups that have bits: the body's, and up to twelve that it has not
abbrev pub groups_with_bits : List Variable → List ℕ
groups_with_bits vs = groups_of vs ++ spare (MOST_GROUPS - length (groups_of vs))

module _ (b : CheckedBody) where
  abbrev pub class_of_bit : ℕ → Option CancelClass
  class_of_bit = cancel_class (groups_with_bits b.variables)

  abbrev pub bit_of_class : CancelClass → Option ℕ
  bit_of_class = cancel_bit (groups_with_bits b.variables)

-- each group in which a node starts a literal has a bit
abbrev pub StartsWithBits : CheckedBody → Type 0
StartsWithBits b = (n g literal : ℕ) (o : Occurrence Event)
    → slice_get b.graph.nodes n ≡ Some o
    → o.event ≡ start g (Some literal)
    → Contains (groups_with_bits b.variables) g

-- Rows and masks

-- the row of the node of that number, where the first of these places has the row k
abbrev pub row_from : ℕ → List NodePlace → ℕ → Option ℕ
row_from k [] node = None
row_from k (place ∷ places) node = if place.node == node then Some k else row_from (k + 1) places node

abbrev pub masks_in : List (List ℕ) → Option ℕ → List ℕ
masks_in states None = []
masks_in states (Some row) = slice_index_or states row []

-- the masks at the node of that number; none where it has no row
abbrev pub masks_at : CheckedBody → List (List ℕ) → ℕ → List ℕ
masks_at b states node = masks_in states (row_from 0 b.order node)

-- the mask of the variable of the place i there
abbrev pub mask_at : CheckedBody → List (List ℕ) → ℕ → ℕ → ℕ
mask_at b states i node = slice_index_or (masks_at b states node) i 0

abbrev pub IsRow : Edition → List Variable → List ℕ → Type 0
IsRow edition vs row = AllZip (λ v mask. HasKnownBits edition v.kind mask) vs row

-- a row for each node, and in each a mask for each variable, with the bits of that edition
pub record HasRows (edition : Edition) (b : CheckedBody) (states : List (List ℕ)) : Type 0 where
  pub are_as_many : length states ≡ length b.order
  pub are_rows : AllByRecursion (IsRow edition b.variables) states

-- Entry and edges

-- of one variable, by its mask at each node
pub record IsClosed {K : Type 0}
    (g : Graph Event) (class_of : ℕ → Option K) (bit_of : K → Option ℕ) (entry : K) (change : Event → K → K)
    (mask : ℕ → ℕ)
    : Type 0 where
  pub at_starts : (n : ℕ) → Contains g.starts n → Has bit_of (mask n) entry
  pub along_edges : (n m : ℕ) (o : Occurrence Event) (ms : List ℕ)
      → slice_get g.nodes n ≡ Some o
      → slice_get g.next n ≡ Some ms
      → Contains ms m
      → GoesInto class_of bit_of (change o.event) (mask n) (mask m)

abbrev pub IsClosedFor : CheckedBody → Variable → VariableKind → (ℕ → ℕ) → Type 0
IsClosedFor b v cancel mask =
    IsClosed b.graph (class_of_bit b) (bit_of_class b) (entry_cancel v.role) (change_cancel b.promises v.number) mask
IsClosedFor b v group mask =
    IsClosed b.graph group_class bit_of_group (entry_group v.role) (change_group b.promises v.number) mask

-- Faults

abbrev pub is_claimed : (ℕ → Bool) → VariableRole → Bool
is_claimed claims (own_parameter k) = claims k
is_claimed claims own_receiver = false
is_claimed claims declared_in_body = false
is_claimed claims captured = false

-- the body is to have called it at a return, which hands it on or does not
pub data IsOwed (b : CheckedBody) (v : Variable) (is_handed_on : Bool) : Type 0 where
  is_kept : is_declared v.role ≡ true → is_handed_on ≡ false → IsOwed b v is_handed_on
  has_claim : is_claimed b.is_claimed v.role ≡ true → IsOwed b v is_handed_on

module _ (b : CheckedBody) (states : List (List ℕ)) (node : ℕ) where
  -- the cancel function of the place i may be of that class where the node comes next
  abbrev pub MayBeCancel : ℕ → CancelClass → Type 0
  MayBeCancel i k = MayBe (class_of_bit b) (mask_at b states i node) k

  abbrev pub MayBeLive : ℕ → Type 0
  MayBeLive i = MayBe group_class (mask_at b states i node) (in_state live)

  -- it may not have been called, and is kept nowhere: it may be open, or pending in a group that may be live
  pub data MayBeUncalled (i : ℕ) : Type 0 where
    is_open : MayBeCancel i opened → MayBeUncalled i
    is_left : (j : ℕ) (g : Variable)
        → slice_get b.variables j ≡ Some g
        → g.kind ≡ group
        → MayBeCancel i (pending g.number)
        → MayBeLive j
        → MayBeUncalled i

  -- a class is a fault of what the node does: a binding loses it, or a return owes a call or leaves a group live
  pub data IsFault (e : Event) : Type 0 where
    loses_cancel : (i : ℕ) (v : Variable) (u : VariableAt) (k : CancelClass)
        → slice_get b.variables i ≡ Some v
        → v.kind ≡ cancel
        → BindsCancel e u
        → u.number ≡ v.number
        → MayBeCancel i k
        → is_lost b.variables k ≡ true
        → IsFault e
    loses_group : (i : ℕ) (g : Variable) (u : VariableAt) (state : GroupState)
        → slice_get b.variables i ≡ Some g
        → g.kind ≡ group
        → e ≡ make u state
        → u.number ≡ g.number
        → MayBeLive i
        → IsFault e
    returns_live : (i : ℕ) (g : Variable) (handed : List Handed)
        → slice_get b.variables i ≡ Some g
        → g.kind ≡ group
        → e ≡ return_event handed
        → is_declared g.role ≡ true
        → MayBeLive i
        → IsFault e
    returns_uncalled : (i : ℕ) (v : Variable) (handed : List Handed)
        → slice_get b.variables i ≡ Some v
        → v.kind ≡ cancel
        → e ≡ return_event handed
        → IsOwed b v (is_handed v.number handed)
        → MayBeUncalled i
        → IsFault e
    -- it may be kept in an object with which it is not handed on
    returns_kept : (i : ℕ) (v : Variable) (handed : List Handed)
        → slice_get b.variables i ≡ Some v
        → v.kind ≡ cancel
        → e ≡ return_event handed
        → IsOwed b v (is_handed_kept v.number handed)
        → MayBeCancel i kept
        → IsFault e

-- The whole

pub record Holds (b : CheckedBody) (states : List (List ℕ)) : Type 0 where
  pub are_few : too_many_faults b.variables ≡ []
  pub starts_with_bits : StartsWithBits b
  pub has_rows : HasRows b.edition b states
  pub is_closed : (i : ℕ) (v : Variable)
      → slice_get b.variables i ≡ Some v
      → IsClosedFor b v v.kind (mask_at b states i)
  pub has_no_fault : (n : ℕ) (o : Occurrence Event)
      → slice_get b.graph.nodes n ≡ Some o
      → IsFault b states n o.event
      → ⊥

-- Credit

abbrev pub IsSettledBy : CheckedBody → VariableKind → ℕ → Type 0
IsSettledBy b cancel mask = (k : CancelClass) → MayBe (class_of_bit b) mask k → is_safe k ≡ true
IsSettledBy b group mask = (k : GroupClass) → MayBe group_class mask k → is_live k ≡ false

-- the certificate leaves the variable of the place i settled at each return: a cancel function safe, a group not live;
-- where the mask is zero, no list is said to come to the return
abbrev pub SettlesIn : CheckedBody → List (List ℕ) → ℕ → Variable → Type 0
SettlesIn b states i v = (n : ℕ) (o : Occurrence Event) (handed : List Handed)
    → slice_get b.graph.nodes n ≡ Some o
    → o.event ≡ return_event handed
    → IsSettledBy b v.kind (mask_at b states i n)
