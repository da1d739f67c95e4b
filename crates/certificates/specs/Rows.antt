-- Rows as the program makes them, by a table that tells which classes of the body's variables arrive at the nodes of
-- its graph: in a mask a bit is set where the class for which it stands arrives.
use Rattle.std.specs.Prelude.{ℕ, ◌≡◌, ◌<◌, ◌^◌, ◌&&◌, Bool, false, List, length, map, Option, Some, None, nat_lt, slice_get}
use Rattle.std.specs.declared.alloc.Global.{Global}
use Rattle.std.specs.declared.vec.Vec.{Vec as VecIn}
use Rattle.bodies.specs.Bits.{cancel_class, group_class}
use Rattle.bodies.specs.Masks.{is_set}
use Rattle.bodies.specs.declared.bits.TheConstants.{CANCEL_CLASSES, GROUP_CLASSES}
use Rattle.flow.specs.declared.order.NodePlace.{NodePlace}
use Rattle.meaning.specs.BodyEvents.{Variable}
use Rattle.meaning.specs.Classes.{CancelClass, GroupClass}
use Rattle.meaning.specs.FunctionFacts.{VariableKind, cancel, group}

abbrev pub Vec : Type 0 → Type 0
Vec T = VecIn T Global

abbrev pub rows_view : List (Vec ℕ) → List (List ℕ)
rows_view = map (λ row. row.items)

-- Masks

abbrev pub passes : {K : Type 0} → (K → Bool) → Option K → Bool
passes has None = false
passes has (Some k) = has k

-- the bits below the width that pass the test are set, and no others
pub record HasBits (width : ℕ) (test : ℕ → Bool) (mask : ℕ) : Type 0 where
  pub is_below : mask < 2 ^ width
  pub each : (bit : ℕ) → is_set mask bit ≡ (nat_lt bit width && test bit)

-- which classes of each variable, by its place in the list of variables, arrive at the node of a number, and which
-- groups have bits
pub record Arriving : Type 0 where
  pub cancels : ℕ → ℕ → CancelClass → Bool
  pub groups : ℕ → ℕ → GroupClass → Bool
  pub with_bits : List ℕ

abbrev pub arriving : (ℕ → ℕ → CancelClass → Bool) → (ℕ → ℕ → GroupClass → Bool) → List ℕ → Arriving
arriving cancels groups with_bits = record { cancels = cancels; groups = groups; with_bits = with_bits }

module _ (a : Arriving) (n : ℕ) where
  abbrev pub IsCancelMask : ℕ → ℕ → Type 0
  IsCancelMask i mask = HasBits CANCEL_CLASSES (λ bit. passes (a.cancels i n) (cancel_class a.with_bits bit)) mask

  abbrev pub IsGroupMask : ℕ → ℕ → Type 0
  IsGroupMask i mask = HasBits GROUP_CLASSES (λ bit. passes (a.groups i n) (group_class bit)) mask

  -- of the variable of the place i, at the node n
  abbrev pub IsMask : VariableKind → ℕ → ℕ → Type 0
  IsMask cancel i mask = IsCancelMask i mask
  IsMask group i mask = IsGroupMask i mask

  abbrev pub IsMaskIn : Variable → ℕ → Option ℕ → Type 0
  IsMaskIn v i None = ⊥
  IsMaskIn v i (Some mask) = IsMask v.kind i mask

  -- the masks of the first variables
  pub record AreMasks (vs : List Variable) (row : List ℕ) (count : ℕ) : Type 0 where
    pub counted : length row ≡ count
    pub each : (i : ℕ) (v : Variable) → i < count → slice_get vs i ≡ Some v → IsMaskIn v i (slice_get row i)

  -- a mask for each variable
  abbrev pub IsRowOf : List Variable → List ℕ → Type 0
  IsRowOf vs row = AreMasks vs row (length vs)

-- Rows

module _ (a : Arriving) (vs : List Variable) where
  abbrev pub IsRowIn : NodePlace → Option (Vec ℕ) → Type 0
  IsRowIn place None = ⊥
  IsRowIn place (Some row) = IsRowOf a place.node vs row.items

  -- the rows of the first places
  pub record AreRows (order : List NodePlace) (rows : List (Vec ℕ)) (count : ℕ) : Type 0 where
    pub counted : length rows ≡ count
    pub each : (k : ℕ) (place : NodePlace)
        → k < count
        → slice_get order k ≡ Some place
        → IsRowIn place (slice_get rows k)

  -- a row for each place
  abbrev pub TellRows : List NodePlace → List (Vec ℕ) → Type 0
  TellRows order rows = AreRows order rows (length order)
