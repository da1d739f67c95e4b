-- The rows that the program makes are the least certificate, where its table tells exactly what walks carry to the nodes.
use Rattle.std.proofs.Common.{◌≡◌, ℕ, zero, suc, ◌+◌, ◌<◌, Bool, true, false, List, [], ◌∷◌, length, map, Option, Some, None, Contains, refl, sym, ap, ◌∙◌, subst, arith, true≢false, inl, inr}
use Rattle.std.proofs.lemmas.Bool.{lt-ltb, and_parts}
use Rattle.std.proofs.lemmas.Bool.Decides.{eqb_tells}
use Rattle.std.proofs.lemmas.List.{length-map}
use Rattle.std.proofs.lemmas.List.Sorted.{IsPermutation-sym, Contains-permutation}
use Rattle.std.proofs.lemmas.Option.{none-some, same_Some, slice_get_within}
use Rattle.std.specs.Prelude.{◌==◌, ◌&&◌, if◌then◌else◌, nat_lt, slice_get, slice_index_or}
use Rattle.std.specs.List.{AllZip, AllByRecursion}
use Rattle.std.specs.List.Sorted.{IsPermutation}
use Rattle.certificates.specs.Least.{HasJust, HasReached, IsLeast, body_with}
use Rattle.certificates.proofs.NodesInRange.{contains_at}
use Rattle.certificates.specs.Rows.{Vec, rows_view, passes, HasBits, Arriving, arriving, IsMask, IsMaskIn, IsRowOf, IsRowIn, TellRows}
use Rattle.checker.proofs.NodeRows.{places_below}
use Rattle.checker.specs.Certificates.{groups_with_bits, row_from, masks_in, mask_at, IsRow}
use Rattle.flow.specs.GraphOfCode.{nodes}
use Rattle.flow.specs.NodeOrder.{places}
use Rattle.flow.specs.Walks.{graph_of}
use Rattle.flow.specs.declared.order.NodePlace.{NodePlace}
use Rattle.bodies.specs.AtNodes.{IsCancelAt, IsGroupAt, ClassifiesNodes}
use Rattle.meaning.proofs.Membership.{contains_nil, contains_here, contains_there, contains_cases}
use Rattle.tree.specs.declared.edition.Edition.TheVariants.{Second}
use Rattle.meaning.specs.BodyEvents.{Variable}
use Rattle.meaning.specs.Classes.{CancelClass, GroupClass}
use Rattle.meaning.specs.Code.{Occurrence}
use Rattle.meaning.specs.FunctionFacts.{VariableKind, cancel, group}
use Rattle.meaning_packages.specs.PathFaults.{Paths}
use Rattle.bodies.proofs.ClassNumbers.{class_within, group_inverse, group_within}
use Rattle.bodies.specs.Bits.{cancel_class, group_class}
use Rattle.bodies.specs.Masks.{HasKnownBits}
use Rattle.bodies.specs.declared.bits.TheConstants.{CANCEL_CLASSES, GROUP_CLASSES}

-- Bits

passed : {K : Type 0} (has : K → Bool) (o : Option K) → passes has o ≡ true → (k : K) × (o ≡ Some k) × (has k ≡ true)
passed has None e = absurd (true≢false (sym e))
passed has (Some k) e = (k, refl, e)

and_of : (a b : Bool) → a ≡ true → b ≡ true → (a && b) ≡ true
and_of true b e f = f
and_of false b e f = absurd (true≢false (sym e))

-- a mask has just the classes that arrive, where each class with a bit has one below the width
just : {K : Type 0} (width : ℕ) (class_of : ℕ → Option K) (has : K → Bool) (IsSo : K → Type 0) (mask : ℕ)
    → ((k : K) (bit : ℕ) → class_of bit ≡ Some k → bit < width)
    → ((k : K) → (has k ≡ true → IsSo k) × (IsSo k → has k ≡ true))
    → HasBits width (λ bit. passes has (class_of bit)) mask
    → HasJust class_of IsSo mask
just width class_of has IsSo mask within told bits bit = (
  λ e.
      let both = and_parts (nat_lt bit width) (passes has (class_of bit)) (sym (bits.each bit) ∙ e) in
      let k = passed has (class_of bit) both.1 in
      record { class = k.0; is_class = k.1; is_so = (told k.0).0 k.2 },
  λ s.
      bits.each bit
      ∙ and_of (nat_lt bit width) (passes has (class_of bit)) (lt-ltb bit width (within s.class bit s.is_class))
      (ap (passes has) s.is_class ∙ (told s.class).1 s.is_so),
)

group_class_within : (k : GroupClass) (bit : ℕ) → group_class bit ≡ Some k → bit < GROUP_CLASSES
group_class_within k bit e =
    let is = group_inverse.back bit k e in
    let l = group_within k in
    omega (arith, is, l)

-- Rows

from_start : (n : ℕ) → 0 + n ≡ n
from_start n = omega arith

-- the first of these places with that node, and its row
record StandsAt (m : ℕ) (order : List NodePlace) (n : ℕ) : Type 0 where
  k : ℕ
  place : NodePlace
  is_row : row_from m order n ≡ Some (m + k)
  is_place : slice_get order k ≡ Some place
  is_node : place.node ≡ n

first_or_later : (m n : ℕ) (place : NodePlace) (order : List NodePlace) (b : Bool)
    → (b ≡ true → place.node ≡ n)
    → (b ≡ false → StandsAt (m + 1) order n)
    → (k : ℕ) × (p : NodePlace)
    × ((if b then Some m else row_from (m + 1) order n) ≡ Some (m + k))
    × (slice_get (place ∷ order) k ≡ Some p)
    × (p.node ≡ n)
first_or_later m n place order true is later = (0, place, ap Some (omega arith), refl, is refl)
first_or_later m n place order false is later =
    let w = later refl in
    (suc w.k, w.place, w.is_row ∙ ap Some (omega arith), w.is_place, w.is_node)

stands : (m n : ℕ) (order : List NodePlace) (p : NodePlace) → Contains order p → p.node ≡ n → StandsAt m order n
stands m n [] p h is = absurd (contains_nil p h)
stands m n (place ∷ order) p h is =
    let w = first_or_later m n place order (place.node == n)
    (λ e. elim (eqb_tells place.node n) [ inl s ↦ s.1 | inr d ↦ absurd (true≢false (sym e ∙ d.0)) ])
    (λ e. elim (contains_cases place p order h) [
      | inl same ↦ elim (eqb_tells place.node n) [
        | inl s ↦ absurd (true≢false (sym s.0 ∙ e))
        | inr d ↦ absurd (d.1 (ap (λ (q : NodePlace). q.node) same ∙ is))
      ]
      | inr later ↦ stands (m + 1) n order p later is
    ]) in
    record { k = w.0; place = w.1; is_row = w.2; is_place = w.3; is_node = w.4 }

place_of : {E : Type 0} (m n : ℕ) (os : List (Occurrence E))
    → n < length os
    → (p : NodePlace) × Contains (places m os) p × (p.node ≡ m + n)
place_of m n [] l = absurd (omega (arith, l))
place_of m zero (o ∷ os) l =
    (record { at = o.at; order = o.order; node = m }, contains_here _ (places (m + 1) os), omega arith)
place_of m (suc n) (o ∷ os) l =
    let w = place_of (m + 1) n os (omega (arith, l)) in
    let is = w.2 in
    (w.0, contains_there _ w.0 (places (m + 1) os) w.1, omega (arith, is))

element_of : {A B : Type 0} (f : A → B) (xs : List A) (k : ℕ) (x : A) (d : B)
    → slice_get xs k ≡ Some x
    → slice_index_or (map f xs) k d ≡ f x
element_of f [] k x d e = absurd (none-some x e)
element_of f (y ∷ ys) zero x d e = ap f (same_Some y x e)
element_of f (y ∷ ys) (suc k) x d e = element_of f ys k x d e

item_of : {A : Type 0} (xs : List A) (k : ℕ) (x d : A) → slice_get xs k ≡ Some x → slice_index_or xs k d ≡ x
item_of [] k x d e = absurd (none-some x e)
item_of (y ∷ ys) zero x d e = same_Some y x e
item_of (y ∷ ys) (suc k) x d e = item_of ys k x d e

pub all_by : {A : Type 0} (P : A → Type 0) (xs : List A)
    → ((k : ℕ) (x : A) → slice_get xs k ≡ Some x → P x)
    → AllByRecursion P xs
all_by P [] each = tt
all_by P (x ∷ xs) each = (each 0 x refl, all_by P xs (λ k. each (suc k)))

zipped_by : {A B : Type 0} (R : A → B → Type 0) (xs : List A) (ys : List B)
    → length ys ≡ length xs
    → ((k : ℕ) (x : A) (y : B) → slice_get xs k ≡ Some x → slice_get ys k ≡ Some y → R x y)
    → AllZip R xs ys
zipped_by R [] [] e each = tt
zipped_by R [] (y ∷ ys) e each = absurd (omega (arith, e))
zipped_by R (x ∷ xs) [] e each = absurd (omega (arith, e))
zipped_by R (x ∷ xs) (y ∷ ys) e each =
    (each 0 x y refl refl, zipped_by R xs ys (omega (arith, e)) (λ k. each (suc k)))

pub each_by : {A : Type 0} (P : A → Type 0) (xs : List A)
    → AllByRecursion P xs
    → (k : ℕ) (x : A)
    → slice_get xs k ≡ Some x
    → P x
each_by P [] all k x e = absurd (none-some x e)
each_by P (y ∷ ys) all zero x e = subst P (same_Some y x e) all.0
each_by P (y ∷ ys) all (suc k) x e = each_by P ys all.1 k x e

pub there : {A : Type 0} (xs : List A) (k : ℕ) → k < length xs → (x : A) × (slice_get xs k ≡ Some x)
there [] k l = absurd (omega (arith, l))
there (x ∷ xs) zero l = (x, refl)
there (x ∷ xs) (suc k) l = there xs k (omega (arith, l))

module _ (a : Arriving) (n : ℕ) (vs : List Variable) where
  known : (kind : VariableKind) (i mask : ℕ) → IsMask a n kind i mask → HasKnownBits Second kind mask
  known cancel i mask h = h.is_below
  known group i mask h = h.is_below

  mask_there : (v : Variable) (i : ℕ) (o : Option ℕ) → IsMaskIn a n v i o → (mask : ℕ) × (o ≡ Some mask) × IsMask a n v.kind i mask
  mask_there v i None h = absurd h
  mask_there v i (Some mask) h = (mask, refl, h)

  mask_of_row : (row : List ℕ)
      → IsRowOf a n vs row
      → (i : ℕ) (v : Variable)
      → slice_get vs i ≡ Some v
      → (mask : ℕ) × (slice_get row i ≡ Some mask) × IsMask a n v.kind i mask
  mask_of_row row h i v at = mask_there v i (slice_get row i) (h.each i v (slice_get_within vs i v at) at)

  is_row : (row : List ℕ) → IsRowOf a n vs row → IsRow Second vs row
  is_row row h =
      zipped_by (λ (v : Variable) mask. HasKnownBits Second v.kind mask) vs row h.counted
      (λ i v mask at is.
      let found = mask_of_row row h i v at in
      known v.kind i mask (subst (IsMask a n v.kind i) (same_Some found.0 mask (sym found.1 ∙ is)) found.2))

module _ (a : Arriving) (vs : List Variable) (order : List NodePlace) (rows : List (Vec ℕ))
    (told : TellRows a vs order rows) where
  row_there : (place : NodePlace) (o : Option (Vec ℕ))
      → IsRowIn a vs place o
      → (row : Vec ℕ) × (o ≡ Some row) × IsRowOf a place.node vs row.items
  row_there place None h = absurd h
  row_there place (Some row) h = (row, refl, h)

  row_of_place : (k : ℕ) (place : NodePlace)
      → slice_get order k ≡ Some place
      → (row : Vec ℕ) × (slice_get rows k ≡ Some row) × IsRowOf a place.node vs row.items
  row_of_place k place at =
      row_there place (slice_get rows k) (told.each k place (slice_get_within order k place at) at)

  are_rows : AllByRecursion (IsRow Second vs) (rows_view rows)
  are_rows =
      all_by (IsRow Second vs) (rows_view rows)
      (λ k row is.
      let l = slice_get_within (rows_view rows) k row is in
      let all = length-map rows (λ (r : Vec ℕ). r.items) in
      let counted = told.counted in
      let place = there order k (omega (arith, l, all, counted)) in
      let found = row_of_place k place.0 place.1 in
      let one = element_of (λ (r : Vec ℕ). r.items) rows k found.0 [] found.1 in
      let other = item_of (rows_view rows) k row [] is in
      subst (IsRow Second vs) other (subst (IsRow Second vs) (sym one) (is_row a place.0.node vs found.0.items found.2)))

  -- the mask of the variable of the place i at the node n, which stands in the order
  mask_told : (n i : ℕ) (v : Variable)
      → StandsAt 0 order n
      → slice_get vs i ≡ Some v
      → IsMask a n v.kind i (slice_index_or (masks_in (rows_view rows) (row_from 0 order n)) i 0)
  mask_told n i v s at =
      let found = row_of_place s.k s.place s.is_place in
      let mask = mask_of_row a s.place.node vs found.0.items found.2 i v at in
      let is_row : masks_in (rows_view rows) (row_from 0 order n) ≡ found.0.items =
      ap (masks_in (rows_view rows)) (s.is_row ∙ ap Some (from_start s.k)) ∙ element_of (λ (r : Vec ℕ). r.items) rows s.k found.0 [] found.1 in
      let is_mask : slice_index_or (masks_in (rows_view rows) (row_from 0 order n)) i 0 ≡ mask.0 =
      ap (λ (row : List ℕ). slice_index_or row i 0) is_row ∙ item_of found.0.items i mask.0 0 mask.1 in
      subst (λ m. IsMask a m v.kind i (slice_index_or (masks_in (rows_view rows) (row_from 0 order n)) i 0)) s.is_node
      (subst (IsMask a s.place.node v.kind i) (sym is_mask) mask.2)

module _ (paths : Paths) (order : List NodePlace) (claims : ℕ → Bool)
    (cancels : ℕ → ℕ → CancelClass → Bool) (groups : ℕ → ℕ → GroupClass → Bool) (rows : List (Vec ℕ))
    (same : IsPermutation (places 0 (nodes paths.code)) order)
    (classifies : ClassifiesNodes paths.code paths.promises paths.variables cancels groups)
    (told : TellRows (arriving cancels groups (groups_with_bits paths.variables)) paths.variables order rows) where
  abbrev made : Arriving
  made = arriving cancels groups (groups_with_bits paths.variables)

  node_stands : (n : ℕ) → n < length (nodes paths.code) → StandsAt 0 order n
  node_stands n l =
      let p = place_of 0 n (nodes paths.code) l in
      stands 0 n order p.0 (Contains-permutation (places 0 (nodes paths.code)) order p.0 same p.1)
      (p.2 ∙ from_start n)

  has_reached : (v : Variable) (kind : VariableKind) (n i mask : ℕ)
      → v.kind ≡ kind
      → slice_get paths.variables i ≡ Some v
      → n < length (nodes paths.code)
      → IsMask made n kind i mask
      → HasReached (body_with paths order claims) v kind n mask
  has_reached v cancel n i mask is at l h =
      just CANCEL_CLASSES (cancel_class (groups_with_bits paths.variables)) (cancels i n)
      (IsCancelAt (graph_of paths.code) paths.promises v n) mask
      (λ k bit e. class_within (groups_with_bits paths.variables) bit k e)
      (λ k. classifies.of_cancel i v at is n k l) h
  has_reached v group n i mask is at l h =
      just GROUP_CLASSES group_class (groups i n) (IsGroupAt (graph_of paths.code) paths.promises v n) mask
      group_class_within (λ k. classifies.of_group i v at is n k l) h

  -- a place of the order is that of a node
  node_of : (k : ℕ) (place : NodePlace) → slice_get order k ≡ Some place → place.node < length (nodes paths.code)
  node_of k place at =
      let below = places_below 0 (nodes paths.code) place
      (Contains-permutation order (places 0 (nodes paths.code)) place
      (IsPermutation-sym (places 0 (nodes paths.code)) order same) (contains_at order k place at)) in
      omega (arith, below)

  row_reached : (k i : ℕ) (place : NodePlace) (row : List ℕ) (v : Variable)
      → slice_get order k ≡ Some place
      → slice_get (rows_view rows) k ≡ Some row
      → slice_get paths.variables i ≡ Some v
      → HasReached (body_with paths order claims) v v.kind place.node (slice_index_or row i 0)
  row_reached k i place row v at is there =
      let found = row_of_place made paths.variables order rows told k place at in
      let mask = mask_of_row made place.node paths.variables found.0.items found.2 i v there in
      let same_row : found.0.items ≡ row =
      sym (element_of (λ (r : Vec ℕ). r.items) rows k found.0 [] found.1) ∙ item_of (rows_view rows) k row [] is in
      let same_mask : slice_index_or row i 0 ≡ mask.0 =
      ap (λ (r : List ℕ). slice_index_or r i 0) (sym same_row) ∙ item_of found.0.items i mask.0 0 mask.1 in
      has_reached v v.kind place.node i (slice_index_or row i 0) refl there (node_of k place at)
      (subst (IsMask made place.node v.kind i) (sym same_mask) mask.2)

  pub made_least : IsLeast (body_with paths order claims) (rows_view rows)
  made_least = record {
    has_rows = record {
      are_as_many = length-map rows (λ (r : Vec ℕ). r.items) ∙ told.counted;
      are_rows = are_rows made paths.variables order rows told;
    };
    each_row = row_reached;
    has_reached = λ i v n at l.
        has_reached v v.kind n i (mask_at (body_with paths order claims) (rows_view rows) i n) refl at l
        (mask_told made paths.variables order rows told n i v (node_stands n l) at);
  }
