-- Which packages can be taken, as the code keeps them: packages are listed when all that they import was delivered.
use Rattle.std.specs.Prelude.{ℕ, ◌≡◌, ◌<◌, ◌≤◌, Bool, true, false, List, [], Contains, Option, Some, None, length, slice_get, slice_set, slice_index_or, sum_by, vec_capacity}
use Rattle.board.specs.declared.entries.Phase.{Phase}
use Rattle.board.specs.declared.entries.Phase.TheVariants.{Untaken, Taken, Delivered, GivenBack}
use Rattle.board.specs.declared.ready.Ready.{Ready}
use Rattle.board.specs.Legal.{IsRanked, IsIn}

abbrev pub was_delivered : Option Phase → Bool
was_delivered None = false
was_delivered (Some Untaken) = false
was_delivered (Some (Taken worker)) = false
was_delivered (Some (Delivered worker)) = true
was_delivered (Some (GivenBack worker)) = false

abbrev pub is_untaken : Option Phase → Bool
is_untaken None = false
is_untaken (Some Untaken) = true
is_untaken (Some (Taken worker)) = false
is_untaken (Some (Delivered worker)) = false
is_untaken (Some (GivenBack worker)) = false

-- the places of what the package imports
abbrev pub row : List (List ℕ) → ℕ → List ℕ
row rows place = slice_index_or rows place []

abbrev pub unlisted : Option ℕ → Option (Option ℕ) → Option ℕ
unlisted None known = None
unlisted (Some r) None = None
unlisted (Some r) (Some count) = count

-- the import at that index was delivered
abbrev pub is_in_at : List Phase → List ℕ → ℕ → Bool
is_in_at phases imports k = was_delivered (slice_get phases (slice_index_or imports k 0))

-- from an index on all imports were delivered, up to the one that is found
abbrev pub Missing : List Phase → List ℕ → ℕ → Option ℕ → Type 0
Missing phases imports from None = (k : ℕ) → from ≤ k → k < length imports → is_in_at phases imports k ≡ true
Missing phases imports from (Some index) =
    (index < length imports) × (is_in_at phases imports index ≡ false)
    × ((k : ℕ) → from ≤ k → k < index → is_in_at phases imports k ≡ true)

abbrev pub is_untaken_at : List Phase → List ℕ → ℕ → Bool
is_untaken_at phases listed k = is_untaken (slice_get phases (slice_index_or listed k 0))

-- from an index on none of these is untaken, up to the one that is found
abbrev pub FirstUntaken : List Phase → List ℕ → ℕ → Option ℕ → Type 0
FirstUntaken phases listed from None = (k : ℕ) → from ≤ k → k < length listed → is_untaken_at phases listed k ≡ false
FirstUntaken phases listed from (Some index) =
    (from ≤ index) × (index < length listed) × (is_untaken_at phases listed index ≡ true)
    × ((k : ℕ) → from ≤ k → k < index → is_untaken_at phases listed k ≡ false)

-- all that have a rank are among these
abbrev pub AreListed : (ℕ → Option ℕ) → List ℕ → Type 0
AreListed rank ranked = (place r : ℕ) → rank place ≡ Some r → Contains ranked place

-- all that the package imports was delivered
abbrev pub AreIn : List (List ℕ) → List Phase → ℕ → Type 0
AreIn rows phases place = (j : ℕ) → Contains (row rows place) j → IsIn phases j

-- something that the package imports was not delivered
abbrev pub Lacks : List (List ℕ) → List Phase → ℕ → Type 0
Lacks rows phases place = (j : ℕ) × Contains (row rows place) j × (IsIn phases j → ⊥)

-- the package can be taken
abbrev pub CanTake : List (List ℕ) → (ℕ → Option ℕ) → List Phase → ℕ → Type 0
CanTake rows rank phases place = IsRanked rank place × (slice_get phases place ≡ Some Untaken) × AreIn rows phases place

-- what is kept of the packages that can be taken
pub record Listing : Type 0 where
  pub listed : List ℕ
  pub passed : ℕ
  pub known : List (Option ℕ)
  pub capacity : ℕ

abbrev pub ready_view : Ready → Listing
ready_view r = record {
  listed = r.listed.items;
  passed = r.passed;
  known = r.known.items;
  capacity = vec_capacity r.listed;
}

-- how often a package stands in the list
abbrev pub times_listed : Option ℕ → ℕ
times_listed None = 1
times_listed (Some count) = 0

-- What is kept is right, but for the packages that are to be looked at.
pub record Stands (rows : List (List ℕ)) (rank : ℕ → Option ℕ) (phases : List Phase) (todo : List ℕ) (l : Listing)
    : Type 0 where
  pub phases_as_many : length phases ≡ length rows
  pub as_many : length l.known ≡ length rows
  pub is_within : l.passed ≤ length l.listed
  pub are_known : (i p : ℕ) → slice_get l.listed i ≡ Some p → slice_get l.known p ≡ Some None
  pub are_in : (p : ℕ) → slice_get l.known p ≡ Some None → IsRanked rank p × AreIn rows phases p
  pub first_in : (p count : ℕ) → slice_get l.known p ≡ Some (Some count)
      → (k : ℕ) → k < count → k < length (row rows p) → is_in_at phases (row rows p) k ≡ true
  pub others_lack : (p count : ℕ) → slice_get l.known p ≡ Some (Some count) → IsRanked rank p → (Contains todo p → ⊥)
      → Lacks rows phases p
  pub is_listed : (p : ℕ) → slice_get l.known p ≡ Some None → slice_get phases p ≡ Some Untaken
      → (i : ℕ) × (l.passed ≤ i) × (slice_get l.listed i ≡ Some p)
  pub counted : length l.listed ≡ sum_by times_listed l.known
  pub has_room : length rows ≤ l.capacity

-- the next package is taken out of the list, where there is one
abbrev pub Takes : List (List ℕ) → (ℕ → Option ℕ) → List Phase → Listing → Listing → Option ℕ → Type 0
Takes rows rank phases old new None = ((p : ℕ) → CanTake rows rank phases p → ⊥) × (new ≡ old)
Takes rows rank phases old new (Some place) =
    CanTake rows rank phases place × ((worker : ℕ) → Stands rows rank (slice_set phases place (Taken worker)) [] new)
